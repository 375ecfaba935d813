-- Ranks do not matter: what is derivable at a rank is derivable at every larger one.
use Rattle.std.proofs.Common.{◌≡◌, ◌≤◌, ◌+◌, ◌-◌, ℕ, zero, suc, Bool, true, false, inl, inr, List, [], ◌∷◌, arith, subst}
use Rattle.std.specs.List.{AllByRecursion}
use Rattle.ground_model.specs.Rules.{Rules, Literal, AtomLiteral, TheoryLiteral, AtomHead, IsTrueIn}
use Rattle.ground_model.specs.Derivable.{Holds, Gives, Derivable}

module _ {A : Type 0} (rules : Rules A) (model : A → Bool) where
  -- a body that holds with a property holds with a wider one
  pub body_up : (P Q : A → Type 0) → ((a : A) → P a → Q a) → (body : List (Literal A)) → AllByRecursion (Holds model P) body → AllByRecursion (Holds model Q) body
  body_up P Q f [] holds = tt
  body_up P Q f (AtomLiteral a true ∷ body) holds = (f a holds.0, body_up P Q f body holds.1)
  body_up P Q f (AtomLiteral a false ∷ body) holds = (holds.0, body_up P Q f body holds.1)
  body_up P Q f (TheoryLiteral truth ∷ body) holds = (holds.0, body_up P Q f body holds.1)

  pub gives_up : (P Q : A → Type 0) → ((a : A) → P a → Q a) → (a : A) → Gives rules model P a → Gives rules model Q a
  gives_up P Q f a (inl gives) = inl (gives.0, gives.1, body_up P Q f (rules.body gives.0) gives.2)
  gives_up P Q f a (inr gives) =
      inr (
        gives.0,
        gives.1,
        gives.2,
        gives.3,
        body_up P Q f (rules.body gives.0) gives.4,
        body_up P Q f (rules.item gives.0 gives.1).condition gives.5,
      )

  pub rank_up : (rank : ℕ) (a : A) → Derivable rules model rank a → Derivable rules model (suc rank) a
  rank_up zero a derivable = absurd derivable
  rank_up (suc rank) a derivable = gives_up (Derivable rules model rank) (Derivable rules model (suc rank)) (rank_up rank) a derivable

  pub rank_add : (more rank : ℕ) (a : A) → Derivable rules model rank a → Derivable rules model (more + rank) a
  rank_add zero rank a derivable = let e : rank ≡ zero + rank = omega arith in subst (λ n. Derivable rules model n a) e derivable
  rank_add (suc more) rank a derivable =
      let e : suc (more + rank) ≡ suc more + rank = omega arith in
      subst (λ n. Derivable rules model n a) e (rank_up (more + rank) a (rank_add more rank a derivable))

  pub rank_le : (low high : ℕ) → low ≤ high → (a : A) → Derivable rules model low a → Derivable rules model high a
  rank_le low high le a derivable =
      let e : (high - low) + low ≡ high = omega arith in
      subst (λ n. Derivable rules model n a) e (rank_add (high - low) low a derivable)

  -- derivable at some rank
  abbrev pub IsDerivable : A → Type 0
  IsDerivable a = (rank : ℕ) × Derivable rules model rank a

  -- a body whose positive atoms are derivable has a rank for all of them
  pub one_rank : (body : List (Literal A)) → AllByRecursion (Holds model IsDerivable) body → (rank : ℕ) × AllByRecursion (Holds model (Derivable rules model rank)) body
  one_rank [] holds = (0, tt)
  one_rank (AtomLiteral a true ∷ body) holds =
      let rest = one_rank body holds.1 in
      let own = holds.0 in (
        own.0 + rest.0,
        (
          rank_le own.0 (own.0 + rest.0) (omega arith) a own.1,
          body_up (Derivable rules model rest.0) (Derivable rules model (own.0 + rest.0)) (λ b. rank_add own.0 rest.0 b) body rest.1,
        ),
      )
  one_rank (AtomLiteral a false ∷ body) holds = let rest = one_rank body holds.1 in (rest.0, (holds.0, rest.1))
  one_rank (TheoryLiteral truth ∷ body) holds = let rest = one_rank body holds.1 in (rest.0, (holds.0, rest.1))

  -- a true body holds with any property that the atoms of the set have
  pub true_holds : (P : A → Type 0) → ((a : A) → model a ≡ true → P a) → (body : List (Literal A)) → AllByRecursion (IsTrueIn model) body → AllByRecursion (Holds model P) body
  true_holds P f [] holds = tt
  true_holds P f (AtomLiteral a true ∷ body) holds = (f a holds.0, true_holds P f body holds.1)
  true_holds P f (AtomLiteral a false ∷ body) holds = (holds.0, true_holds P f body holds.1)
  true_holds P f (TheoryLiteral truth ∷ body) holds = (holds.0, true_holds P f body holds.1)

  -- where the atoms of the set are derivable, the head of a rule with a true body is derivable
  pub head_derivable : ((a : A) → model a ≡ true → IsDerivable a) → (name : rules.Name) (a : A) → rules.head name ≡ AtomHead a → AllByRecursion (IsTrueIn model) (rules.body name) → IsDerivable a
  head_derivable derived name a head holds =
      let r = one_rank (rules.body name) (true_holds IsDerivable derived (rules.body name) holds) in
      (suc r.0, inl (name, head, r.1))

  -- what a rule gives from derivable atoms is derivable
  pub derivable_from_some : (a : A) → Gives rules model IsDerivable a → IsDerivable a
  derivable_from_some a (inl gives) = let r = one_rank (rules.body gives.0) gives.2 in (suc r.0, inl (gives.0, gives.1, r.1))
  derivable_from_some a (inr gives) =
      let body = one_rank (rules.body gives.0) gives.4 in
      let condition = one_rank (rules.item gives.0 gives.1).condition gives.5 in
      let up = λ (low : ℕ) (le : low ≤ body.0 + condition.0) (b : A) (d : Derivable rules model low b). rank_le low (body.0 + condition.0) le b d in (
        suc (body.0 + condition.0),
        inr (
          gives.0,
          gives.1,
          gives.2,
          gives.3,
          body_up (Derivable rules model body.0) (Derivable rules model (body.0 + condition.0)) (up body.0 (omega arith)) (rules.body gives.0) body.1,
          body_up (Derivable rules model condition.0) (Derivable rules model (body.0 + condition.0)) (up condition.0 (omega arith)) (rules.item gives.0 gives.1).condition condition.1,
        ),
      )
