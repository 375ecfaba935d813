-- From some rank on nothing more is derivable.
use Rattle.std.proofs.Common.{◌≡◌, ◌<◌, ◌≤◌, ◌+◌, ◌⊎◌, inl, inr, ℕ, zero, suc, Bool, true, false, cond, not, ◌&&◌, ◌||◌, ◌==◌, List, [], ◌∷◌, length, refl, sym, ◌∙◌, subst, true≢false, eqb-true, arith}
use Rattle.std.specs.List.{list_all}
use Rattle.ground_model.specs.declared.rule.GroundRule.{GroundRule}
use Rattle.ground_model.specs.Members.{IsMember}
use Rattle.ground_model.specs.Derivable.{Derivable}
use Rattle.ground_model.specs.World.{World}
use Rattle.ground_model.specs.Ways.{Way, holds_from, ways, gives, derivable}
use Rattle.ground_model.proofs.Bools.{and_elim}
use Rattle.ground_model.proofs.MemberLemmas.{member_any}
use Rattle.ground_model.proofs.Ranks.{gives_up, rank_up}
use Rattle.ground_model.proofs.WayLemmas.{family, derivable_from_test, test_from_derivable}

-- TESTS THAT GROW

-- how many members pass a test
abbrev pub passing : {X : Type 0} → (X → Bool) → List X → ℕ
passing test [] = 0
passing test (x ∷ xs) = cond (test x) (suc (passing test xs)) (passing test xs)

passing_most : {X : Type 0} (test : X → Bool) (xs : List X) → passing test xs ≤ length xs
passing_most test [] = omega arith
passing_most test (x ∷ xs) = go (test x) (passing_most test xs)
  where
    go : (t : Bool) → passing test xs ≤ length xs → cond t (suc (passing test xs)) (passing test xs) ≤ suc (length xs)
    go true le = omega arith
    go false le = omega arith

passing_up : {X : Type 0} (p q : X → Bool) → ((x : X) → p x ≡ true → q x ≡ true) → (xs : List X) → passing p xs ≤ passing q xs
passing_up p q up [] = omega arith
passing_up p q up (x ∷ xs) = go (p x) (q x) (up x) (passing_up p q up xs)
  where
    go : (s t : Bool) → (s ≡ true → t ≡ true) → passing p xs ≤ passing q xs
        → cond s (suc (passing p xs)) (passing p xs) ≤ cond t (suc (passing q xs)) (passing q xs)
    go true true f le = omega arith
    go true false f le = absurd (true≢false (sym (f refl)))
    go false true f le = omega arith
    go false false f le = le

-- no more members pass the wider test, or the wider test passes more of them
same_or_more : {X : Type 0} (p q : X → Bool) → ((x : X) → p x ≡ true → q x ≡ true) → (xs : List X)
    → ((x : X) → IsMember xs x → q x ≡ true → p x ≡ true) ⊎ (passing p xs < passing q xs)
same_or_more p q up [] = inl (λ x m e. absurd m)
same_or_more {X} p q up (x ∷ xs) = go (p x) (q x) refl refl (same_or_more p q up xs) (passing_up p q up xs)
  where
    more : (s t : Bool) → s ≡ t → passing p xs < passing q xs → cond s (suc (passing p xs)) (passing p xs) < cond t (suc (passing q xs)) (passing q xs)
    more true true e lt = omega arith
    more true false e lt = absurd (true≢false e)
    more false true e lt = absurd (true≢false (sym e))
    more false false e lt = lt

    here : q x ≡ p x → ((y : X) → IsMember xs y → q y ≡ true → p y ≡ true) → (y : X) → IsMember (x ∷ xs) y → q y ≡ true → p y ≡ true
    here same rest y (inl e) t = subst (λ z. p z ≡ true) (sym e) (sym same ∙ subst (λ z. q z ≡ true) e t)
    here same rest y (inr m) t = rest y m t

    both : p x ≡ q x → (((y : X) → IsMember xs y → q y ≡ true → p y ≡ true) ⊎ (passing p xs < passing q xs))
        → ((y : X) → IsMember (x ∷ xs) y → q y ≡ true → p y ≡ true) ⊎ (passing p (x ∷ xs) < passing q (x ∷ xs))
    both same (inl rest) = inl (here (sym same) rest)
    both same (inr lt) = inr (more (p x) (q x) same lt)

    only : (s t : Bool) → s ≡ false → t ≡ true → passing p xs ≤ passing q xs → cond s (suc (passing p xs)) (passing p xs) < cond t (suc (passing q xs)) (passing q xs)
    only false true a b le = omega arith
    only true t a b le = absurd (true≢false a)
    only false false a b le = absurd (true≢false (sym b))

    go : (s t : Bool) → p x ≡ s → q x ≡ t → (((y : X) → IsMember xs y → q y ≡ true → p y ≡ true) ⊎ (passing p xs < passing q xs)) → passing p xs ≤ passing q xs
        → ((y : X) → IsMember (x ∷ xs) y → q y ≡ true → p y ≡ true) ⊎ (passing p (x ∷ xs) < passing q (x ∷ xs))
    go true true a b rest le = both (a ∙ sym b) rest
    go false false a b rest le = both (a ∙ sym b) rest
    go true false a b rest le = absurd (true≢false (sym (up x a) ∙ b))
    go false true a b rest le = inr (only (p x) (q x) a b le)

module _ {X : Type 0} (xs : List X) (test : ℕ → X → Bool) (grows : (n : ℕ) (x : X) → test n x ≡ true → test (suc n) x ≡ true) where
  stop_from : (left n : ℕ) → length xs ≤ left + passing (test n) xs → (last : ℕ) × ((x : X) → IsMember xs x → test (suc last) x ≡ true → test last x ≡ true)
  stop_from zero n le = go (same_or_more (test n) (test (suc n)) (grows n) xs)
    where
      go : ((x : X) → IsMember xs x → test (suc n) x ≡ true → test n x ≡ true) ⊎ (passing (test n) xs < passing (test (suc n)) xs)
          → (last : ℕ) × ((x : X) → IsMember xs x → test (suc last) x ≡ true → test last x ≡ true)
      go (inl same) = (n, same)
      go (inr lt) = let most = passing_most (test (suc n)) xs in absurd (omega arith)
  stop_from (suc left) n le = go (same_or_more (test n) (test (suc n)) (grows n) xs) (stop_from left (suc n))
    where
      go : ((x : X) → IsMember xs x → test (suc n) x ≡ true → test n x ≡ true) ⊎ (passing (test n) xs < passing (test (suc n)) xs)
          → (length xs ≤ left + passing (test (suc n)) xs → (last : ℕ) × ((x : X) → IsMember xs x → test (suc last) x ≡ true → test last x ≡ true))
          → (last : ℕ) × ((x : X) → IsMember xs x → test (suc last) x ≡ true → test last x ≡ true)
      go (inl same) rec = (n, same)
      go (inr lt) rec = rec (omega arith)

  -- tests that grow over a list stop growing
  pub stop : (last : ℕ) × ((x : X) → IsMember xs x → test (suc last) x ≡ true → test last x ≡ true)
  stop = stop_from (length xs) 0 (omega arith)

-- RANKS

module _ (rules : List GroundRule) (world : World) where
  next_rank : (rank a : ℕ) → derivable rules world rank a ≡ true → derivable rules world (suc rank) a ≡ true
  next_rank rank a e =
      test_from_derivable [] rules world (suc rank) a
      (rank_up (family [] rules world) world.atoms rank a (derivable_from_test [] rules world rank a e))

  found : (last : ℕ) × ((way : Way) → IsMember (ways rules) way → derivable rules world (suc last) way.atom ≡ true → derivable rules world last way.atom ≡ true)
  found = stop (ways rules) (λ rank way. derivable rules world rank way.atom) (λ rank way e. next_rank rank way.atom e)

  pub last_rank : ℕ
  last_rank = found.0

  -- what is derivable one rank later is derivable at the last one
  pub last_step : (a : ℕ) → derivable rules world (suc last_rank) a ≡ true → derivable rules world last_rank a ≡ true
  unfolding last_rank
  last_step a e =
      let w = member_any (gives (derivable rules world found.0) world a) (ways rules) e in
      let p =
      and_elim (w.0.atom == a) (not w.0.is_choice || world.atoms a)
      (and_elim ((w.0.atom == a) && (not w.0.is_choice || world.atoms a)) (list_all (holds_from (derivable rules world found.0) world) w.0.body) w.2).0 in
      let s : w.0.atom ≡ a = eqb-true w.0.atom a p.0 in
      subst (λ b. derivable rules world found.0 b ≡ true) s (found.1 w.0 w.1 (subst (λ b. derivable rules world (suc found.0) b ≡ true) (sym s) e))

  -- what is derivable at some rank is derivable at the last one
  pub last_all : (rank a : ℕ) → derivable rules world rank a ≡ true → derivable rules world last_rank a ≡ true
  last_all zero a e = absurd (true≢false (sym e))
  last_all (suc rank) a e =
      last_step a
      (test_from_derivable [] rules world (suc last_rank) a
      (gives_up (family [] rules world) world.atoms (Derivable (family [] rules world) world.atoms rank) (Derivable (family [] rules world) world.atoms last_rank)
      (λ b d. derivable_from_test [] rules world last_rank b (last_all rank b (test_from_derivable [] rules world rank b d)))
      a (derivable_from_test [] rules world (suc rank) a e)))
