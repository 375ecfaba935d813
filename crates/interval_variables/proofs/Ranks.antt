-- Variables that are bound at some ranks are bound at one, and bind the other side of an equation.
use Rattle.std.proofs.Common.{◌≡◌, ◌≤◌, inl, inr, ℕ, zero, suc, ◌+◌, true, false, List, [], ◌∷◌, refl, sym, ◌∙◌, arith}
use Rattle.std.specs.List.{AllByRecursion}
use Rattle.symbols.specs.declared.rel.Rel.TheVariants.{Equal}
use Rattle.syntax_tree.specs.declared.term.Term.{Term}
use Rattle.syntax_tree.specs.declared.term.Term.TheVariants as t
use Rattle.ground_model.specs.Members.{IsMember}
use Rattle.ground_model.proofs.MemberLemmas.{property_member}
use Rattle.program_meaning.specs.Read.{PlainLiteral, PlainAtom, PlainCompare}
use Rattle.program_meaning.specs.Variables.{occurs}
use Rattle.program_meaning.specs.Safety.{AllIn, Binds, BoundAt, IsBound}
use Rattle.program_meaning.proofs.Layers.{plain_variable-Variable}
use Rattle.variable_safety.specs.inner.Occurring.{variables_in}
use Rattle.variable_safety.proofs.Lists.{listed, is_listed}
use Rattle.variable_safety.proofs.Occurs.{occurs_is}

binds_more : (P Q : ℕ → Type 0) → ((n : ℕ) → P n → Q n) → (literal : PlainLiteral) (n : ℕ) → Binds P literal n → Binds Q literal n
binds_more P Q f (PlainAtom term true) n b = b
binds_more P Q f (PlainAtom term false) n b = absurd b
binds_more P Q f (PlainCompare left r right) n b =
    (b.0, elim b.1 [ inl k ↦ inl (k.0, λ m o. f m (k.1 m o)) | inr k ↦ inr (k.0, λ m o. f m (k.1 m o)) ])

module _ (Given : ℕ → Type 0) (literals : List PlainLiteral) where
  raised : (rank other n : ℕ) → rank ≤ other → BoundAt Given literals rank n → BoundAt Given literals other n
  raised zero zero n le b = b
  raised zero (suc other) n le b = inl b
  raised (suc rank) zero n le b = absurd (omega arith)
  raised (suc rank) (suc other) n le (inl g) = inl g
  raised (suc rank) (suc other) n le (inr b) =
      inr (b.0, b.1, binds_more (BoundAt Given literals rank) (BoundAt Given literals other) (λ m. raised rank other m (omega arith)) b.0 n b.2)

  all_raised : (rank other : ℕ) (xs : List ℕ) → rank ≤ other → AllByRecursion (BoundAt Given literals rank) xs → AllByRecursion (BoundAt Given literals other) xs
  all_raised rank other [] le h = tt
  all_raised rank other (x ∷ xs) le h = (raised rank other x le h.0, all_raised rank other xs le h.1)

  common : (xs : List ℕ) → AllByRecursion (IsBound Given literals) xs → (rank : ℕ) × AllByRecursion (BoundAt Given literals rank) xs
  common [] h = (0, tt)
  common (x ∷ xs) h =
      let r = common xs h.1 in
      let a = h.0.0 in
      (a + r.0, (raised a (a + r.0) x (omega arith) h.0.1, all_raised r.0 (a + r.0) xs (omega arith) r.1))

  equation_binds : (term : Term) (n : ℕ) → IsMember literals (PlainCompare (t.Variable n) Equal term) → AllByRecursion (IsBound Given literals) (variables_in term) → IsBound Given literals n
  equation_binds term n m h =
      let r = common (variables_in term) h in
      let all : AllIn (BoundAt Given literals r.0) term =
      λ k o. property_member (BoundAt Given literals r.0) (variables_in term) k r.1 (listed k (variables_in term) (sym (occurs_is k term) ∙ o)) in
      (suc r.0, inr (PlainCompare (t.Variable n) Equal term, m, (refl, inl (plain_variable-Variable n, all))))

  not_not_all : (xs : List ℕ) → ((m : ℕ) → IsMember xs m → (IsBound Given literals m → ⊥) → ⊥) → (AllByRecursion (IsBound Given literals) xs → ⊥) → ⊥
  not_not_all [] h none = none tt
  not_not_all (x ∷ xs) h none = h x (inl refl) (λ b. not_not_all xs (λ m k. h m (inr k)) (λ all. none (b, all)))

  -- a variable is bound by an equation with it, if none of the other side's variables can be unbound
  pub not_unbound : (term : Term) (n : ℕ) → IsMember literals (PlainCompare (t.Variable n) Equal term) → ((m : ℕ) → occurs m term ≡ true → (IsBound Given literals m → ⊥) → ⊥)
      → (IsBound Given literals n → ⊥) → ⊥
  not_unbound term n m h none =
      not_not_all (variables_in term) (λ k i. h k (occurs_is k term ∙ is_listed k (variables_in term) i)) (λ all. none (equation_binds term n m all))
