-- Lists of failed checks in which there is nothing.
use Rattle.std.proofs.Common.{◌≡◌, ℕ, ◌+◌, Bool, true, false, not, List, [], ◌∷◌, ◌++◌, map, refl}
use Rattle.std.specs.List.{AllByRecursion}
use Rattle.grammar.specs.declared.check.Check.{Check}
use Rattle.grammar.specs.declared.shape.Shape.{Shape}
use Rattle.grammar.specs.declared.shape.Shape.TheVariants as shape
use Rattle.grammar.specs.Row.{Row}
use Rattle.grammar.specs.Sight.{refused_by, along_tail, along}
use Rattle.grammar.specs.Check.{fails_where, bad_terms, is_interval}
use Rattle.grammar.specs.StatementTree.{items}

pub both_nothing : {X : Type 0} (xs ys : List X) → xs ++ ys ≡ [] → (xs ≡ []) × (ys ≡ [])
both_nothing [] ys h = (refl, h)
both_nothing (x ∷ xs) ys h = absurd cc

pub no_bad_terms : (places : List ℕ) → bad_terms places ≡ [] → places ≡ []
no_bad_terms [] h = refl
no_bad_terms (at ∷ places) h = absurd cc

pub fails_not : (b : Bool) (check : Check) (at : ℕ) → fails_where b check at ≡ [] → b ≡ false
fails_not true check at h = absurd cc
fails_not false check at h = refl

pub not_false : (b : Bool) → not b ≡ false → b ≡ true
not_false true h = refl
not_false false h = absurd cc

pub not_refused : (s : Shape) (at : ℕ) → refused_by s at ≡ [] → is_interval s ≡ false
not_refused shape.Atom at h = refl
not_refused shape.Interval at h = absurd cc
not_refused shape.Other at h = refl

-- the trees of a row's items have a property, where no item fails
module _ {X I S A : Type 0} (P : A → Type 0) (tree : I → A) (gives : I → ℕ → List X) (long : I → ℕ) (law : (x : I) (at : ℕ) → gives x at ≡ [] → P (tree x)) where
  tail_passes : (rest : List (S × I)) (at : ℕ) → along_tail gives long rest at ≡ [] → AllByRecursion P (map (λ (p : S × I). tree p.1) rest)
  tail_passes [] at h = tt
  tail_passes (part ∷ parts) at h =
      let p = both_nothing (gives part.1 (at + 1)) (along_tail gives long parts (at + 1 + long part.1)) h in
      (law part.1 (at + 1) p.0, tail_passes parts (at + 1 + long part.1) p.1)

  pub row_passes : (row : Row I S) (at : ℕ) → along gives long row at ≡ [] → AllByRecursion P (items tree row)
  row_passes row at h =
      let p = both_nothing (gives row.first at) (along_tail gives long row.rest (at + long row.first)) h in
      (law row.first at p.0, tail_passes row.rest (at + long row.first) p.1)
