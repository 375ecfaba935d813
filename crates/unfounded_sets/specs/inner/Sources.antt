-- Sources: for each atom of a cycle a body that supports it, by atoms that have a source earlier or lie lower.
use Rattle.std.specs.Prelude.{◌≡◌, ◌⊎◌, ℕ, ◌<◌, ◌≤◌, true, false, List, Contains, slice_index}
use Rattle.std.specs.List.{AllByRecursion}
use Rattle.literals.specs.declared.lit.Lit.TheVariants.{Atom, Body}
use Rattle.linear_normal.specs.declared.numbered.Support.{Support}
use Rattle.linear_normal.specs.Steps.{is_among}
use Rattle.trail.specs.Assignment.{Assignment, is_true_on}
use Rattle.unfounded_sets.specs.Dependence.{row_of}

-- the first stands lower than the second: in a lower component, or in the same by a lower rank
abbrev pub IsLower : List ℕ → List ℕ → ℕ → ℕ → Type 0
IsLower level rank b a = (slice_index level b < slice_index level a) ⊎ ((slice_index level b ≡ slice_index level a) × (slice_index rank b < slice_index rank a))

-- each of these stands lower
abbrev pub AreLower : List ℕ → List ℕ → ℕ → List ℕ → Type 0
AreLower level rank a atoms = AllByRecursion (λ b. IsLower level rank b a) atoms

-- the support is of an atom of a cycle, or its body's positive atoms are of lower components
abbrev pub IsGrouped : List (List ℕ) → List ℕ → List ℕ → Support → Type 0
IsGrouped bodies level cyclic support =
    (is_among cyclic support.atom ≡ true) ⊎ AllByRecursion (λ b. slice_index level b < slice_index level support.atom) (row_of bodies support.body)

-- the atom has no source, or a body that supports it by atoms that stand lower
abbrev pub IsSourced : List (List ℕ) → List Support → List ℕ → List ℕ → List ℕ → ℕ → Type 0
IsSourced bodies supports level rank source a =
    (slice_index source a ≡ 0)
    ⊎ (Contains supports (record { atom = a; body = slice_index source a }) × AreLower level rank a (row_of bodies (slice_index source a)))

-- the atom has a source that is not false, or it is false
abbrev pub Stands : Assignment → List ℕ → ℕ → Type 0
Stands t source a =
    ((1 ≤ slice_index source a) × (is_true_on t (Body (slice_index source a) false) ≡ false)) ⊎ (is_true_on t (Atom a false) ≡ true)
