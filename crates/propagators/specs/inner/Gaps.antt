-- The numbers of a set around one that it lacks.
use Rattle.std.specs.Prelude.{◌≡◌, ◌⊎◌, ◌≤◌, ◌-◌, ℕ, true, cond, ℤ, pos, ◌+ℤ◌, ◌-ℤ◌, ◌≤ℤ◌, ◌<ℤ◌, int_lt, List, get_or, Option, None, Some, IfSome, IsSomeAnd}
use Rattle.std.specs.List.{AllByRecursion}
use Rattle.symbols.specs.declared.ends.Ends.{Ends}
use Rattle.literals.specs.declared.lit.Lit.{Lit}
use Rattle.literals.specs.declared.lit.Lit.TheVariants.{Constraint, AtMost, AtLeast}
use Rattle.literals.specs.declared.reason.Reason.{Reason}
use Rattle.literals.specs.declared.reason.Step.TheVariants.{Hole}
use Rattle.literals.specs.Nogoods.{Rises}
use Rattle.ground_model.specs.Intervals.{lies_in}
use Rattle.linear_normal.specs.Steps.{none_between}
use Rattle.trail.specs.Implied.{implied}
use Rattle.trail.specs.Assignment.{Assignment, Names, lower_on, upper_on}
use Rattle.propagators.specs.declared.gap.Gap.{Gap}

-- the number lies above the one below the gap, if there is one
abbrev pub IsOver : Gap → ℤ → Type 0
IsOver gap k = IfSome gap.below (λ a. a <ℤ k)

-- the number lies below the one above the gap, if there is one
abbrev pub IsUnder : Gap → ℤ → Type 0
IsUnder gap k = IfSome gap.above (λ b. k <ℤ b)

-- the number is in the gap, what stands above the gap is in the set, and between what stands below and above nothing is
pub record IsGap (intervals : List (ℤ × ℤ)) (k : ℤ) (gap : Gap) : Type 0 where
  pub over : IsOver gap k
  pub under : IsUnder gap k
  pub above : IfSome gap.above (λ b. lies_in intervals b ≡ true)
  pub none : (low high : ℤ) → IsOver gap low → IsUnder gap high → none_between low high intervals ≡ true

-- there is an interval before this place, and it ends there
abbrev pub IsEndBefore : List (ℤ × ℤ) → ℕ → ℤ → Type 0
IsEndBefore intervals at end = (1 ≤ at) × ((d : ℤ × ℤ) → end ≡ (get_or intervals (at - 1) d).1)

-- a gap of the set at one of the variable's bounds
pub record IsAtBound (t : Assignment) (x : ℕ) (intervals : List (ℤ × ℤ)) (gap : Gap) : Type 0 where
  pub at : ℤ
  pub is : IsGap intervals at gap
  pub bound : (at ≡ lower_on t x) ⊎ (at ≡ upper_on t x)

-- the bound is that of the gap's other side: the number above the gap is within the variable's bounds, or no such is and the number below it is
abbrev pub IsLitBeside : Assignment → ℕ → Gap → Lit → Type 0
IsLitBeside t x gap l =
    IsSomeAnd gap.above (λ b. (b ≤ℤ upper_on t x) × (l ≡ AtLeast x b))
    ⊎ (IsUnder gap (upper_on t x) × IsSomeAnd gap.below (λ a. (lower_on t x ≤ℤ a) × (l ≡ AtMost x a)))

-- all numbers within the variable's bounds lie in the gap
abbrev pub IsNoneBeside : Assignment → ℕ → Gap → Type 0
IsNoneBeside t x gap = IsUnder gap (upper_on t x) × IsOver gap (lower_on t x)

-- that the variable lies above the number below the gap: nothing where the ends say it
abbrev pub lit_over : Ends → ℕ → Option ℤ → Option Lit
lit_over ends x None = None
lit_over ends x (Some a) = cond (int_lt a ends.min) None (Some (AtLeast x (a +ℤ pos 1)))

-- that it lies below the number above the gap
abbrev pub lit_under : Ends → ℕ → Option ℤ → Option Lit
lit_under ends x None = None
lit_under ends x (Some b) = cond (int_lt ends.max b) None (Some (AtMost x (b -ℤ pos 1)))

-- the literal is that the variable lies above the number below the gap, or below the number above it
abbrev pub IsBeside : ℕ → Gap → Lit → Type 0
IsBeside x gap l = IsSomeAnd gap.below (λ a. l ≡ AtLeast x (a +ℤ pos 1)) ⊎ IsSomeAnd gap.above (λ b. l ≡ AtMost x (b -ℤ pos 1))

-- the reason says that the constraint is true and that the variable lies in the gap, and nothing else
pub record Explains (t : Assignment) (number x : ℕ) (gap : Gap) (r : Reason) : Type 0 where
  pub step : r.step ≡ Hole number
  pub rises : Rises r.nogood
  pub names : AllByRecursion (Names t.shape) r.nogood
  pub listed : implied t.shape.ends r.nogood (Constraint number true) ≡ true
  pub over : IfSome gap.below (λ a. implied t.shape.ends r.nogood (AtLeast x (a +ℤ pos 1)) ≡ true)
  pub under : IfSome gap.above (λ b. implied t.shape.ends r.nogood (AtMost x (b -ℤ pos 1)) ≡ true)
  pub each : AllByRecursion (λ l. (l ≡ Constraint number true) ⊎ IsBeside x gap l) r.nogood
