-- What a propagator waits for.
use Rattle.std.specs.Prelude.{◌≡◌, ◌==◌, Bool, true, false, List}
use Rattle.std.specs.List.{AllByRecursion, list_any}
use Rattle.literals.specs.declared.lit.Lit.{Lit}
use Rattle.literals.specs.declared.lit.Lit.TheVariants.{Constraint, AtMost, AtLeast}
use Rattle.trail.specs.Assignment.{Assignment, is_true_on, lower_on, upper_on}
use Rattle.propagator_core.specs.declared.touch.Touch.{Touch}
use Rattle.propagator_core.specs.declared.touch.Touch.TheVariants.{Bounds, Truth}

-- the literal is a bound of the variable, or the truth of the constraint
abbrev pub touches_lit : Lit → Touch → Bool
touches_lit (Constraint n sign) (Truth c) = n == c
touches_lit (AtMost x k) (Bounds y) = x == y
touches_lit (AtLeast x k) (Bounds y) = x == y
touches_lit _ _ = false

-- the literal touches one of these
abbrev pub is_touched : List Touch → Lit → Bool
is_touched touches l = list_any (touches_lit l) touches

-- the two trails know the same of it
abbrev pub SameOf : Assignment → Assignment → Touch → Type 0
SameOf t u (Bounds x) = (lower_on u x ≡ lower_on t x) × (upper_on u x ≡ upper_on t x)
SameOf t u (Truth c) = (is_true_on u (Constraint c true) ≡ is_true_on t (Constraint c true)) × (is_true_on u (Constraint c false) ≡ is_true_on t (Constraint c false))

-- the two trails know the same of each
abbrev pub SameOfAll : Assignment → Assignment → List Touch → Type 0
SameOfAll t u touches = AllByRecursion (SameOf t u) touches
