-- A sum that is a constraint, or the objective.
use Rattle.std.specs.Prelude.{◌≡◌, ℕ, Bool, true, ℤ, List, [], ◌∷◌, None, Some}
use Rattle.std.specs.List.{AllByRecursion}
use Rattle.literals.specs.declared.lit.Lit.{Lit}
use Rattle.literals.specs.declared.lit.Lit.TheVariants as l
use Rattle.literals.specs.declared.reason.Step.{Step}
use Rattle.literals.specs.declared.reason.Step.TheVariants.{Sum}
use Rattle.linear_normal.specs.declared.constraint.Item.{Item}
use Rattle.trail.specs.Assignment.{Assignment, is_true_on}
use Rattle.propagator_core.specs.Meaning.{Meaning}
use Rattle.sum_propagator.specs.declared.sum.Kind.{Kind}
use Rattle.sum_propagator.specs.declared.sum.Kind.TheVariants.{Constraint, Unbounded, Bounded}
use Rattle.sum_propagator.specs.Sums.{sum_meaning}
use Rattle.sum_propagator.specs.Objective.{objective_meaning}

-- what the sum stands for
abbrev pub meaning_of : Kind → ℕ → List Item → ℤ → Meaning
meaning_of Constraint number items most = sum_meaning number items most
meaning_of Unbounded number items most = objective_meaning items None
meaning_of Bounded number items most = objective_meaning items (Some most)

-- the step of its reasons
abbrev pub step_of : Kind → ℕ → Step
step_of Constraint number = Sum number
step_of Unbounded number = Sum 0
step_of Bounded number = Sum 0

-- the literal that each of its reasons has: a constraint's own on this side
abbrev pub own_lits : Kind → ℕ → Bool → List Lit
own_lits Constraint number side = l.Constraint number side ∷ []
own_lits Unbounded number side = []
own_lits Bounded number side = []

-- a constraint may be true on either side, an objective with a bound is true, and one without says nothing
abbrev pub IsAbout : Kind → Bool → Type 0
IsAbout Constraint side = Unit {0}
IsAbout Unbounded side = ⊥
IsAbout Bounded side = side ≡ true

-- it is true on this side
abbrev pub IsOn : Assignment → Kind → ℕ → Bool → Type 0
IsOn t kind number side = IsAbout kind side × AllByRecursion (λ m. is_true_on t m ≡ true) (own_lits kind number side)

-- it is the objective's sum
abbrev pub IsObjective : Kind → Type 0
IsObjective Constraint = ⊥
IsObjective Unbounded = Unit {0}
IsObjective Bounded = Unit {0}
