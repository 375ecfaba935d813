-- When a propagator has nothing left to say on a trail, how long that lasts, and what its answers tell.
use Rattle.std.specs.Prelude.{◌≡◌, ℕ, zero, suc, ◌<◌, ◌≤◌, ◌⊎◌, Bool, true, false, IsTrue, length, Some}
use Rattle.literals.specs.declared.lit.Lit.{Lit}
use Rattle.literals.specs.declared.lit.Lit.TheVariants.{Constraint}
use Rattle.literals.specs.declared.reason.Step.{Step}
use Rattle.literals.specs.declared.reason.Step.TheVariants.{Sum, Hole}
use Rattle.literals.specs.declared.reason.Reason.{Reason}
use Rattle.trail.specs.Assignment.{Assignment, IsAssignment, truth_on, lower_on, upper_on}
use Rattle.trail.specs.Forced.{AllTrueOn, AllButOpen}
use Rattle.propagator_core.specs.Meaning.{Meaning}
use Rattle.propagator_core.specs.Touching.{SameOfAll}
use Rattle.propagator_core.specs.Shown.{IsConflict}
use Rattle.propagator_core.specs.declared.outcome.Outcome.{Outcome}
use Rattle.propagator_core.specs.declared.outcome.Outcome.TheVariants.{Quiet, Narrowed, Conflict}

-- the step is that of the objective's bound
abbrev pub is_of_objective : Step → Bool
is_of_objective (Sum zero) = true
is_of_objective _ = false

-- the step is that of a sum, or of the numbers of a domain
abbrev pub narrows : Step → Bool
narrows (Sum zero) = false
narrows (Sum (suc c)) = true
narrows (Hole zero) = false
narrows (Hole (suc c)) = true
narrows _ = false

-- each variable has one value, and each constraint whose truth is counted is decided
pub record IsDecided (m : Meaning) (t : Assignment) : Type 0 where
  pub values : (x : ℕ) → 1 ≤ x → x ≤ t.shape.variables → lower_on t x ≡ upper_on t x
  pub counted : (c : ℕ) → IsTrue (m.counts c) → (truth_on t (Constraint c true) ≡ Some true) ⊎ (truth_on t (Constraint c true) ≡ Some false)

-- no valid reason has all literals true, or, for a sum or a domain, all but one and that one open, and what is decided is settled
pub record IsQuiet (m : Meaning) (t : Assignment) : Type 0 where
  pub none_true : (r : Reason) → IsTrue (m.valid t.shape r) → is_of_objective r.step ≡ false → AllTrueOn t r.nogood → ⊥
  pub none_forced : (r : Reason) (l : Lit) → IsTrue (m.valid t.shape r) → narrows r.step ≡ true → AllButOpen t r.nogood l → ⊥
  pub settled : IsDecided m t → IsTrue (m.settled t)

-- where it rests it is quiet, and it rests on while the trail knows the same of all that it touches
pub record IsSteady (m : Meaning) : Type 0 where
  pub quiet : (t : Assignment) → IsAssignment t → IsTrue (m.fits t.shape) → IsTrue (m.rests t) → IsQuiet m t
  pub lasts : (t u : Assignment) → u.shape ≡ t.shape → SameOfAll t u m.touches → IsTrue (m.rests t) → IsTrue (m.rests u)

-- what an answer tells of the trail before the call and after it
abbrev pub Answers : Meaning → Assignment → Assignment → Outcome → Type 0
Answers m old new Quiet = IsQuiet m new × IsTrue (m.rests new)
Answers m old new Narrowed = length old.entries < length new.entries
Answers m old new (Conflict r) = IsConflict m.valid new r
