-- Trails on which nothing is left to propagate.
use Rattle.std.specs.Prelude.{◌≡◌, ◌⊎◌, ℕ, true, IsTrue, List, length, Some}
use Rattle.std.specs.List.{All, AllByRecursion}
use Rattle.ground_model.specs.declared.program.GroundProgram.{GroundProgram}
use Rattle.ground_model.specs.Answers.{IsNumbered, IsAnswerOf}
use Rattle.ground_model.specs.Members.{IsMember}
use Rattle.linear_normal.specs.declared.constraint.Constraint.{Constraint}
use Rattle.linear_normal.specs.Numbering.{numbering}
use Rattle.linear_normal.specs.Truth.{numbered_in}
use Rattle.completion.specs.Inputs.{input_nogoods}
use Rattle.completion.specs.Tight.{IsTight}
use Rattle.trail.specs.Assignment.{Assignment, IsAssignment}
use Rattle.nogood_store.specs.Holding.{Held, IsHeld}
use Rattle.nogood_store.specs.Propagation as store
use Rattle.propagator_core.specs.Meaning.{Meaning}
use Rattle.propagator_core.specs.Quiet.{IsSteady}
use Rattle.propagator_core.specs.Several.{AllFit, AllRest}
use Rattle.trail_worlds.specs.Total.{shape_of, IsTotal}
use Rattle.trail_worlds.specs.Worlds.{answer_on, has_work, IsSettledOn}
use Rattle.trail_worlds.specs.Founded.{IsFounded}

-- held nogoods force nothing, and each propagator rests
pub record IsCalm (held : List Held) (meanings : List Meaning) (t : Assignment) : Type 0 where
  pub nogoods : AllByRecursion (λ h. store.IsQuiet t h.nogood) held
  pub rest : AllRest meanings t

-- the propagator counts the truth of constraints of the program alone, and where all is decided it settles the constraint of this number
pub record Settles (program : GroundProgram) (n : ℕ) (constraint : Constraint) (m : Meaning) : Type 0 where
  pub counted : (k : ℕ) → IsTrue (m.counts k) → IsNumbered (length (numbering program).constraints) k
  pub settles : (t : Assignment) → t.shape ≡ shape_of program → IsAssignment t → IsTotal t → IsTrue (m.settled t) → IsSettledOn t n constraint

-- each constraint that needs work has a propagator that settles it
abbrev pub EachIsSettled : GroundProgram → List Meaning → Type 0
EachIsSettled program meanings =
    (n : ℕ) (constraint : Constraint) → numbered_in (numbering program).constraints n ≡ Some constraint → has_work constraint ≡ true
    → (m : Meaning) × IsMember meanings m × Settles program n constraint m

-- a trail of the program on which all is decided and nothing is left to propagate, where the input nogoods are held and each constraint has its propagator
pub record IsAtRest (program : GroundProgram) (held : List Held) (meanings : List Meaning) (t : Assignment) : Type 0 where
  pub assignment : IsAssignment t
  pub shape : t.shape ≡ shape_of program
  pub total : IsTotal t
  pub inputs : AllByRecursion (IsHeld held) (input_nogoods program)
  pub calm : IsCalm held meanings t
  pub steady : All IsSteady meanings
  pub fit : AllFit meanings t.shape
  pub each : EachIsSettled program meanings
  pub founded : IsTight (numbering program) ⊎ IsFounded (numbering program) t

-- such a trail's answer is a constraint stable model of the program
abbrev pub CalmLaw : Type 0
CalmLaw = (program : GroundProgram) (held : List Held) (meanings : List Meaning) (t : Assignment) → IsAtRest program held meanings t → IsAnswerOf program (answer_on t)
