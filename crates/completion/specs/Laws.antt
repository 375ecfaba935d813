-- The completion law.
use Rattle.std.specs.Prelude.{◌≡◌, ◌↔◌, ℕ, true, ℤ, List, Option, length}
use Rattle.literals.specs.declared.lit.Lit.{Lit}
use Rattle.literals.specs.declared.reason.Step.{Step}
use Rattle.literals.specs.Truths.{Truths, Meets}
use Rattle.ground_model.specs.declared.program.GroundProgram.{GroundProgram}
use Rattle.ground_model.specs.Answers.{IsRuleOf, IsNumbered}
use Rattle.ground_model.specs.Model.{IsModel}
use Rattle.ground_model.specs.World.{World}
use Rattle.linear_normal.specs.Numbering.{numbering}
use Rattle.linear_normal.specs.Steps.{is_valid}
use Rattle.linear_normal.specs.Truth.{AreTruths}
use Rattle.linear_normal.specs.Laws.{HasValues, IsBetter}
use Rattle.completion.specs.Inputs.{input_nogoods, MeetsAll}
use Rattle.completion.specs.Loops.{MeetsLoops}
use Rattle.completion.specs.Tight.{IsTight}

-- a world of the program: its atoms are the program's
abbrev pub IsWorldOf : GroundProgram → World → Type 0
IsWorldOf program world = (a : ℕ) → world.atoms a ≡ true → IsNumbered (length program.atoms) a

-- the world is a stable model of the program's rules under its values
abbrev pub IsStableWorld : GroundProgram → World → Type 0
IsStableWorld program world = IsModel (IsRuleOf program) world.values world.atoms

-- a world meets all input nogoods and all loop nogoods exactly where it is a stable model
abbrev pub CompletionLaw : Type 0
CompletionLaw =
    (program : GroundProgram) (world : World) (truths : Truths) → IsWorldOf program world → AreTruths (numbering program) world truths
    → (MeetsAll truths (input_nogoods program) × MeetsLoops (length program.atoms) (numbering program) truths) ↔ IsStableWorld program world

-- a world of a tight program meets all input nogoods exactly where it is a stable model
abbrev pub TightLaw : Type 0
TightLaw =
    (program : GroundProgram) (world : World) (truths : Truths) → IsWorldOf program world → AreTruths (numbering program) world truths
    → IsTight (numbering program) → MeetsAll truths (input_nogoods program) ↔ IsStableWorld program world

-- a stable model meets each list that a valid step shows; where the step shows that the objective is too large, the world's has to be smaller
abbrev pub ReasonLaw : Type 0
ReasonLaw =
    (program : GroundProgram) (world : World) (truths : Truths) → IsWorldOf program world → HasValues program world → AreTruths (numbering program) world truths
    → IsStableWorld program world → (last : Option ℤ) → IsBetter program world last
    → (lits : List Lit) (step : Step) → is_valid program (numbering program) last lits step ≡ true → Meets truths lits
