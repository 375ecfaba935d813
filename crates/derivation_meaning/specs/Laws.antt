-- What follows from valid and from accepted lines.
use Rattle.std.specs.Prelude.{◌≡◌, ◌↔◌, ℤ, true, List, ◌++◌, Option, Some}
use Rattle.std.specs.List.{AllByRecursion}
use Rattle.literals.specs.declared.lit.Lit.{Lit}
use Rattle.literals.specs.declared.reason.Step.{Step}
use Rattle.literals.specs.Truths.{Meets}
use Rattle.ground_model.specs.declared.answer.Answer.{Answer}
use Rattle.ground_model.specs.declared.program.GroundProgram.{GroundProgram}
use Rattle.ground_model.specs.World.{world_of}
use Rattle.linear_normal.specs.declared.numbered.Numbered.{Numbered}
use Rattle.linear_normal.specs.Numbering.{numbering}
use Rattle.linear_normal.specs.Steps.{is_valid}
use Rattle.linear_normal.specs.Truth.{truths_in}
use Rattle.derivation.specs.declared.line.Line.{Line}
use Rattle.derivation_meaning.specs.declared.claim.Claim.{Claim}
use Rattle.derivation_meaning.specs.Found.{AreFound}
use Rattle.derivation_meaning.specs.State.{State, start}
use Rattle.derivation_meaning.specs.Lines.{improves}
use Rattle.derivation_meaning.specs.Acceptance.{AreValid, after_all, IsAccepted}
use Rattle.derivation_meaning.specs.Claims.{given_in, ClaimHolds, Fits, IsRemaining, IsGivenIn}
use Rattle.derivation_meaning.specs.Refusals.{HasOneVerdict}

-- after valid lines each live nogood is met by each model that remains
abbrev pub SoundLaw : Type 0
SoundLaw =
    (program : GroundProgram) (lines : List Line) (answer : Answer) → AreValid program (start program) lines
    → IsRemaining program (after_all program (start program) lines) answer
    → AllByRecursion (λ entry. Meets (truths_in (numbering program) (world_of answer)) entry.nogood) (after_all program (start program) lines).live

-- what accepted lines claim holds
abbrev pub AcceptanceLaw : Type 0
AcceptanceLaw = (program : GroundProgram) (lines : List Line) (claim : Claim) → IsAccepted program lines claim → ClaimHolds program (given_in lines) claim

-- valid lines give different constraint stable models, with an objective improving ones
abbrev pub FoundLaw : Type 0
FoundLaw = (program : GroundProgram) (lines : List Line) → AreValid program (start program) lines → AreFound program (given_in lines)

-- which claim accepted lines can make
abbrev pub FittingLaw : Type 0
FittingLaw = (program : GroundProgram) (lines : List Line) (claim : Claim) → IsAccepted program lines claim → Fits program (given_in lines) claim

-- the state after valid lines has the answers that they give
abbrev pub GivenLaw : Type 0
GivenLaw =
    (program : GroundProgram) (lines : List Line) → AreValid program (start program) lines → IsGivenIn program (given_in lines) (after_all program (start program) lines)

-- lines after lines: they are valid in turn, and lead and give as one list
pub record AreJoined (program : GroundProgram) (state : State) (lines more : List Line) : Type 0 where
  pub valid : AreValid program state (lines ++ more) ↔ (AreValid program state lines × AreValid program (after_all program state lines) more)
  pub leads : after_all program state (lines ++ more) ≡ after_all program (after_all program state lines) more
  pub gives : given_in (lines ++ more) ≡ given_in lines ++ given_in more

abbrev pub JoinLaw : Type 0
JoinLaw = (program : GroundProgram) (state : State) (lines more : List Line) → AreJoined program state lines more

-- a reason that is valid after a cost is valid after a smaller one
abbrev pub CheaperLaw : Type 0
CheaperLaw =
    (program : GroundProgram) (numbered : Numbered) (before : Option ℤ) (cost : ℤ) (lits : List Lit) (by : Step) → improves before cost ≡ true
    → is_valid program numbered before lits by ≡ true → is_valid program numbered (Some cost) lits by ≡ true

-- a line is valid or refused for one cause
abbrev pub VerdictLaw : Type 0
VerdictLaw = (program : GroundProgram) (state : State) (line : Line) → HasOneVerdict program state line
