-- Lists of lines: valid one after another, and accepted with a claim.
use Rattle.std.specs.Prelude.{◌≡◌, List, [], ◌∷◌, fold, Some}
use Rattle.ground_model.specs.declared.program.GroundProgram.{GroundProgram}
use Rattle.derivation.specs.declared.line.Line.{Line}
use Rattle.derivation_meaning.specs.declared.claim.Claim.{Claim}
use Rattle.derivation_meaning.specs.State.{State, start}
use Rattle.derivation_meaning.specs.Valid.{IsValid, after}

-- each line is valid in the state after those before it
abbrev pub AreValid : GroundProgram → State → List Line → Type 0
AreValid program state [] = Unit {0}
AreValid program state (line ∷ lines) = IsValid program state line × AreValid program (after program state line) lines

-- the state after all of these lines
abbrev pub after_all : GroundProgram → State → List Line → State
after_all program state lines = fold (after program) state lines

-- the lines behind the header are valid in order, and the last of them, a `q` line, claims this
pub record IsAccepted (program : GroundProgram) (lines : List Line) (claim : Claim) : Type 0 where
  pub valid : AreValid program (start program) lines
  pub claimed : (after_all program (start program) lines).claim ≡ Some claim
