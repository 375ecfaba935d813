-- How a search for all models of a program ended, in what it printed and in the valid lines that led there. All that `list` says is said
-- here, over bytes alone.
use Rattle.std.specs.Prelude.{◌≡◌, ◌⊎◌, ℕ, ◌+◌, ◌^◌, ◌<◌, ◌≤◌, false, List, [], ◌++◌, length, take, slice_get, None, Some}
use Rattle.std.specs.Io.KnownBytes.{Appends}
use Rattle.ground_model.specs.declared.answer.Answer.{Answer}
use Rattle.ground_model.specs.declared.program.GroundProgram.{GroundProgram}
use Rattle.ground_model.specs.Printed.{block, blocks_from, ending_line}
use Rattle.ground_model.specs.Printed as printed
use Rattle.outside_io.specs.Outputs.{Output}
use Rattle.derivation.specs.declared.line.Line.{Line}
use Rattle.derivation.specs.Whole.{count_learned}
use Rattle.derivation_meaning.specs.declared.claim.Claim.{Claim}
use Rattle.derivation_meaning.specs.declared.claim.Claim.TheVariants as claim
use Rattle.derivation_meaning.specs.Found.{AreFound}
use Rattle.derivation_meaning.specs.State.{State, start, holds_empty}
use Rattle.derivation_meaning.specs.Acceptance.{AreValid, after_all, IsAccepted}
use Rattle.derivation_meaning.specs.Claims.{given_in, ClaimHolds}
use Rattle.enumerator.specs.declared.summary.Ending.{Ending}
use Rattle.enumerator.specs.declared.summary.Ending.TheVariants as e

-- what is asked of a search: of which program, after how many answers it stops, and after how many conflicts it gives up
pub record Task : Type 0 where
  pub program : GroundProgram
  pub number : ℕ
  pub limit : ℕ

-- how many answers have their whole block printed, and how many nogoods were learned
pub record Tally : Type 0 where
  pub answers : ℕ
  pub conflicts : ℕ

abbrev pub asked : GroundProgram → ℕ → ℕ → Task
asked program number limit = record { program = program; number = number; limit = limit }

abbrev pub counted : ℕ → ℕ → Tally
counted answers conflicts = record { answers = answers; conflicts = conflicts }

-- the state to which lines lead
abbrev pub state_after : Task → List Line → State
state_after task lines = after_all task.program (start task.program) lines

-- the lines are valid one after another, and their answers are different models
pub record AreLines (task : Task) (lines : List Line) : Type 0 where
  pub valid : AreValid task.program (start task.program) lines
  pub found : AreFound task.program (given_in lines)

-- THE END

-- nothing is left to find: the lines are accepted with this claim, it holds of the answers, and they were fewer than asked for
pub record IsExhausted (task : Task) (lines : List Line) (claim : Claim) : Type 0 where
  pub accepted : IsAccepted task.program lines claim
  pub holds : ClaimHolds task.program (given_in lines) claim
  pub fewer : length (given_in lines) < task.number

-- so many answers as asked for, before the limit and before anything is claimed
pub record IsStopped (task : Task) (lines : List Line) : Type 0 where
  pub number : length (given_in lines) ≡ task.number
  pub within : count_learned lines < task.limit
  pub unclaimed : (state_after task lines).claim ≡ None

-- the conflict of the limit's number left a nogood that is not empty, or the next line would take the id 2^64
pub record IsGivenUp (task : Task) (lines : List Line) : Type 0 where
  pub cause : ((count_learned lines ≡ task.limit) × (holds_empty (state_after task lines) ≡ false)) ⊎ ((state_after task lines).next ≡ 2 ^ 64)
  pub fewer : length (given_in lines) < task.number
  pub unclaimed : (state_after task lines).claim ≡ None

-- the cause of an ending stands; no two of these stand together
abbrev pub EndsBy : Task → List Line → Ending → Type 0
EndsBy task lines e.Stopped = IsStopped task lines
EndsBy task lines e.All = (1 ≤ length (given_in lines)) × IsExhausted task lines (claim.All (length (given_in lines)))
EndsBy task lines e.NoAnswer = IsExhausted task lines claim.Nothing
EndsBy task lines e.Limit = IsGivenUp task lines
EndsBy task lines other = ⊥

-- the endings of a search that ended by itself
abbrev pub IsOwn : Ending → Type 0
IsOwn e.WriteFault = ⊥
IsOwn e.Memory = ⊥
IsOwn other = Unit {0}

-- the line that is printed for it
abbrev pub line_for : Ending → List ℕ
line_for e.NoAnswer = ending_line printed.Unsatisfiable
line_for e.Limit = ending_line printed.Unknown
line_for other = ending_line printed.Satisfiable

-- WHAT STANDS OUTSIDE

-- A search ended by itself: the blocks of its answers and the line of its ending are printed.
pub record HasEnded (task : Task) (ending : Ending) (printed : List ℕ) (tally : Tally) : Type 0 where
  pub lines : List Line
  pub are : AreLines task lines
  pub ends : EndsBy task lines ending
  pub printed_is : printed ≡ blocks_from task.program 1 (given_in lines) ++ line_for ending
  pub tally_is : tally ≡ counted (length (given_in lines)) (count_learned lines)

-- so many bytes of this piece were printed behind the whole blocks: a front of the next answer's block, a front of the line of the ending whose cause stands, or nothing
abbrev pub IsPieceAfter : Task → List Line → (whole count : ℕ) → List ℕ → Type 0
IsPieceAfter task lines whole count piece =
    ((answer : Answer) × (slice_get (given_in lines) whole ≡ Some answer) × (piece ≡ block task.program answer (whole + 1)) × (count < length piece))
    ⊎ ((ending : Ending) × EndsBy task lines ending × (whole ≡ length (given_in lines)) × (piece ≡ line_for ending))
    ⊎ (piece ≡ [])

-- A search was cut off: blocks of its answers are printed whole, of all but at most the last one, and a front of the piece that was due.
pub record HasBroken (task : Task) (printed : List ℕ) (tally : Tally) : Type 0 where
  pub lines : List Line
  pub are : AreLines task lines
  pub count : ℕ
  pub piece : List ℕ
  pub due : IsPieceAfter task lines tally.answers count piece
  pub printed_is : printed ≡ blocks_from task.program 1 (take tally.answers (given_in lines)) ++ take count piece
  pub whole : tally.answers ≤ length (given_in lines)
  pub one_more : length (given_in lines) ≤ tally.answers + 1
  pub conflicts : tally.conflicts ≡ count_learned lines

-- the same of an output that was opened before
abbrev pub Ends : Task → Ending → Tally → (before now : Output) → Type 0
Ends task ending tally before now = (printed : List ℕ) × HasEnded task ending printed tally × Appends before.written now.written printed

abbrev pub Breaks : Task → Tally → (before now : Output) → Type 0
Breaks task tally before now = (printed : List ℕ) × HasBroken task printed tally × Appends before.written now.written printed
