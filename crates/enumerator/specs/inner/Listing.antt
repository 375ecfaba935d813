-- What a listing knows between two calls of a search. Only the code of this crate reads this file.
use Rattle.std.specs.Prelude.{◌≡◌, ◌⊎◌, ℕ, zero, suc, ◌+◌, ◌<◌, false, List, length, None}
use Rattle.std.specs.Io.KnownBytes.{Appends}
use Rattle.ground_model.specs.declared.answer.Answer.{Answer}
use Rattle.ground_model.specs.declared.program.GroundProgram.{GroundProgram}
use Rattle.ground_model.specs.Printed.{block, blocks_from}
use Rattle.outside_io.specs.Outputs.{Output}
use Rattle.outside_io.specs.Told.{AppendsFront}
use Rattle.derivation.specs.declared.line.Line.{Line}
use Rattle.derivation.specs.Whole.{count_learned}
use Rattle.derivation_meaning.specs.State.{start}
use Rattle.derivation_meaning.specs.Acceptance.{AreValid}
use Rattle.derivation_meaning.specs.Claims.{given_in}
use Rattle.search_core.specs.Searching.{Searching}
use Rattle.enumerator.specs.declared.summary.Ending.{Ending}
use Rattle.enumerator.specs.declared.summary.Ending.TheVariants as e
use Rattle.enumerator.specs.declared.listing.Turn.{Turn}
use Rattle.enumerator.specs.declared.listing.Turn.TheVariants.{Printed, Ended, Broke}
use Rattle.enumerator.specs.Endings.{Task, EndsBy, IsOwn, Breaks, counted, state_after}

-- valid lines with so many answers, whose blocks are printed, and so many `r` lines
pub record IsListed (task : Task) (lines : List Line) (answers conflicts : ℕ) (before now : Output) : Type 0 where
  pub valid : AreValid task.program (start task.program) lines
  pub learned : conflicts ≡ count_learned lines
  pub given : length (given_in lines) ≡ answers
  pub printed : Appends before.written now.written (blocks_from task.program 1 (given_in lines))

-- such lines lead to the search as it is, and it may go on
pub record GoesOn (task : Task) (answers : ℕ) (s : Searching) (before now : Output) : Type 0 where
  pub lines : List Line
  pub listed : IsListed task lines answers s.conflicts before now
  pub program : s.program ≡ task.program
  pub state : s.state ≡ state_after task lines
  pub unclaimed : s.state.claim ≡ None
  pub within : s.conflicts < task.limit
  pub unspent : s.spent ≡ false

-- the cause of the ending stands, and nothing of its line is printed
pub record IsDue (task : Task) (ending : Ending) (answers conflicts : ℕ) (before now : Output) : Type 0 where
  pub lines : List Line
  pub listed : IsListed task lines answers conflicts before now
  pub ends : EndsBy task lines ending

-- the search was cut off
abbrev pub IsBroken : Ending → Type 0
IsBroken ending = (ending ≡ e.WriteFault) ⊎ (ending ≡ e.Memory)

-- what is printed of an answer
abbrev pub Gives : GroundProgram → Answer → ℕ → (old new : Output) → Turn → Type 0
Gives program answer number old new Printed = Appends old.written new.written (block program answer number)
Gives program answer number old new (Broke ending) = IsBroken ending × AppendsFront old.written new.written (block program answer number)
Gives program answer number old new (Ended ending) = ⊥

-- what came of one call
abbrev pub Turns : Task → ℕ → Searching → (before now : Output) → Turn → Type 0
Turns task answers s before now Printed = GoesOn task (answers + 1) s before now
Turns task answers s before now (Ended ending) = IsOwn ending × IsDue task ending answers s.conflicts before now
Turns task answers s before now (Broke ending) = IsBroken ending × Breaks task (counted answers s.conflicts) before now

-- what is asked of a listing that goes on
pub record IsAsked (task : Task) (number limit : ℕ) : Type 0 where
  pub number_is : task.number ≡ number
  pub limit_is : task.limit ≡ limit
  pub kind : task.program.has_objective ≡ false

-- the ending where no model remains and so many answers were given
abbrev pub ending_of : ℕ → Ending
ending_of zero = e.NoAnswer
ending_of (suc n) = e.All
