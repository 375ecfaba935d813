-- What the code gives on its way, and why it stops. Only the crate's own code reads this file.
use Rattle.std.specs.Prelude.{◌≡◌, ℕ, ◌<◌, List, ◌++◌, take, slice_get, Some, Result, Ok, Err}
use Rattle.std.specs.declared.option.Option.{Option}
use Rattle.std.specs.Io.KnownBytes.{Appends}
use Rattle.outside_io.specs.Outputs.{Input}
use Rattle.syntax_tree.specs.declared.statement.Program.{Program}
use Rattle.first_form.specs.Form.{SymbolRule, States}
use Rattle.clingcon_app.specs.declared.answering.Verdict.{Verdict}
use Rattle.clingcon_app.specs.declared.answering.Verdict.TheVariants as verdict
use Rattle.clingcon_app.specs.declared.texts.TextsStop.{TextsStop}
use Rattle.clingcon_app.specs.declared.texts.TextsStop.TheVariants as stop
use Rattle.clingcon_app.specs.declared.parsing.WrittenStop.{WrittenStop}
use Rattle.clingcon_app.specs.declared.parsing.WrittenStop.TheVariants as unwritten
use Rattle.clingcon_app.specs.declared.parsing.ProgramStop.{ProgramStop}
use Rattle.clingcon_app.specs.declared.parsing.ProgramStop.TheVariants as refusal
use Rattle.clingcon_app.specs.Texts.{IsTooLarge, HasFirstFault, AreRefused}
use Rattle.clingcon_app.specs.Printed.{PrintsAnswer, PrintTexts, AreOther, satisfiable}
use Rattle.clingcon_app.specs.Outcome.{blocks_in}

-- ---- stops
-- a text is named too large only where it is the first, and so many bytes of it were taken
abbrev pub IsStoppedBy : Input → List (List ℕ) → ℕ → TextsStop → Type 0
IsStoppedBy files names taken stop.Failed = Unit {0}
IsStoppedBy files names taken (stop.TooLarge at) = (name : List ℕ) → slice_get names at ≡ Some name → IsTooLarge files names taken name
IsStoppedBy files names taken stop.Memory = Unit {0}

-- the number of a text that is too large is that of one of the texts
abbrev pub IsNumbered : ℕ → TextsStop → Type 0
IsNumbered n stop.Failed = Unit {0}
IsNumbered n (stop.TooLarge at) = at < n
IsNumbered n stop.Memory = Unit {0}

abbrev pub IsFirstFault : List (List ℕ) → WrittenStop → Type 0
IsFirstFault texts (unwritten.Fault at fault) = HasFirstFault texts at fault
IsFirstFault texts unwritten.Memory = Unit {0}

abbrev pub IsRefusal : List (List ℕ) → List (List ℕ) → ProgramStop → Type 0
IsRefusal names texts (refusal.Refused line) = AreRefused names texts line
IsRefusal names texts refusal.Memory = Unit {0}

-- a refusal with the line that was made, where memory could be had for it
abbrev pub IsRefusalWith : {E : Type 0} → Result (List ℕ) E → ProgramStop → Type 0
IsRefusalWith (Ok line) (refusal.Refused printed) = printed ≡ line
IsRefusalWith (Ok line) refusal.Memory = ⊥
IsRefusalWith (Err fault) (refusal.Refused printed) = ⊥
IsRefusalWith (Err fault) refusal.Memory = Unit {0}

-- ---- verdicts
-- what is printed for texts under these names
abbrev pub IsVerdict : List (List ℕ) → List (List ℕ) → Verdict → Type 0
IsVerdict names texts (verdict.Answer block) = PrintTexts texts (block ++ satisfiable)
IsVerdict names texts (verdict.Refused line) = AreRefused names texts line
IsVerdict names texts verdict.NotBuilt = AreOther texts

-- what is printed for a program whose constants are replaced: its one answer where it has the first form, or that it has not
abbrev pub IsJudged : Program → Verdict → Type 0
IsJudged program (verdict.Answer block) = (stated : List SymbolRule) × States program.statements stated × PrintsAnswer stated (block ++ satisfiable)
IsJudged program (verdict.Refused line) = ⊥
IsJudged program verdict.NotBuilt = (stated : List SymbolRule) → States program.statements stated → ⊥

-- ---- outputs
-- a front of what is printed at status 10 was written, and so many blocks stand whole in it
pub record PrintsFront (before now : Option (List ℕ)) (printed : List ℕ) (answers : ℕ) : Type 0 where
  pub count : ℕ
  pub front : Appends before now (take count printed)
  pub blocks : answers ≡ blocks_in 10 printed count
