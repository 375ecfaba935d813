-- What a status of the top call says.
use Rattle.std.specs.Prelude.{◌≡◌, ◌⊎◌, ℕ, ◌+◌, ◌==◌, ◌&&◌, nat_le, if◌then◌else◌, true, false, length, take, List, [], String}
use Rattle.std.specs.Global.{Global}
use Rattle.std.specs.Io.KnownBytes.{Appends}
use Rattle.outside_io.specs.Outputs.{Input, Output}
use Rattle.clingcon_app.specs.Words.{are_files, names_of}
use Rattle.clingcon_app.specs.Texts.{AreTexts, IsTooLarge, AreRefused, too_large_line}
use Rattle.clingcon_app.specs.Printed.{PrintTexts, AreOfForm, AreOther, not_built, satisfiable}

-- the statuses of refusals
abbrev pub IsRefusing : ℕ → Type 0
IsRefusing status = (status ≡ 65) ⊎ (status ≡ 70) ⊎ (status ≡ 71)

-- the statuses of a run that printed all that it had to print
abbrev pub IsEnding : ℕ → Type 0
IsEnding status = (status ≡ 10) ⊎ IsRefusing status

-- the statuses that the top call ends with
abbrev pub IsStatus : ℕ → Type 0
IsStatus status = IsEnding status ⊎ (status ≡ 33) ⊎ (status ≡ 66) ⊎ (status ≡ 67)

-- what is printed for texts under these names: the one answer of their program, the line of their first refusal, or that their
-- program is not of the first form
abbrev pub Answers : List (List ℕ) → List (List ℕ) → List ℕ → Type 0
Answers names texts printed = PrintTexts texts printed

abbrev pub IsUnbuilt : List (List ℕ) → List (List ℕ) → List ℕ → Type 0
IsUnbuilt names texts printed = AreOther texts × (printed ≡ not_built)

-- the words name inputs whose texts have permitted sizes, and this is so of them
pub record IsOf (Says : List (List ℕ) → List (List ℕ) → List ℕ → Type 0) (files : Input) (words : List (String Global)) (printed : List ℕ) : Type 0 where
  pub named : are_files words ≡ true
  pub texts : List (List ℕ)
  pub are : AreTexts files (names_of words) texts
  pub says : Says (names_of words) texts printed

-- the words name inputs, and the first text that is too large, of which so many bytes were taken, is refused
pub record IsOversized (files : Input) (taken : ℕ) (words : List (String Global)) (printed : List ℕ) : Type 0 where
  pub named : are_files words ≡ true
  pub name : List ℕ
  pub large : IsTooLarge files (names_of words) taken name
  pub line : printed ≡ too_large_line name

-- what a run that ends with this status prints, where so many bytes of the last input were taken
abbrev pub IsPrinted : ℕ → Input → ℕ → List (String Global) → List ℕ → Type 0
IsPrinted status files taken words printed =
    ((status ≡ 10) × IsOf Answers files words printed)
    ⊎ ((status ≡ 65) × IsOf AreRefused files words printed)
    ⊎ ((status ≡ 70) × IsOversized files taken words printed)
    ⊎ ((status ≡ 71) × (IsOf IsUnbuilt files words printed ⊎ ((are_files words ≡ false) × (printed ≡ not_built))))

-- the words name inputs whose texts have permitted sizes and a program of the first form
abbrev pub IsAccepted : Input → List (String Global) → Type 0
IsAccepted files words = IsOf (λ names texts printed. AreOfForm texts) files words []

-- the words or the texts are refused with a line, at the status of its cause
pub record IsRefusedWith (files : Input) (words : List (String Global)) : Type 0 where
  pub status : ℕ
  pub refusing : IsRefusing status
  pub taken : ℕ
  pub line : List ℕ
  pub right : IsPrinted status files taken words line

-- the cause of the status stands, and the output grew by what is printed then
pub record IsEnded (status : ℕ) (files : Input) (taken : ℕ) (words : List (String Global)) (before after : Output) : Type 0 where
  pub printed : List ℕ
  pub right : IsPrinted status files taken words printed
  pub appended : Appends before.written after.written printed

-- how many blocks stand whole in the first bytes, so many, of what is printed: at status 10 the one block is all but the ending's line
abbrev pub blocks_in : ℕ → List ℕ → ℕ → ℕ
blocks_in status printed count = (if (status == 10) && nat_le (length printed) (count + length satisfiable) then 1 else 0)

-- the output grew by a front of what a run prints, and so many blocks stand whole in it
pub record IsCutOff (files : Input) (taken : ℕ) (words : List (String Global)) (before after : Output) (answers : ℕ) : Type 0 where
  pub status : ℕ
  pub printed : List ℕ
  pub right : IsPrinted status files taken words printed
  pub count : ℕ
  pub front : Appends before.written after.written (take count printed)
  pub blocks : answers ≡ blocks_in status printed count

-- the output did not grow, and no block is counted
pub record IsUnprinted (before after : Output) (answers : ℕ) : Type 0 where
  pub written : after.written ≡ before.written
  pub none : answers ≡ 0
