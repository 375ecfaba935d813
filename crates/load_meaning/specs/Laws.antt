-- What follows from the definitions.
use Rattle.std.specs.Prelude.{◌≡◌, ◌↔◌, ℕ, Bool, ℤ, List}
use Rattle.symbols.specs.declared.ends.Ends.{Ends}
use Rattle.symbols.specs.Symbol.{Symbol}
use Rattle.ground_model.specs.declared.answer.Answer.{Answer}
use Rattle.ground_model.specs.declared.program.GroundProgram.{GroundProgram}
use Rattle.ground_model.specs.Answers.{IsAnswerOf}
use Rattle.ground_model.specs.Objective.{objective_of}
use Rattle.program_meaning.specs.Read.{ReadProgram}
use Rattle.program_meaning.specs.Canonical.{view_of}
use Rattle.program_meaning.specs.Models.{IsModelOf, IsSameWorld, IsShaped, IsObjective}
use Rattle.load_meaning.specs.Grounding.{Grounded, GroundsTo}
use Rattle.load_meaning.specs.Load.{HasProgram, Loaded, LoadedAs, LoadsTo}

-- a program grounds to one thing at most
abbrev pub OneGroundLaw : Type 0
OneGroundLaw = (program : ReadProgram) (ends : Ends) (limit : ℕ) (one other : Grounded) → GroundsTo program ends limit one → GroundsTo program ends limit other → one ≡ other

-- texts have one program at most
abbrev pub OneProgramLaw : Type 0
OneProgramLaw = (texts : List (List ℕ)) (one other : ReadProgram) → HasProgram texts one → HasProgram texts other → one ≡ other

-- texts load to one thing at most
abbrev pub OneLoadLaw : Type 0
OneLoadLaw =
    (names texts : List (List ℕ)) (ends : Ends) (limit : ℕ) (one other : Loaded) → LoadsTo names texts ends limit one → LoadsTo names texts ends limit other → one ≡ other

-- texts that load to a ground program have a program
abbrev pub ProgramLaw : Type 0
ProgramLaw =
    (names texts : List (List ℕ)) (ends : Ends) (limit : ℕ) (made : GroundProgram) → LoadsTo names texts ends limit (LoadedAs (view_of made))
    → (read : ReadProgram) × HasProgram texts read

-- an answer of the shape of the ground program that texts load to is one of its constraint stable models exactly where it says what one of
-- the texts' program says
abbrev pub SameModelsLaw : Type 0
SameModelsLaw =
    (names texts : List (List ℕ)) (limit : ℕ) (made : GroundProgram) (read : ReadProgram) → LoadsTo names texts made.ends limit (LoadedAs (view_of made)) → HasProgram texts read
    → (model : Symbol → Bool) (values : Symbol → ℤ) (answer : Answer) → IsShaped made answer → IsSameWorld (view_of made) model values answer
    → IsAnswerOf made answer ↔ IsModelOf read.rules made.ends model values

-- each constraint stable model of the texts' program is said by one of the ground program
abbrev pub DownLaw : Type 0
DownLaw =
    (names texts : List (List ℕ)) (limit : ℕ) (made : GroundProgram) (read : ReadProgram) → LoadsTo names texts made.ends limit (LoadedAs (view_of made)) → HasProgram texts read
    → (model : Symbol → Bool) (values : Symbol → ℤ) → IsModelOf read.rules made.ends model values
    → (answer : Answer) × IsSameWorld (view_of made) model values answer × IsAnswerOf made answer

-- each constraint stable model of the ground program says one of the texts' program
abbrev pub UpLaw : Type 0
UpLaw =
    (names texts : List (List ℕ)) (limit : ℕ) (made : GroundProgram) (read : ReadProgram) → LoadsTo names texts made.ends limit (LoadedAs (view_of made)) → HasProgram texts read
    → (answer : Answer) → IsAnswerOf made answer
    → (model : Symbol → Bool) × (values : Symbol → ℤ) × IsSameWorld (view_of made) model values answer × IsModelOf read.rules made.ends model values

-- two that say the same have the same objective
abbrev pub ObjectiveLaw : Type 0
ObjectiveLaw =
    (names texts : List (List ℕ)) (limit : ℕ) (made : GroundProgram) (read : ReadProgram) → LoadsTo names texts made.ends limit (LoadedAs (view_of made)) → HasProgram texts read
    → (model : Symbol → Bool) (values : Symbol → ℤ) (answer : Answer) → IsSameWorld (view_of made) model values answer
    → (objective : ℤ) → IsObjective read.rules values objective ↔ (objective ≡ objective_of made answer)
