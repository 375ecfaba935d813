-- What texts load to: the line of the first cause for which they are refused, or their canonical ground program.
use Rattle.std.specs.Prelude.{◌≡◌, ◌⊎◌, ℕ, suc, List}
use Rattle.symbols.specs.declared.ends.Ends.{Ends}
use Rattle.syntax_tree.specs.declared.statement.Program.{Program}
use Rattle.program_meaning.specs.Read.{ReadProgram}
use Rattle.program_meaning.specs.Canonical.{GroundView}
use Rattle.safety_meaning.specs.Program.{program_of}
use Rattle.safety_meaning.specs.Failures.{Failure, IsFirstFailure, AreFine}
use Rattle.inputs.specs.Texts.{IsProgram, AreRefused}
use Rattle.load_meaning.specs.Grounding.{Grounded, OverLimit, Canonical, GroundsTo}
use Rattle.load_meaning.specs.Lines.{IsFailureLine, IsNumberLine}

-- the texts have this program: their statements with constants replaced, and the rules that they stand for
abbrev pub HasProgram : List (List ℕ) → ReadProgram → Type 0
HasProgram texts read = (program : Program) × IsProgram texts program × (read ≡ program_of program.statements)

-- what loading ends with: the line of a text, a constant or a rule that is refused; more instances than the limit, by the limit and one;
-- the line of what is outside by its numbers; or the ground program
pub data Loaded : Type 0 where
  TextLine : List ℕ → Loaded
  OverCount : ℕ → Loaded
  NumberLine : List ℕ → Loaded
  LoadedAs : GroundView → Loaded

-- the first rule of the texts' program that is not fine, and its line
pub record IsFailing (names texts : List (List ℕ)) (printed : List ℕ) : Type 0 where
  pub program : Program
  pub has : IsProgram texts program
  pub place : ℕ
  pub failure : Failure
  pub first : IsFirstFailure program.statements place failure
  pub line : IsFailureLine names texts program place failure printed

-- the texts have this program, in which every rule is fine, and it grounds to this
pub record GroundTo (texts : List (List ℕ)) (ends : Ends) (limit : ℕ) (program : Program) (grounded : Grounded) : Type 0 where
  pub has : IsProgram texts program
  pub fine : AreFine program.statements
  pub grounds : GroundsTo (program_of program.statements) ends limit grounded

-- the texts under these names load to this: each cause stands only where none before it does
abbrev pub LoadsTo : List (List ℕ) → List (List ℕ) → Ends → ℕ → Loaded → Type 0
LoadsTo names texts ends limit (TextLine printed) = AreRefused names texts printed ⊎ IsFailing names texts printed
LoadsTo names texts ends limit (OverCount count) = ((program : Program) × GroundTo texts ends limit program OverLimit) × (count ≡ suc limit)
LoadsTo names texts ends limit (NumberLine printed) =
    (program : Program) × (grounded : Grounded) × GroundTo texts ends limit program grounded × IsNumberLine names texts program grounded printed
LoadsTo names texts ends limit (LoadedAs view) = (program : Program) × GroundTo texts ends limit program (Canonical view)
