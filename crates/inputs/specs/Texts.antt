-- What the texts of the inputs say together: their statements, or the first refusal.
use Rattle.std.specs.Prelude.{◌≡◌, ℕ, ◌+◌, ◌⊎◌, List, [], ◌∷◌, ◌++◌, length, replicate, take, slice_get, Some, codes}
use Rattle.std.specs.Fmt.{decimal}
use Rattle.lexer.specs.Places.{line_of, column_of}
use Rattle.syntax_tree.specs.declared.statement.Statement.{Statement}
use Rattle.syntax_tree.specs.declared.statement.Program.{Program}
use Rattle.asp_parser.specs.declared.fault.TextCause.{TextCause}
use Rattle.asp_parser.specs.declared.fault.TextCause.TheVariants as cause
use Rattle.asp_parser.specs.declared.fault.TextFault.{TextFault}
use Rattle.asp_parser.specs.Parsed.{FoundText, IsTextFault}
use Rattle.asp_parser.specs.Constants.{IsReplaced, IsFirstBad}

-- ---- parsing
-- the statements of each text
abbrev pub AreStatements : List (List ℕ) → List (List Statement) → Type 0
AreStatements [] [] = Unit {0}
AreStatements [] (parsed ∷ rest) = ⊥
AreStatements (text ∷ texts) [] = ⊥
AreStatements (text ∷ texts) (parsed ∷ rest) = FoundText text parsed × AreStatements texts rest

abbrev pub joined : List (List Statement) → List Statement
joined [] = []
joined (parsed ∷ rest) = parsed ++ joined rest

-- the number of its text for each statement, where the first text has this number
abbrev pub numbers_from : ℕ → List (List Statement) → List ℕ
numbers_from n [] = []
numbers_from n (parsed ∷ rest) = replicate (length parsed) n ++ numbers_from (n + 1) rest

-- the program has the statements of the texts in order, each with the number of its text, from 0
pub record IsWritten (texts : List (List ℕ)) (program : Program) : Type 0 where
  pub parsed : List (List Statement)
  pub are : AreStatements texts parsed
  pub statements : program.statements ≡ joined parsed
  pub files : program.files ≡ numbers_from 0 parsed

-- the program that the texts have, with its constants replaced
pub record IsProgram (texts : List (List ℕ)) (program : Program) : Type 0 where
  pub written : Program
  pub has : IsWritten texts written
  pub replaced : IsReplaced written program

-- ---- refusals
abbrev pub cause_text : TextCause → List ℕ
cause_text cause.NotUtf8 = codes "not UTF-8"
cause_text cause.OpenString = codes "string is not closed"
cause_text cause.OpenComment = codes "comment is not closed"
cause_text cause.BadCharacter = codes "unexpected character"
cause_text cause.NumberTooLarge = codes "number above 2147483647"
cause_text cause.Expected = codes "syntax error"
cause_text cause.TooDeep = codes "nesting above 64"
cause_text cause.UnknownTheory = codes "unknown theory atom"
cause_text cause.WrongPlace = codes "theory atom not allowed here"
cause_text cause.BadGuard = codes "guard not allowed here"
cause_text cause.BadTerm = codes "term not allowed here"
cause_text cause.TooManyVariables = codes "more than 64 variables"

-- the line of a refusal at a place of a text
abbrev pub line_at : List ℕ → ℕ → ℕ → List ℕ → List ℕ
line_at name line column why = name ++ codes ":" ++ decimal line ++ codes ":" ++ decimal column ++ codes ": error: " ++ why ++ codes "\n"

-- the text with this number is the first that has no statements, and this is its fault
pub record HasFirstFault (texts : List (List ℕ)) (at : ℕ) (fault : TextFault) : Type 0 where
  pub before : List (List Statement)
  pub text : List ℕ
  pub fine : AreStatements (take at texts) before
  pub here : slice_get texts at ≡ Some text
  pub first : IsTextFault text fault

-- the line of the first text that has no statements
pub record IsFaulty (names texts : List (List ℕ)) (printed : List ℕ) : Type 0 where
  pub at : ℕ
  pub fault : TextFault
  pub has : HasFirstFault texts at fault
  pub name : List ℕ
  pub named : slice_get names at ≡ Some name
  pub line : printed ≡ line_at name fault.line fault.column (cause_text fault.cause)

-- the line of a constant that may not be, whose name begins at this byte
abbrev pub constant_line : List ℕ → List ℕ → ℕ → List ℕ
constant_line name text place = line_at name (line_of text place) (column_of text place) (codes "constant not allowed")

-- the first constant that may not be, and its line
pub record HasBadConstant (names texts : List (List ℕ)) (printed : List ℕ) : Type 0 where
  pub written : Program
  pub has : IsWritten texts written
  pub file : ℕ
  pub place : ℕ
  pub bad : IsFirstBad written.statements written.files file place
  pub name : List ℕ
  pub text : List ℕ
  pub named : slice_get names file ≡ Some name
  pub here : slice_get texts file ≡ Some text
  pub line : printed ≡ constant_line name text place

-- the texts are refused with this line
abbrev pub AreRefused : List (List ℕ) → List (List ℕ) → List ℕ → Type 0
AreRefused names texts printed = IsFaulty names texts printed ⊎ HasBadConstant names texts printed
