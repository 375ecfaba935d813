-- What the public reader of texts promises.
use Rattle.std.specs.Prelude.{◌⊎◌, ◌≡◌, ℕ, ◌+◌, true, List, [], ◌∷◌, ◌++◌, length, Some, None, Result, Ok, Err}
use Rattle.lexer.specs.declared.token.Token.{Token}
use Rattle.lexer.specs.declared.token.LexFault.{LexFault}
use Rattle.lexer.specs.declared.token.LexCause.{LexCause}
use Rattle.lexer.specs.declared.token.LexCause.TheVariants as lex
use Rattle.lexer.specs.Parts.{IsTokenisation}
use Rattle.lexer.specs.Faults.{IsFirstFault}
use Rattle.lexer.specs.Places.{line_of, column_of}
use Rattle.syntax_tree.specs.declared.rule.Name.{Name}
use Rattle.syntax_tree.specs.declared.rule.Head.TheVariants as head
use Rattle.syntax_tree.specs.declared.statement.Statement.{Statement}
use Rattle.syntax_tree.specs.declared.statement.Statement.TheVariants as statement
use Rattle.grammar.specs.declared.check.Check.{Check}
use Rattle.grammar.specs.declared.check.Check.TheVariants as check
use Rattle.grammar.specs.declared.check.Failing.{Failing}
use Rattle.grammar.specs.Word.{Word, words_of, words_at}
use Rattle.grammar.specs.Tree.{unary_tree, operand_tree}
use Rattle.grammar.specs.Sight.{size}
use Rattle.grammar.specs.Statement.{StatementAt, headed, constraint, constant, show_nothing, show, words_of_statement, text_words}
use Rattle.grammar.specs.StatementTree.{full_tree, body_trees, head_tree, arrow_trees, has_arrow}
use Rattle.grammar.specs.StatementSight.{sights_of_statement}
use Rattle.grammar.specs.Check.{first_of, failing}
use Rattle.grammar.specs.Faults.{IsExpected, IsTooDeep}
use Rattle.theory_grammar.specs.Kept.{place_of, start_of, named, places_of}
use Rattle.asp_parser.specs.declared.fault.TextCause.{TextCause}
use Rattle.asp_parser.specs.declared.fault.TextCause.TheVariants as cause
use Rattle.asp_parser.specs.declared.fault.TextFault.{TextFault}
use Rattle.asp_parser.specs.declared.fault.TextStop.{TextStop}
use Rattle.asp_parser.specs.declared.fault.TextStop.TheVariants.{Fault, Memory}

-- the cause of a text that has no tokens
abbrev pub lex_cause : LexCause → TextCause
lex_cause lex.NotUtf8 = cause.NotUtf8
lex_cause lex.OpenString = cause.OpenString
lex_cause lex.OpenComment = cause.OpenComment
lex_cause lex.BadCharacter = cause.BadCharacter
lex_cause lex.NumberTooLarge = cause.NumberTooLarge

-- the cause of a check that fails
abbrev pub check_cause : Check → TextCause
check_cause check.UnknownTheory = cause.UnknownTheory
check_cause check.WrongPlace = cause.WrongPlace
check_cause check.BadGuard = cause.BadGuard
check_cause check.BadTerm = cause.BadTerm
check_cause check.TooManyVariables = cause.TooManyVariables

-- ---- statements that stand from a word on
-- the variables of a statement, in the order in which they first occur
abbrev pub names_of : StatementAt 64 → ℕ → List Name
names_of form at = named [] (sights_of_statement 64 form at)

-- where the statement, its variables, its arguments that are intervals, and its atoms begin
abbrev pub places_in : List Token → StatementAt 64 → ℕ → List ℕ
places_in tokens form at = start_of tokens at ∷ places_of tokens (sights_of_statement 64 form at)

abbrev pub tree_by : List Token → List Name → List ℕ → StatementAt 64 → ℕ → Statement
tree_by tokens names places (headed h behind) at =
    statement.Rule (record {
      head = head_tree (operand_tree names 64) (unary_tree names (operand_tree names 64)) h;
      body = arrow_trees (operand_tree names 64) (unary_tree names (operand_tree names 64)) behind;
      arrow = has_arrow behind;
      names = names;
      places = places;
    })
tree_by tokens names places (constraint body) at =
    statement.Rule (record { head = head.Nothing; body = body_trees (operand_tree names 64) (unary_tree names (operand_tree names 64)) body; arrow = true; names = names; places = places })
tree_by tokens names places (constant name term) at = statement.Constant name (full_tree (operand_tree names 64) (unary_tree names (operand_tree names 64)) term) (start_of tokens (at + 1))
tree_by tokens names places show_nothing at = statement.ShowNothing
tree_by tokens names places (show name arity) at = statement.Show name arity

abbrev pub tree_of : List Token → StatementAt 64 → ℕ → Statement
tree_of tokens form at = tree_by tokens (names_of form at) (places_in tokens form at) form at

-- the word behind statements
abbrev pub behind : List (StatementAt 64) → ℕ → ℕ
behind [] at = at
behind (form ∷ forms) at = behind forms (at + size (words_of_statement 64) form)

abbrev pub trees_of : List Token → List (StatementAt 64) → ℕ → List Statement
trees_of tokens [] at = []
trees_of tokens (form ∷ forms) at = tree_of tokens form at ∷ trees_of tokens forms (at + size (words_of_statement 64) form)

-- no check fails in any
abbrev pub AllPass : List (StatementAt 64) → ℕ → Type 0
AllPass [] at = Unit {0}
AllPass (form ∷ forms) at = (failing 64 form at ≡ []) × AllPass forms (at + size (words_of_statement 64) form)

-- ---- the answer
-- The words of the text are those of statements in which no check fails, and these are their trees.
pub record FoundText (text : List ℕ) (statements : List Statement) : Type 0 where
  pub tokens : List Token
  pub tokenised : IsTokenisation text tokens
  pub forms : List (StatementAt 64)
  pub derived : words_of text tokens ≡ text_words 64 forms
  pub pass : AllPass forms 0
  pub are : statements ≡ trees_of tokens forms 0

-- a fault is given only where the words are those of no such statements
abbrev pub NoText : List ℕ → Result (List Statement) TextStop → Type 0
NoText text (Ok statements) = Unit {0}
NoText text (Err (Fault fault)) = (tokens : List Token) → IsTokenisation text tokens → (forms : List (StatementAt 64)) → words_of text tokens ≡ text_words 64 forms → AllPass forms 0 → ⊥
NoText text (Err Memory) = Unit {0}

-- a fault of lexing, by line and column
pub record IsLexFault (text : List ℕ) (fault : TextFault) : Type 0 where
  pub found : LexFault
  pub is : IsFirstFault text found
  pub line : fault.line ≡ line_of text found.at
  pub column : fault.column ≡ column_of text found.at
  pub cause : fault.cause ≡ lex_cause found.cause

-- no statement stands from a word on
abbrev pub StandsNone : List ℕ → List Token → ℕ → Type 0
StandsNone text tokens from = (form : StatementAt 64) (rest : List Word) → words_at text tokens from ≡ words_of_statement 64 form rest → ⊥

-- the words from a word on are parted at another, where something is claimed
abbrev pub IsParted : (List Word → List Word → Type 0) → List ℕ → List Token → ℕ → ℕ → Type 0
IsParted Claim text tokens from at = (front : List Word) × (after : List Word) × (words_at text tokens from ≡ front ++ after) × (at ≡ from + length front) × Claim front after

-- the first check that fails in the statement from a word on
pub record IsFirstFailing (text : List ℕ) (tokens : List Token) (from at : ℕ) (failed : TextCause) : Type 0 where
  pub form : StatementAt 64
  pub rest : List Word
  pub stands : words_at text tokens from ≡ words_of_statement 64 form rest
  pub first : Failing
  pub is : first_of None (failing 64 form from) ≡ Some first
  pub place : at ≡ first.at
  pub cause : failed ≡ check_cause first.check

-- a word is the fault of the statement from a word on, with a cause
abbrev pub IsFaultAt : List ℕ → List Token → ℕ → ℕ → TextCause → Type 0
IsFaultAt text tokens from at cause.Expected = StandsNone text tokens from × IsParted (IsExpected StatementAt words_of_statement 64) text tokens from at
IsFaultAt text tokens from at cause.TooDeep = StandsNone text tokens from × IsParted (IsTooDeep StatementAt words_of_statement 64) text tokens from at
IsFaultAt text tokens from at cause.UnknownTheory = IsFirstFailing text tokens from at cause.UnknownTheory
IsFaultAt text tokens from at cause.WrongPlace = IsFirstFailing text tokens from at cause.WrongPlace
IsFaultAt text tokens from at cause.BadGuard = IsFirstFailing text tokens from at cause.BadGuard
IsFaultAt text tokens from at cause.BadTerm = IsFirstFailing text tokens from at cause.BadTerm
IsFaultAt text tokens from at cause.TooManyVariables = IsFirstFailing text tokens from at cause.TooManyVariables
IsFaultAt text tokens from at cause.NotUtf8 = ⊥
IsFaultAt text tokens from at cause.OpenString = ⊥
IsFaultAt text tokens from at cause.OpenComment = ⊥
IsFaultAt text tokens from at cause.BadCharacter = ⊥
IsFaultAt text tokens from at cause.NumberTooLarge = ⊥

-- Statements in which no check fails stand before, and a fault in the one behind them.
pub record IsStatementFault (text : List ℕ) (fault : TextFault) : Type 0 where
  pub tokens : List Token
  pub tokenised : IsTokenisation text tokens
  pub forms : List (StatementAt 64)
  pub next : Word
  pub rest : List Word
  pub split : words_of text tokens ≡ text_words 64 forms ++ next ∷ rest
  pub pass : AllPass forms 0
  pub at : ℕ
  pub is : IsFaultAt text tokens (behind forms 0) at fault.cause
  pub line : fault.line ≡ line_of text (place_of text tokens at)
  pub column : fault.column ≡ column_of text (place_of text tokens at)

-- the first fault of a text: in its tokens, or in a statement
abbrev pub IsTextFault : List ℕ → TextFault → Type 0
IsTextFault text fault = IsLexFault text fault ⊎ IsStatementFault text fault

abbrev pub IsStop : List ℕ → TextStop → Type 0
IsStop text (Fault fault) = IsTextFault text fault
IsStop text Memory = Unit {0}
