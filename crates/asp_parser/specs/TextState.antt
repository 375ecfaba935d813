-- What the reader of texts keeps between statements. Only this crate's code and its laws cite this file.
use Rattle.std.specs.Prelude.{◌≡◌, ℕ, ◌+◌, ◌≤◌, List, [], ◌∷◌, ◌++◌, length, map, Result, Ok, Err}
use Rattle.lexer.specs.declared.token.Token.{Token}
use Rattle.lexer.specs.Places.{line_of, column_of}
use Rattle.syntax_tree.specs.declared.statement.Statement.{Statement}
use Rattle.syntax_tree.specs.declared.statement.Statement.TheVariants as statement
use Rattle.grammar.specs.Word.{Word, words_of, words_at}
use Rattle.grammar.specs.Sight.{size}
use Rattle.grammar.specs.Statement.{StatementAt, words_of_statement, text_words}
use Rattle.grammar.specs.Check.{failing}
use Rattle.theory_grammar.specs.declared.fault.Stop.{Stop}
use Rattle.theory_grammar.specs.declared.fault.Stop.TheVariants as stop
use Rattle.theory_grammar.specs.declared.seen.Seen.{Seen}
use Rattle.theory_grammar.specs.Kept.{place_of, start_of}
use Rattle.asp_parser.specs.declared.fault.TextCause.{TextCause}
use Rattle.asp_parser.specs.declared.fault.TextCause.TheVariants as cause
use Rattle.asp_parser.specs.declared.fault.TextFault.{TextFault}
use Rattle.asp_parser.specs.declared.fault.TextStop.{TextStop}
use Rattle.asp_parser.specs.declared.fault.TextStop.TheVariants.{Fault, Memory}
use Rattle.asp_parser.specs.declared.statement.Draft.{Draft}
use Rattle.asp_parser.specs.declared.statement.Draft.TheVariants as draft
use Rattle.asp_parser.specs.Parsed.{behind, tree_of, trees_of, AllPass, IsFaultAt}

-- a fault at a byte
abbrev pub fault_there : List ℕ → ℕ → TextCause → TextStop
fault_there text place failed = Fault (record { line = line_of text place; column = column_of text place; cause = failed })

-- the refusal of a statement that is not read
abbrev pub stopped : List ℕ → List Token → Stop → TextStop
stopped text tokens (stop.Expected at) = fault_there text (place_of text tokens at) cause.Expected
stopped text tokens (stop.TooDeep at) = fault_there text (place_of text tokens at) cause.TooDeep
stopped text tokens stop.Memory = Memory

-- the statement of a draft that was read from a word on
abbrev pub drafted : List Token → ℕ → Seen → Draft → Statement
drafted tokens at seen (draft.Rule head body arrow) = statement.Rule (record { head = head; body = body; arrow = arrow; names = seen.names; places = start_of tokens at ∷ map (λ place. place.start) seen.places })
drafted tokens at seen (draft.Constant name term) = statement.Constant name term (start_of tokens (at + 1))
drafted tokens at seen draft.ShowNothing = statement.ShowNothing
drafted tokens at seen (draft.Show name arity) = statement.Show name arity

-- a statement stands from a word on up to another, no check fails in it, and this is its tree
pub record Passes (text : List ℕ) (tokens : List Token) (at : ℕ) (made : Statement) (next : ℕ) : Type 0 where
  pub form : StatementAt 64
  pub stands : words_at text tokens at ≡ words_of_statement 64 form (words_at text tokens next)
  pub place : next ≡ at + size (words_of_statement 64) form
  pub forward : at + 1 ≤ next
  pub within : next ≤ length tokens
  pub pass : failing 64 form at ≡ []
  pub is : made ≡ tree_of tokens form at

-- the fault of the statement from a word on
pub record IsRefused (text : List ℕ) (tokens : List Token) (from : ℕ) (fault : TextFault) : Type 0 where
  pub at : ℕ
  pub is : IsFaultAt text tokens from at fault.cause
  pub line : fault.line ≡ line_of text (place_of text tokens at)
  pub column : fault.column ≡ column_of text (place_of text tokens at)

abbrev pub IsRefusal : List ℕ → List Token → ℕ → TextStop → Type 0
IsRefusal text tokens from (Fault fault) = IsRefused text tokens from fault
IsRefusal text tokens from Memory = Unit {0}

abbrev pub Checked : List ℕ → List Token → ℕ → Result (Statement × ℕ) TextStop → Type 0
Checked text tokens at (Ok r) = Passes text tokens at r.0 r.1
Checked text tokens at (Err refusal) = IsRefusal text tokens at refusal

-- statements in which no check fails stand before a word, and these are their trees
pub record Stood (text : List ℕ) (tokens : List Token) (at : ℕ) (found : List Statement) : Type 0 where
  pub forms : List (StatementAt 64)
  pub derived : words_of text tokens ≡ text_words 64 forms ++ words_at text tokens at
  pub place : at ≡ behind forms 0
  pub within : at ≤ length tokens
  pub pass : AllPass forms 0
  pub are : found ≡ trees_of tokens forms 0

-- statements in which no check fails stand before a word, and a fault in the one from there on
pub record Stops (text : List ℕ) (tokens : List Token) (fault : TextFault) : Type 0 where
  pub forms : List (StatementAt 64)
  pub next : Word
  pub rest : List Word
  pub split : words_of text tokens ≡ text_words 64 forms ++ next ∷ rest
  pub pass : AllPass forms 0
  pub refused : IsRefused text tokens (behind forms 0) fault

abbrev pub ReadAll : List ℕ → List Token → Result (List Statement) TextStop → Type 0
ReadAll text tokens (Ok found) = Stood text tokens (length tokens) found
ReadAll text tokens (Err (Fault fault)) = Stops text tokens fault
ReadAll text tokens (Err Memory) = Unit {0}
