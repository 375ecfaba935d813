-- The trees of the statements of a text keep the rules on trees.
use Rattle.std.proofs.Common.{◌≡◌, ℕ, ◌+◌, true, List, [], ◌∷◌, Result, Ok, Err, refl, sym, subst}
use Rattle.std.specs.List.{AllByRecursion, list_all}
use Rattle.std.specs.Result.{IfOk}
use Rattle.lexer.specs.declared.token.Token.{Token}
use Rattle.syntax_tree.specs.declared.statement.Statement.{Statement}
use Rattle.syntax_tree.specs.Tree.{is_name}
use Rattle.syntax_tree.specs.Statements.{is_statement}
use Rattle.grammar.specs.Rules.{KeepsRules}
use Rattle.grammar.specs.Sight.{size}
use Rattle.grammar.specs.Statement.{StatementAt, headed, constraint, constant, show_nothing, show, words_of_statement}
use Rattle.grammar.specs.StatementTree.{has_arrow}
use Rattle.grammar.specs.StatementSight.{sights_of_statement}
use Rattle.grammar.proofs.WrittenStatements.{texts_keep}
use Rattle.grammar.proofs.StatementRules.{rule_keeps, constraint_keeps, constant_keeps, show_keeps}
use Rattle.theory_grammar.specs.Kept.{start_of}
use Rattle.theory_grammar.proofs.NamedRules.{named_are}
use Rattle.asp_parser.specs.declared.fault.TextStop.{TextStop}
use Rattle.asp_parser.specs.Parsed.{names_of, places_in, tree_of, trees_of, FoundText}

names_are : (form : StatementAt 64) (at : ℕ) → KeepsRules 64 form → list_all (λ name. is_name name.text) (names_of form at) ≡ true
names_are form at k = named_are [] (sights_of_statement 64 form at) refl (k.names at)

tree_keeps : (tokens : List Token) (form : StatementAt 64) (at : ℕ) → KeepsRules 64 form → is_statement (tree_of tokens form at) ≡ true
tree_keeps tokens (headed h behind) at k = rule_keeps 64 (names_of (headed h behind) at) (names_are (headed h behind) at k) (places_in tokens (headed h behind) at) (has_arrow behind) h behind k
tree_keeps tokens (constraint body) at k = constraint_keeps 64 (names_of (constraint body) at) (names_are (constraint body) at k) (places_in tokens (constraint body) at) true body k
tree_keeps tokens (constant name term) at k = constant_keeps 64 (names_of (constant name term) at) name term (start_of tokens (at + 1)) k
tree_keeps tokens show_nothing at k = refl
tree_keeps tokens (show name arity) at k = show_keeps 64 name arity k

each_keeps : (tokens : List Token) (forms : List (StatementAt 64)) (at : ℕ) → AllByRecursion (KeepsRules 64) forms → AllByRecursion (λ s. is_statement s ≡ true) (trees_of tokens forms at)
each_keeps tokens [] at h = tt
each_keeps tokens (form ∷ forms) at h = (tree_keeps tokens form at h.0, each_keeps tokens forms (at + size (words_of_statement 64) form) h.1)

trees_keep : (text : List ℕ) (statements : List Statement) → FoundText text statements → AllByRecursion (λ s. is_statement s ≡ true) statements
trees_keep text statements f = subst (AllByRecursion (λ s. is_statement s ≡ true)) (sym f.are) (each_keeps f.tokens f.forms 0 (texts_keep text f.tokens 64 f.forms f.tokenised f.derived))

pub all_keep : (text : List ℕ) (result : Result (List Statement) TextStop) → IfOk result (FoundText text) → IfOk result (AllByRecursion (λ s. is_statement s ≡ true))
all_keep text (Ok statements) f = trees_keep text statements f
all_keep text (Err refusal) f = tt
