-- The rules that a text parses to pass the checks.
use Rattle.std.proofs.Common.{◌≡◌, ℕ, ◌+◌, true, List, [], ◌∷◌, Option, refl, subst, sym}
use Rattle.std.specs.List.{AllByRecursion}
use Rattle.lexer.specs.declared.token.Token.{Token}
use Rattle.syntax_tree.specs.declared.rule.Head.TheVariants as head
use Rattle.syntax_tree.specs.declared.rule.Rule.{Rule}
use Rattle.syntax_tree.specs.declared.statement.Statement.{Statement}
use Rattle.grammar.specs.Term.{Operand, Room, operand_words}
use Rattle.grammar.specs.Shape.{operand_shape}
use Rattle.grammar.specs.Tree.{unary_tree, operand_tree}
use Rattle.grammar.specs.Sight.{Sighting, size, operand_bads}
use Rattle.grammar.specs.Statement.{BodyOf, HeadOf, ArrowOf, StatementAt, headed, constraint, constant, show_nothing, show, words_of_statement}
use Rattle.grammar.specs.StatementTree.{body_trees, head_tree, arrow_trees, has_arrow}
use Rattle.grammar.specs.StatementSight.{sights_of_statement}
use Rattle.grammar.specs.Check.{operand_is_difference, statement_fails, too_many, failing}
use Rattle.theory_grammar.specs.Kept.{named}
use Rattle.ground_model.proofs.OrderedLemmas.{property_append}
use Rattle.asp_parser.specs.Parsed.{names_of, places_in, tree_of, trees_of, AllPass}
use Rattle.rewriting.specs.Order.{sights_of}
use Rattle.safety_meaning.specs.Program.{rule_in, written_rules}
use Rattle.checked_rules.specs.Checked.{IsChecked, IsCheckedRule}
use Rattle.seen_forms.proofs.Statements.{headed_law, constraint_law}
use Rattle.seen_forms.specs.Seen.{AreSeenAs}
use Rattle.parsed_rules.specs.Laws.{ParsedLaw}
use Rattle.parsed_rules.proofs.Passing.{both_nothing}
use Rattle.parsed_rules.proofs.Statements.{headed_passes, constraint_passes}
use Rattle.parsed_rules.proofs.Naming.{are_named}
use Rattle.parsed_rules.proofs.Counting.{few_variables}

-- a rule whose names are those that are seen
from_sights : (sights : List Sighting) (rule : Rule) → rule.names ≡ named [] sights → AreSeenAs (named [] sights) sights (sights_of rule) → too_many sights ≡ [] → IsChecked rule → IsCheckedRule rule
from_sights sights rule is seen few checked = record {
  checked = checked;
  named = are_named sights rule is seen;
  few = few_variables (named [] sights) sights (sights_of rule) seen few;
}

module _ (tokens : List Token) where
  headed_checked : (h : HeadOf (Operand 64) (Room 64)) (behind : ArrowOf (Operand 64) (Room 64)) (at : ℕ) → failing 64 (headed h behind) at ≡ []
      → AllByRecursion IsCheckedRule (rule_in (tree_of tokens (headed h behind) at))
  headed_checked h behind at none =
      let sights = sights_of_statement 64 (headed h behind) at in
      let names = names_of (headed h behind) at in
      let p = both_nothing (statement_fails (operand_words 64) (operand_shape 64) (operand_bads 64) (operand_is_difference 64) sights (headed h behind) at) (too_many sights) none in
      let passes = headed_passes 64 names sights h behind at p.0 in
      let rule : Rule = record {
        head = head_tree (operand_tree names 64) (unary_tree names (operand_tree names 64)) h;
        body = arrow_trees (operand_tree names 64) (unary_tree names (operand_tree names 64)) behind;
        arrow = has_arrow behind;
        names = names;
        places = places_in tokens (headed h behind) at;
      } in
      (from_sights sights rule refl (headed_law 64 names h behind at rule refl refl) p.1 (record { head = passes.0; body = passes.1 }), tt)

  constraint_checked : (body : Option (BodyOf (Operand 64) (Room 64))) (at : ℕ) → failing 64 (constraint body) at ≡ [] → AllByRecursion IsCheckedRule (rule_in (tree_of tokens (constraint body) at))
  constraint_checked body at none =
      let sights = sights_of_statement 64 (constraint body) at in
      let names = names_of (constraint body) at in
      let p = both_nothing (statement_fails (operand_words 64) (operand_shape 64) (operand_bads 64) (operand_is_difference 64) sights (constraint body) at) (too_many sights) none in
      let rule : Rule = record {
        head = head.Nothing;
        body = body_trees (operand_tree names 64) (unary_tree names (operand_tree names 64)) body;
        arrow = true;
        names = names;
        places = places_in tokens (constraint body) at;
      } in
      (from_sights sights rule refl (constraint_law 64 names body at rule refl refl) p.1 (record { head = tt; body = constraint_passes 64 names sights body at p.0 }), tt)

  form_checked : (form : StatementAt 64) (at : ℕ) → failing 64 form at ≡ [] → AllByRecursion IsCheckedRule (rule_in (tree_of tokens form at))
  form_checked (headed h behind) at none = headed_checked h behind at none
  form_checked (constraint body) at none = constraint_checked body at none
  form_checked (constant name term) at none = tt
  form_checked show_nothing at none = tt
  form_checked (show name arity) at none = tt

  forms_checked : (forms : List (StatementAt 64)) (at : ℕ) → AllPass forms at → AllByRecursion IsCheckedRule (written_rules (trees_of tokens forms at))
  forms_checked [] at pass = tt
  forms_checked (form ∷ forms) at pass =
      property_append IsCheckedRule (rule_in (tree_of tokens form at)) (written_rules (trees_of tokens forms (at + size (words_of_statement 64) form)))
      (form_checked form at pass.0) (forms_checked forms (at + size (words_of_statement 64) form) pass.1)

pub parsed_law : ParsedLaw
parsed_law text statements found =
    subst (λ (s : List Statement). AllByRecursion IsCheckedRule (written_rules s)) (sym found.are) (forms_checked found.tokens found.forms 0 found.pass)
