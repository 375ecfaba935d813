-- Statements with their constants replaced keep the rules on statements.
use Rattle.std.proofs.Common.{◌≡◌, ℕ, suc, Bool, true, false, ◌&&◌, ◌==◌, IsTrue, List, [], ◌∷◌, map, length, refl, sym, ap, ◌∙◌, subst}
use Rattle.std.specs.List.{list_all}
use Rattle.syntax_tree.specs.declared.rule.Head.{Head}
use Rattle.syntax_tree.specs.declared.rule.Head.TheVariants as head
use Rattle.syntax_tree.specs.declared.rule.Choice.{Choice}
use Rattle.syntax_tree.specs.declared.rule.ChoiceElement.{ChoiceElement}
use Rattle.syntax_tree.specs.declared.rule.Rule.{Rule}
use Rattle.syntax_tree.specs.declared.statement.Statement.{Statement}
use Rattle.syntax_tree.specs.declared.statement.Statement.TheVariants as statement
use Rattle.syntax_tree.specs.declared.statement.Program.{Program}
use Rattle.syntax_tree.specs.Tree.{is_name, is_term}
use Rattle.syntax_tree.specs.Literals.{is_none_or, is_guard, is_literal, is_theory_atom}
use Rattle.syntax_tree.specs.Statements.{is_choice_element, is_choice, is_head, is_rule, is_statement, is_program}
use Rattle.asp_parser.specs.Replacement.{Constants, replaced_guard, replaced_literal, replaced_choice_element, replaced_choice, replaced_head, replaced_rule, replaced_statement}
use Rattle.asp_parser.specs.ConstantTable.{AreTrees}
use Rattle.asp_parser.proofs.Terms.{both, left, right}
use Rattle.asp_parser.proofs.Literals.{list_stay, option_stay, guard_stays, atom_stays, literal_stays, theory_stays}

module _ (constants : Constants) (trees : AreTrees constants) where
  choice_element_stays : (element : ChoiceElement) → IsTrue (is_choice_element element) → IsTrue (is_choice_element (replaced_choice_element constants element))
  choice_element_stays element h =
      both _ _ (atom_stays constants trees element.atom (left (is_term element.atom) _ h))
      (list_stay is_literal (replaced_literal constants) (literal_stays constants trees) element.condition (right (is_term element.atom) _ h))

  choice_stays : (choice : Choice) → IsTrue (is_choice choice) → IsTrue (is_choice (replaced_choice constants choice))
  choice_stays choice h =
      let first_two = left (is_none_or is_guard choice.left && list_all is_choice_element choice.elements) (is_none_or is_guard choice.right) h in
      both _ _
      (both _ _ (option_stay is_guard (replaced_guard constants) (guard_stays constants trees) choice.left (left (is_none_or is_guard choice.left) _ first_two))
      (list_stay is_choice_element (replaced_choice_element constants) choice_element_stays choice.elements (right (is_none_or is_guard choice.left) _ first_two)))
      (option_stay is_guard (replaced_guard constants) (guard_stays constants trees) choice.right (right (is_none_or is_guard choice.left && list_all is_choice_element choice.elements) _ h))

  head_stays : (h : Head) → IsTrue (is_head h) → IsTrue (is_head (replaced_head constants h))
  head_stays head.Nothing h = refl
  head_stays (head.Atom atom) h = atom_stays constants trees atom h
  head_stays (head.Theory atom) h = theory_stays constants trees atom h
  head_stays (head.Choice choice) h = choice_stays choice h

  rule_stays : (rule : Rule) → IsTrue (is_rule rule) → IsTrue (is_rule (replaced_rule constants rule))
  rule_stays rule h =
      let first_two = left (is_head rule.head && list_all is_literal rule.body) (list_all (λ name. is_name name.text) rule.names) h in
      both _ _
      (both _ _ (head_stays rule.head (left (is_head rule.head) _ first_two))
      (list_stay is_literal (replaced_literal constants) (literal_stays constants trees) rule.body (right (is_head rule.head) _ first_two)))
      (right (is_head rule.head && list_all is_literal rule.body) _ h)

  statement_stays : (next : Statement) → IsTrue (is_statement next) → IsTrue (is_statement (replaced_statement constants next))
  statement_stays (statement.Rule rule) h = rule_stays rule h
  statement_stays (statement.Constant name term place) h = h
  statement_stays statement.ShowNothing h = h
  statement_stays (statement.Show name arity) h = h

  length_mapped : (f : Statement → Statement) (xs : List Statement) → length (map f xs) ≡ length xs
  length_mapped f [] = refl
  length_mapped f (x ∷ xs) = ap suc (length_mapped f xs)

  -- a program with its constants replaced keeps the rules on programs
  pub program_stays : (old new : Program) → new.statements ≡ map (replaced_statement constants) old.statements → new.files ≡ old.files → IsTrue (is_program old) → IsTrue (is_program new)
  program_stays old new statements files h =
      both _ _
      (subst (λ xs. IsTrue (list_all is_statement xs)) (sym statements)
      (list_stay is_statement (replaced_statement constants) statement_stays old.statements (left (list_all is_statement old.statements) _ h)))
      (ap (λ n. n == length new.statements) (ap length files) ∙ ap (λ n. length old.files == n) (ap length statements ∙ length_mapped (replaced_statement constants) old.statements)
      ∙ right (list_all is_statement old.statements) _ h)
