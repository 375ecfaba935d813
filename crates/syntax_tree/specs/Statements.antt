-- The rules on rules, statements and programs: their terms and literals keep their rules, and no name is
-- empty or anything but UTF-8.
use Rattle.std.specs.Prelude.{Bool, true, ◌&&◌, ◌==◌, length}
use Rattle.std.specs.List.{list_all}
use Rattle.syntax_tree.specs.declared.rule.Head.{Head}
use Rattle.syntax_tree.specs.declared.rule.Head.TheVariants as head
use Rattle.syntax_tree.specs.declared.rule.Choice.{Choice}
use Rattle.syntax_tree.specs.declared.rule.ChoiceElement.{ChoiceElement}
use Rattle.syntax_tree.specs.declared.rule.Rule.{Rule}
use Rattle.syntax_tree.specs.declared.statement.Statement.{Statement}
use Rattle.syntax_tree.specs.declared.statement.Statement.TheVariants as statement
use Rattle.syntax_tree.specs.declared.statement.Program.{Program}
use Rattle.syntax_tree.specs.Tree.{is_name, is_term}
use Rattle.syntax_tree.specs.Literals.{is_none_or, is_guard, is_literal, is_theory_atom}

-- the atom and its condition keep their rules
abbrev pub is_choice_element : ChoiceElement → Bool
is_choice_element element = is_term element.atom && list_all is_literal element.condition

-- the bounds and the elements keep their rules
abbrev pub is_choice : Choice → Bool
is_choice choice = is_none_or is_guard choice.left && list_all is_choice_element choice.elements && is_none_or is_guard choice.right

-- what stands in the head keeps its rules
abbrev pub is_head : Head → Bool
is_head head.Nothing = true
is_head (head.Atom atom) = is_term atom
is_head (head.Theory atom) = is_theory_atom atom
is_head (head.Choice choice) = is_choice choice

-- head, body and names keep their rules
abbrev pub is_rule : Rule → Bool
is_rule rule = is_head rule.head && list_all is_literal rule.body && list_all (λ name. is_name name.text) rule.names

-- the statement keeps the rules on statements
abbrev pub is_statement : Statement → Bool
is_statement (statement.Rule rule) = is_rule rule
is_statement (statement.Constant name term place) = is_name name && is_term term
is_statement statement.ShowNothing = true
is_statement (statement.Show name arity) = is_name name

-- each statement keeps its rules, and has the number of its text
abbrev pub is_program : Program → Bool
is_program program = list_all is_statement program.statements && length program.files == length program.statements
