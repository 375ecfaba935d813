-- The rules on trees, for the forms of statements, where these are the names of a rule's variables.
use Rattle.std.specs.Prelude.{◌≡◌, ℕ, Bool, true, ◌&&◌, List}
use Rattle.std.specs.List.{list_all, AllByRecursion}
use Rattle.syntax_tree.specs.declared.rule.Name.{Name}
use Rattle.syntax_tree.specs.declared.term.Term.{Term}
use Rattle.syntax_tree.specs.Tree.{is_name, is_term}
use Rattle.syntax_tree.specs.Literals.{is_literal}
use Rattle.syntax_tree.specs.Statements.{is_head}
use Rattle.grammar.specs.Term.{UnaryOf}
use Rattle.grammar.specs.Tree.{unary_tree, operand_tree}
use Rattle.grammar.specs.Sight.{Sight, Sighting, of_variable, of_anonymous, of_interval, of_atom}
use Rattle.grammar.specs.Statement.{StatementOf, StatementAt, headed, constraint, constant, show_nothing, show}
use Rattle.grammar.specs.StatementTree.{full_tree, head_tree, body_trees, arrow_trees}
use Rattle.grammar.specs.StatementSight.{sights_of_statement}

-- a variable that is seen has a name that is not empty and UTF-8
abbrev pub has_name : Sighting → Bool
has_name s = sight_has_name s.sight
  where
    sight_has_name : Sight → Bool
    sight_has_name (of_variable name) = is_name name
    sight_has_name of_anonymous = true
    sight_has_name of_interval = true
    sight_has_name of_atom = true

abbrev pub HaveNames : List Sighting → Type 0
HaveNames sights = AllByRecursion (λ s. has_name s ≡ true) sights

-- the trees in a statement keep their rules, and its names are names
module _ {D R : Type 0} (inner : D → Term) (operand : UnaryOf D R → Term) where
  abbrev pub keeps_rules : StatementOf D R → Bool
  keeps_rules (headed head behind) = is_head (head_tree inner operand head) && list_all is_literal (arrow_trees inner operand behind)
  keeps_rules (constraint body) = list_all is_literal (body_trees inner operand body)
  keeps_rules (constant name term) = is_name name && is_term (full_tree inner operand term)
  keeps_rules show_nothing = true
  keeps_rules (show name arity) = is_name name

-- the statement's tree keeps the rules whatever the names of its rule's variables are, and each variable that is seen in it has a name
pub record KeepsRules (n : ℕ) (statement : StatementAt n) : Type 0 where
  pub tree : (names : List Name) → keeps_rules (operand_tree names n) (unary_tree names (operand_tree names n)) statement ≡ true
  pub names : (at : ℕ) → HaveNames (sights_of_statement n statement at)
