-- Statements whose trees keep their rules, with the names of their rules' variables.
use Rattle.std.proofs.Common.{◌≡◌, ℕ, Bool, true, List, [], Option, refl}
use Rattle.std.specs.List.{list_all}
use Rattle.std.proofs.lemmas.Bool.{and_parts}
use Rattle.syntax_tree.specs.declared.rule.Head.{Head}
use Rattle.syntax_tree.specs.declared.rule.Head.TheVariants as head
use Rattle.syntax_tree.specs.declared.rule.Name.{Name}
use Rattle.syntax_tree.specs.declared.term.Term.{Term}
use Rattle.syntax_tree.specs.declared.literal.Literal.{Literal}
use Rattle.syntax_tree.specs.declared.statement.Statement.{Statement}
use Rattle.syntax_tree.specs.declared.statement.Statement.TheVariants as statement
use Rattle.syntax_tree.specs.Tree.{is_name}
use Rattle.syntax_tree.specs.Literals.{is_literal}
use Rattle.syntax_tree.specs.Statements.{is_head, is_statement}
use Rattle.grammar.specs.Rules.{KeepsRules}
use Rattle.grammar.specs.Term.{UnaryOf, Operand, Room}
use Rattle.grammar.specs.Tree.{unary_tree, operand_tree}
use Rattle.grammar.specs.Theory.{FullTerm}
use Rattle.grammar.specs.Statement.{BodyOf, HeadOf, ArrowOf, headed, constraint, constant, show}
use Rattle.grammar.specs.StatementTree.{full_tree, head_tree, body_trees, arrow_trees}
use Rattle.grammar.proofs.WrittenStatements.{and_three}

module _ (n : ℕ) where
  abbrev D : Type 0
  D = Operand n

  abbrev R : Type 0
  R = Room n

  -- a rule with these names, wherever it and its parts stand
  module _ (names : List Name) (are : list_all (λ name. is_name name.text) names ≡ true) (places : List ℕ) (written : Bool) where
    abbrev inner : D → Term
    inner = operand_tree names n

    abbrev operand : UnaryOf D R → Term
    operand = unary_tree names inner

    abbrev made : Head → List Literal → Statement
    made h body = statement.Rule (record { head = h; body = body; arrow = written; names = names; places = places })

    pub rule_keeps : (h : HeadOf D R) (behind : ArrowOf D R) → KeepsRules n (headed h behind) → is_statement (made (head_tree inner operand h) (arrow_trees inner operand behind)) ≡ true
    rule_keeps h behind k =
        let first : Bool = is_head (head_tree inner operand h) in
        let second : Bool = list_all is_literal (arrow_trees inner operand behind) in
        let p = and_parts first second (k.tree names) in
        and_three first second (list_all (λ name. is_name name.text) names) p.0 p.1 are

    pub constraint_keeps : (body : Option (BodyOf D R)) → KeepsRules n (constraint body) → is_statement (made head.Nothing (body_trees inner operand body)) ≡ true
    constraint_keeps body k = and_three true (list_all is_literal (body_trees inner operand body)) (list_all (λ name. is_name name.text) names) refl (k.tree names) are

  pub constant_keeps : (names : List Name) (name : List ℕ) (term : FullTerm D R) (place : ℕ) → KeepsRules n (constant name term)
      → is_statement (statement.Constant name (full_tree (operand_tree names n) (unary_tree names (operand_tree names n)) term) place) ≡ true
  constant_keeps names name term place k = k.tree names

  pub show_keeps : (name : List ℕ) (arity : ℕ) → KeepsRules n (show name arity) → is_statement (statement.Show name arity) ≡ true
  show_keeps name arity k = k.tree []
