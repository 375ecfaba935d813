-- What follows for the trees of forms.
use Rattle.std.specs.Prelude.{◌≡◌, ℕ, List, Option}
use Rattle.syntax_tree.specs.declared.rule.Name.{Name}
use Rattle.syntax_tree.specs.declared.rule.Head.TheVariants as head
use Rattle.syntax_tree.specs.declared.rule.Rule.{Rule}
use Rattle.grammar.specs.Term.{Operand, Room}
use Rattle.grammar.specs.Tree.{unary_tree, operand_tree}
use Rattle.grammar.specs.Statement.{BodyOf, HeadOf, ArrowOf, headed, constraint}
use Rattle.grammar.specs.StatementTree.{body_trees, head_tree, arrow_trees}
use Rattle.grammar.specs.StatementSight.{sights_of_statement}
use Rattle.rewriting.specs.Order.{sights_of}
use Rattle.seen_forms.specs.Seen.{AreSeenAs}

-- in a rule with a head is seen what is seen in its form, wherever this stands
abbrev pub HeadedLaw : Type 0
HeadedLaw =
    (n : ℕ) (names : List Name) (form : HeadOf (Operand n) (Room n)) (behind : ArrowOf (Operand n) (Room n)) (at : ℕ) (rule : Rule)
    → rule.head ≡ head_tree (operand_tree names n) (unary_tree names (operand_tree names n)) form
    → rule.body ≡ arrow_trees (operand_tree names n) (unary_tree names (operand_tree names n)) behind
    → AreSeenAs names (sights_of_statement n (headed form behind) at) (sights_of rule)

-- and so in a rule without a head
abbrev pub ConstraintLaw : Type 0
ConstraintLaw =
    (n : ℕ) (names : List Name) (body : Option (BodyOf (Operand n) (Room n))) (at : ℕ) (rule : Rule)
    → rule.head ≡ head.Nothing → rule.body ≡ body_trees (operand_tree names n) (unary_tree names (operand_tree names n)) body
    → AreSeenAs names (sights_of_statement n (constraint body) at) (sights_of rule)
