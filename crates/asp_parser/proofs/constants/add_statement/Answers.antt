use Rattle.std.proofs.Common.{◌∙◌, IsTrue, ap, subst, Some, None, if◌then◌else◌}
use Rattle.syntax_tree.specs.Tree.{is_name}
use Rattle.syntax_tree.specs.Statements.{is_statement}
use Rattle.asp_parser.proofs.Terms.{right}
use Rattle.asp_parser.proofs.Values.{with_trees}
use Rattle.asp_parser.proofs.Worths.{with_values}
use Rattle.asp_parser.proofs.constants.add_statement.Goals as goal

pub returns-in-Ok-true-clause-trees : goal.returns-in-Ok-true-clause-trees
returns-in-Ok-true-clause-trees c =
    with_trees c.args.constants.now c.add_constant.new.constants c.in-Constant.name _ c.in-Constant.term c.requires.trees
    (right (is_name c.in-Constant.name) _ (subst (λ s. IsTrue (is_statement s)) c.in-Constant.is c.requires.tree))
    (c.in-Ok-true.ensures ∙ ap (λ b. if b then Some c.add_constant.new.constants else None) c.in-Ok-true.field-0-test)

pub returns-in-Ok-true-clause-values : goal.returns-in-Ok-true-clause-values
returns-in-Ok-true-clause-values c =
    with_values c.args.constants.now c.add_constant.new.constants c.in-Constant.name _ c.in-Constant.term c.requires.values
    (c.in-Ok-true.ensures ∙ ap (λ b. if b then Some c.add_constant.new.constants else None) c.in-Ok-true.field-0-test)
