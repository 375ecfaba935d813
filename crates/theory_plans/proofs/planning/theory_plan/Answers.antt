use Rattle.program_meaning.specs.Read.{rule_read}
use Rattle.theory_plans.proofs.Theories.{elements-of, elements-trees}
use Rattle.theory_plans.proofs.planning.theory_plan.Goals as goal

pub element_plans-requires-clause-members : goal.element_plans-requires-clause-members
element_plans-requires-clause-members c =
    elements-of (rule_read c.args.rule.now c.args.order.now) c.args.theory.now c.as_slice.result.now c.as_slice.ensures c.requires.member

pub element_plans-requires-clause-trees : goal.element_plans-requires-clause-trees
element_plans-requires-clause-trees c = elements-trees c.args.theory.now c.as_slice.result.now c.as_slice.ensures c.requires.tree
