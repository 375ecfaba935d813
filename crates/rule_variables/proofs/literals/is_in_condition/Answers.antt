use Rattle.std.proofs.Common.{sym}
use Rattle.program_meaning.specs.Variables as spec
use Rattle.rule_variables.proofs.Occurrences.{any_plain_at}
use Rattle.rule_variables.proofs.literals.is_in_condition.Goals as goal

pub returns-then-is_in_plain : goal.returns-then-is_in_plain
returns-then-is_in_plain c = any_plain_at (spec.occurs_in c.args.number) c.args.condition.now c.loop-literal.literal-index c.literal-item.result c.loop-literal-test.true c.literal-item.is (sym c.if-is_in_plain.ensures)
