use Rattle.std.proofs.Common.{sym}
use Rattle.program_meaning.specs.Variables as spec
use Rattle.rule_variables.proofs.Occurrences.{any_read_at}
use Rattle.rule_variables.proofs.literals.is_in_body.Goals as goal

pub returns-then-is_in_literal : goal.returns-then-is_in_literal
returns-then-is_in_literal c = any_read_at (spec.occurs_in_literal c.args.number) c.args.body.now c.loop-literal.literal-index c.literal-item.result c.loop-literal-test.true c.literal-item.is (sym c.if-is_in_literal.ensures)
