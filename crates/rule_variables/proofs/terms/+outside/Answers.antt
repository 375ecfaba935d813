use Rattle.std.proofs.Common.{sym}
use Rattle.program_meaning.specs.Variables as spec
use Rattle.rule_variables.proofs.Occurrences.{any_true_at}
use Rattle.rule_variables.proofs.terms.+outside.Goals as goal

pub occurs_outside_in_arguments-returns-then-occurs_outside : goal.occurs_outside_in_arguments-returns-then-occurs_outside
occurs_outside_in_arguments-returns-then-occurs_outside t c = any_true_at (spec.occurs_outside c.args.number) c.args.args.now c.loop-arg.arg-index c.arg-item.result c.loop-arg-test.true c.arg-item.is (sym c.if-occurs_outside.ensures)
