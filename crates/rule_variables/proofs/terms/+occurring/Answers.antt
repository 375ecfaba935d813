use Rattle.std.proofs.Common.{sym}
use Rattle.program_meaning.specs.Variables as spec
use Rattle.rule_variables.specs.inner.Occurring.{occurs_in_part}
use Rattle.rule_variables.proofs.Occurrences.{any_true_at}
use Rattle.rule_variables.proofs.terms.+occurring.Goals as goal

pub occurs_in_arguments-returns-then-occurs : goal.occurs_in_arguments-returns-then-occurs
occurs_in_arguments-returns-then-occurs t c = any_true_at (spec.occurs c.args.number) c.args.args.now c.loop-arg.arg-index c.arg-item.result c.loop-arg-test.true c.arg-item.is (sym c.if-occurs.ensures)

pub occurs_in_parts-returns-then-has : goal.occurs_in_parts-returns-then-has
occurs_in_parts-returns-then-has t c = any_true_at (occurs_in_part c.args.number) c.args.parts.now c.loop-part.part-index c.part-item.result c.loop-part-test.true c.part-item.is (sym c.if-has.ensures)
