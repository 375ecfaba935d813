use Rattle.std.proofs.Common.{sym}
use Rattle.program_meaning.specs.Variables as spec
use Rattle.rule_variables.proofs.Occurrences.{any_plain_at}
use Rattle.rule_variables.proofs.literals.is_atom_bound.Goals as goal

pub returns-then-binds : goal.returns-then-binds
returns-then-binds c = any_plain_at (spec.atom_binds c.args.number) c.args.literals.now c.loop-literal.literal-index c.literal-item.result c.loop-literal-test.true c.literal-item.is (sym c.if-binds.ensures)
