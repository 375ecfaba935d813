use Rattle.refusals.proofs.BindingLemmas.{out_of_values}
use Rattle.refusals.proofs.bindings.write_bindings.Goals as goal

pub returns-then-at-values : goal.returns-then-at-values
returns-then-at-values c =
    out_of_values c.args.rule.now c.args.symbols.now c.args.variables.now c.args.values.now c.loop-at.at c.loop-at.out _ c.if-at-values.true c.loop-at.invariant.rest
