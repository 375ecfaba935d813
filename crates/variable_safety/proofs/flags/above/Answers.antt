use Rattle.std.proofs.Common.{arith}
use Rattle.variable_safety.proofs.Notes.{within_more}
use Rattle.variable_safety.proofs.flags.above.Goals as goal

pub loop-number-preserved : goal.loop-number-preserved
loop-number-preserved c = record {
  grown = omega arith;
  above = within_more c.args.numbers.now c.loop-number.number-index c.loop-number.size c.above_one-size.result c.loop-number-test.true
      c.above_one-size.ensures.grown c.above_one-size.ensures.above c.loop-number.invariant.above;
}

pub returns-clause-above : goal.returns-clause-above
returns-clause-above c = λ k d below. c.loop-number.invariant.above k d (omega arith) (omega arith)
