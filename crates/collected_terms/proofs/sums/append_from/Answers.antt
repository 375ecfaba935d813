use Rattle.std.proofs.Common.{◌++◌, drop, refl}
use Rattle.collected_terms.proofs.Merges.{append_more, append_end}
use Rattle.collected_terms.proofs.sums.append_from.Goals as goal

pub loop-at-init : goal.loop-at-init
loop-at-init c = refl

pub loop-at-preserved : goal.loop-at-preserved
loop-at-preserved c =
    append_more c.loop-at.out c.args.pairs.now (c.args.out.now ++ drop c.args.from c.args.pairs.now) c.push.new.self c.loop-at.at c.index-pairs-at.result
    c.loop-at-test.true c.index-pairs-at.is c.loop-at.invariant c.in_ok-push.ensures.ok

pub returns : goal.returns
returns c = append_end c.loop-at.out c.args.pairs.now (c.args.out.now ++ drop c.args.from c.args.pairs.now) c.loop-at.at c.loop-at-test.false c.loop-at.invariant
