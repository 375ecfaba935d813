use Rattle.std.proofs.Common.{◌+◌, ◌^◌, pos, length, ap, arith}
use Rattle.ground_model.specs.Sound.{most}
use Rattle.ground_parts.proofs.SumSteps.{add_step, within_more}
use Rattle.ground_parts.proofs.totals.add_linear.Goals as goal

pub add_to-requires-clause-room : goal.add_to-requires-clause-room
add_to-requires-clause-room c =
    let few = c.requires.sized.few in
    within_more (2 ^ 40 + c.loop-variable.variable-index) (2 ^ 41) c.loop-variable.sums (omega (arith, ap length c.items-variable-items.ensures))
    (c.loop-variable.invariant.within (2 ^ 40) c.requires.room)

pub loop-variable-preserved : goal.loop-variable-preserved
loop-variable-preserved c =
    let s = add_step c.items-variable-items.result.now c.loop-variable.variable-index (0, pos 0) c.args.sums.now c.loop-variable.sums c.add_to.new.sums _
    c.loop-variable-test.true c.loop-variable.invariant.left c.loop-variable.invariant.so_far c.loop-variable.invariant.within c.add_to.ensures in
    record { left = s.left; so_far = s.so_far; within = s.within }

pub returns-clause-within : goal.returns-clause-within
returns-clause-within c =
    λ n given.
    within_more (n + c.loop-variable.variable-index) (n + most) c.loop-variable.sums
    (let few = c.requires.sized.few in let e = ap length c.items-variable-items.ensures in let end = c.loop-variable.auto.variable-index-end in omega arith)
    (c.loop-variable.invariant.within n given)
