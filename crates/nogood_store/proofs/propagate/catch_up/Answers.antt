use Rattle.std.proofs.Common.{◌≡◌, ◌+◌, length, rules, arith}
use Rattle.trail.proofs.GrowthLaws.{grows_on}
use Rattle.nogood_store.specs.Propagation.{IsForced}
use Rattle.nogood_store.specs.Kept.{held_of}
use Rattle.nogood_store.proofs.propagate.catch_up.Goals as goal

pub returns-in_err-id-clause-grows : goal.returns-in_err-id-clause-grows
returns-in_err-id-clause-grows c = grows_on (IsForced (held_of c.args.slots.now)) c.args.trail.now c.ahead.trail c.step.new.trail c.ahead.invariant.grows c.in_err-id.ensures.grows

pub returns-in-Some-clause-grows : goal.returns-in-Some-clause-grows
returns-in-Some-clause-grows c = grows_on (IsForced (held_of c.args.slots.now)) c.args.trail.now c.ahead.trail c.step.new.trail c.ahead.invariant.grows c.in_ok-id.ensures.grows

pub ahead-preserved : goal.ahead-preserved
ahead-preserved c = record {
  working = c.in_ok-id.ensures.working;
  grows = grows_on (IsForced (held_of c.args.slots.now)) c.args.trail.now c.ahead.trail c.step.new.trail c.ahead.invariant.grows c.in_ok-id.ensures.grows;
  done = search rules;
}

pub ahead-smaller : goal.ahead-smaller
ahead-smaller c =
    let more : length c.step.new.work.looked.items ≡ length c.ahead.work.looked.items + 1 = search rules in
    omega arith
