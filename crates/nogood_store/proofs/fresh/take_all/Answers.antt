use Rattle.std.proofs.Common.{rules, arith, subst}
use Rattle.trail.proofs.GrowthLaws.{grows_none, grows_on}
use Rattle.nogood_store.specs.Propagation.{IsForced}
use Rattle.nogood_store.specs.Kept.{held_of}
use Rattle.nogood_store.specs.inner.Watching.{AreDone}
use Rattle.nogood_store.proofs.fresh.take_all.Goals as goal

pub each-init : goal.each-init
each-init c = record {
  working = c.requires.working;
  grows = grows_none (IsForced (held_of c.args.slots.now)) c.args.trail.now;
  left = omega arith;
  done = λ k le lt. absurd (omega arith);
}

pub take_in-requires-clause-done : goal.take_in-requires-clause-done
take_in-requires-clause-done c = subst (AreDone c.args.slots.now c.each.work.fresh.items c.each.trail) (omega arith) c.each.invariant.done

pub returns-in_err-id-clause-grows : goal.returns-in_err-id-clause-grows
returns-in_err-id-clause-grows c = grows_on (IsForced (held_of c.args.slots.now)) c.args.trail.now c.each.trail c.take_in.new.trail c.each.invariant.grows c.in_err-id.ensures.grows

pub returns-in-Some-clause-grows : goal.returns-in-Some-clause-grows
returns-in-Some-clause-grows c = grows_on (IsForced (held_of c.args.slots.now)) c.args.trail.now c.each.trail c.take_in.new.trail c.each.invariant.grows c.in_ok-id.ensures.grows

pub each-preserved : goal.each-preserved
each-preserved c = record {
  working = c.in_ok-id.ensures.working;
  grows = grows_on (IsForced (held_of c.args.slots.now)) c.args.trail.now c.each.trail c.take_in.new.trail c.each.invariant.grows c.in_ok-id.ensures.grows;
  left = c.in_ok-id.ensures.left;
  done = search rules;
}

pub returns-clause-done : goal.returns-clause-done
returns-clause-done c = subst (AreDone c.args.slots.now c.each.work.fresh.items c.each.trail) (omega arith) c.each.invariant.done
