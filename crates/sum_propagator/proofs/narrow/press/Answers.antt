use Rattle.trail.proofs.GrowthLaws.{grows_on, grows_assignment}
use Rattle.propagator_core.specs.Shown.{IsShown}
use Rattle.sum_propagator.specs.Kinds.{meaning_of}
use Rattle.sum_propagator.specs.Sides.{limit_of}
use Rattle.sum_propagator.proofs.Narrowing.{rests_more, grows_fits, on_later}
use Rattle.trail_bounds.proofs.Needing.{slack_grows}
use Rattle.sum_propagator.proofs.narrow.press.Goals as goal

pub press_one-requires-clause-assignment : goal.press_one-requires-clause-assignment
press_one-requires-clause-assignment c = grows_assignment (IsShown (meaning_of c.args.sum.now.kind c.args.sum.now.number c.args.sum.now.items c.args.sum.now.most).valid) c.args.trail.now c.loop-at.trail c.loop-at.invariant.grows c.requires.assignment

pub press_one-requires-clause-fits : goal.press_one-requires-clause-fits
press_one-requires-clause-fits c = grows_fits (IsShown (meaning_of c.args.sum.now.kind c.args.sum.now.number c.args.sum.now.items c.args.sum.now.most).valid) c.args.trail.now c.loop-at.trail (meaning_of c.args.sum.now.kind c.args.sum.now.number c.args.sum.now.items c.args.sum.now.most).fits c.loop-at.invariant.grows c.requires.fits

pub press_one-requires-clause-on : goal.press_one-requires-clause-on
press_one-requires-clause-on c = on_later (IsShown (meaning_of c.args.sum.now.kind c.args.sum.now.number c.args.sum.now.items c.args.sum.now.most).valid) c.args.trail.now c.loop-at.trail c.args.sum.now.kind c.args.sum.now.number c.args.side c.loop-at.invariant.grows c.requires.on

pub press_one-requires-clause-slack : goal.press_one-requires-clause-slack
press_one-requires-clause-slack c = slack_grows (IsShown (meaning_of c.args.sum.now.kind c.args.sum.now.number c.args.sum.now.items c.args.sum.now.most).valid) c.args.side c.args.trail.now c.loop-at.trail c.args.sum.now.items (limit_of c.args.side c.args.sum.now.most) c.args.slack c.loop-at.invariant.grows c.requires.slack

pub loop-at-preserved : goal.loop-at-preserved
loop-at-preserved c =
    let P = IsShown (meaning_of c.args.sum.now.kind c.args.sum.now.number c.args.sum.now.items c.args.sum.now.most).valid in
    record {
      grows = grows_on P c.args.trail.now c.loop-at.trail c.press_one.new.trail c.loop-at.invariant.grows c.press_one.ensures.grows;
      rest = rests_more P c.args.trail.now c.loop-at.trail c.press_one.new.trail c.args.side c.args.sum.now.items c.args.slack c.loop-at.at c.loop-at.invariant.grows c.press_one.ensures.grows c.loop-at.invariant.rest c.in_ok-press_one.ensures.rests;
    }

pub returns-in_err-press_one-clause-grows : goal.returns-in_err-press_one-clause-grows
returns-in_err-press_one-clause-grows c =
    let P = IsShown (meaning_of c.args.sum.now.kind c.args.sum.now.number c.args.sum.now.items c.args.sum.now.most).valid in
    grows_on P c.args.trail.now c.loop-at.trail c.press_one.new.trail c.loop-at.invariant.grows c.press_one.ensures.grows
