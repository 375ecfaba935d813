use Rattle.std.proofs.Common.{map, ◌∙◌, arith}
use Rattle.propagator_core.specs.Shown.{IsShown}
use Rattle.propagator_core.specs.Several.{some_valid}
use Rattle.propagation.proofs.SettleLaws.{rows_on, from_on, narrowed_step, quiet_step, conflict_step}
use Rattle.propagation.proofs.calls.call_first.Goals as goal

pub wake_from-requires-clause-rows : goal.wake_from-requires-clause-rows
wake_from-requires-clause-rows g c =
    rows_on (IsShown (some_valid (map g.P.Propagator.meaning c.args.propagators.now))) c.args.wakes.now c.args.trail.now c.call.new.trail c.args.awake.now.count c.wake.new.self.count c.call.ensures.grows (c.wake.ensures.count ∙ c.take.ensures.count) c.requires.rows

pub wake_from-requires-clause-from : goal.wake_from-requires-clause-from
wake_from-requires-clause-from g c = from_on (IsShown (some_valid (map g.P.Propagator.meaning c.args.propagators.now))) c.args.trail.now c.call.new.trail c.length-from.result c.length-from.ensures.value c.call.ensures.grows

pub wake_from-requires-in-Ok-Quiet-clause-rows : goal.wake_from-requires-in-Ok-Quiet-clause-rows
wake_from-requires-in-Ok-Quiet-clause-rows g c =
    rows_on (IsShown (some_valid (map g.P.Propagator.meaning c.args.propagators.now))) c.args.wakes.now c.args.trail.now c.call.new.trail c.args.awake.now.count c.take.new.self.count c.call.ensures.grows c.take.ensures.count c.requires.rows

pub wake_from-requires-in-Ok-Quiet-clause-from : goal.wake_from-requires-in-Ok-Quiet-clause-from
wake_from-requires-in-Ok-Quiet-clause-from g c = from_on (IsShown (some_valid (map g.P.Propagator.meaning c.args.propagators.now))) c.args.trail.now c.call.new.trail c.length-from.result c.length-from.ensures.value c.call.ensures.grows

pub returns-in-Ok-Conflict-clause-step : goal.returns-in-Ok-Conflict-clause-step
returns-in-Ok-Conflict-clause-step g c =
    conflict_step g.P.Propagator.meaning c.args.propagators.now c.in-Some.place c.args.trail.now c.call.new.trail c.in-Ok-Conflict.field-0 c.in-Ok-Conflict.reason (let count = c.requires.count in let first = c.in-Some.ensures.first.0 in omega (arith, count, first))
    c.in-Ok-Conflict.field-0-is c.in-Ok-Conflict.ensures.answer

pub returns-in_ok-wake_from-in-Ok-Narrowed-clause-step : goal.returns-in_ok-wake_from-in-Ok-Narrowed-clause-step
returns-in_ok-wake_from-in-Ok-Narrowed-clause-step g c =
    narrowed_step c.args.wakes.now (map g.P.Propagator.meaning c.args.propagators.now) c.in-Some.place c.length-from.result c.args.awake.now.places c.take.new.self.places c.wake.new.self.places c.wake_from.new.awake.places c.args.trail.now c.call.new.trail
    c.in-Ok-Narrowed.field-0 c.length-from.ensures.value c.call.ensures.grows c.in-Some.ensures.first.1 c.wake.ensures.kept c.in_ok-wake-in-Ok-Narrowed.ensures.awake c.wake_from.ensures.kept (c.in_ok-wake_from-in-Ok-Narrowed).ensures.heard
    c.in-Ok-Narrowed.field-0-is c.in-Ok-Narrowed.ensures.answer

pub returns-in_ok-wake_from-in-Ok-Quiet-clause-step : goal.returns-in_ok-wake_from-in-Ok-Quiet-clause-step
returns-in_ok-wake_from-in-Ok-Quiet-clause-step g c =
    quiet_step c.args.wakes.now (map g.P.Propagator.meaning c.args.propagators.now) c.in-Some.place c.length-from.result c.args.awake.now.places c.take.new.self c.wake_from-in-Ok-Quiet.new.awake c.args.trail.now c.call.new.trail c.in-Ok-Quiet.field-0
    c.length-from.ensures.value c.call.ensures.grows c.in-Some.ensures.first.1 c.wake_from-in-Ok-Quiet.ensures.kept (c.in_ok-wake_from-in-Ok-Quiet).ensures.heard c.wake_from-in-Ok-Quiet.ensures.same c.in-Ok-Quiet.field-0-is c.in-Ok-Quiet.ensures.answer
