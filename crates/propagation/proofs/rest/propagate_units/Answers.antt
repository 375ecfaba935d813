use Rattle.nogood_store.specs.Propagation.{IsForced}
use Rattle.propagation.proofs.SettleLaws.{rows_on, from_on, units_keep}
use Rattle.std.proofs.Common.{refl}
use Rattle.propagation.proofs.rest.propagate_units.Goals as goal

pub wake_from-requires-clause-rows : goal.wake_from-requires-clause-rows
wake_from-requires-clause-rows c = rows_on (IsForced c.args.store.now.held) c.args.wakes.now c.args.trail.now c.unit_propagate.new.trail c.args.awake.now.count c.args.awake.now.count c.unit_propagate.ensures.grows refl c.requires.rows

pub wake_from-requires-clause-from : goal.wake_from-requires-clause-from
wake_from-requires-clause-from c = from_on (IsForced c.args.store.now.held) c.args.trail.now c.unit_propagate.new.trail c.length-from.result c.length-from.ensures.value c.unit_propagate.ensures.grows

pub returns-in-Ok-clause-others : goal.returns-in-Ok-clause-others
returns-in-Ok-clause-others c ms =
    units_keep (IsForced c.args.store.now.held) c.args.wakes.now ms c.args.awake.now.places c.wake_from.new.awake.places c.args.trail.now c.unit_propagate.new.trail c.length-from.result c.length-from.ensures.value c.unit_propagate.ensures.grows c.wake_from.ensures.kept c.in-Ok.ensures.heard
