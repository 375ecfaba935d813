use Rattle.std.proofs.Common.{length, get_or, arith}
use Rattle.nogood_store.proofs.HeldLaws.{get_any}
use Rattle.nogood_store.proofs.Moving.{nogood_named}
use Rattle.nogood_store.proofs.Visiting.{met_conflict}
use Rattle.nogood_store.proofs.fresh.take_in.Goals as goal

pub untrue-requires : goal.untrue-requires
untrue-requires c = nogood_named c.args.slots.now c.args.work.now c.args.trail.now c.fresh_at-slot.result c.lits_of-lits.result.now c.requires.working c.fresh_at-slot.ensures.known c.lits_of-lits.ensures.value

pub returns-in-None-clause-conflict : goal.returns-in-None-clause-conflict
returns-in-None-clause-conflict c =
    met_conflict c.args.slots.now c.fresh_at-slot.result (get_or c.args.slots.now c.fresh_at-slot.result c.index-slots-slot.result) c.lits_of-lits.result.now (length c.lits_of-lits.result.now) c.args.trail.now c.requires.working.ascend c.fresh_at-slot.ensures.known
    (get_any c.args.slots.now c.fresh_at-slot.result c.index-slots-slot.result (get_or c.args.slots.now c.fresh_at-slot.result c.index-slots-slot.result) c.fresh_at-slot.ensures.known)
    c.lits_of-lits.ensures.value (omega arith) c.in-None.ensures.none
