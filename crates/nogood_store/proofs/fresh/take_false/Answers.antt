use Rattle.nogood_store.proofs.Working.{fresh_one}
use Rattle.nogood_store.proofs.Moving.{nogood_named}
use Rattle.nogood_store.proofs.Visiting.{attaches_false, shut_false}
use Rattle.nogood_store.proofs.fresh.take_false.Goals as goal

pub recent-requires : goal.recent-requires
recent-requires c = nogood_named c.args.slots.now c.args.work.now c.args.trail.now c.args.slot c.lits_of-lits.result.now c.requires.working c.requires.fresh.known c.lits_of-lits.ensures.value

pub attach-requires-clause-attaches : goal.attach-requires-clause-attaches
attach-requires-clause-attaches c = attaches_false c.args.slots.now c.args.work.now c.args.trail.now c.args.index c.args.slot c.lits_of-lits.result.now c.args.first c.in-Some.second c.requires.working.assignment c.requires.fresh c.lits_of-lits.ensures.value c.lits_of-lits.ensures.nogood.rises c.requires.first c.requires.shut c.in-Some.ensures

pub settle-requires-clause-done : goal.settle-requires-clause-done
settle-requires-clause-done c = fresh_one c.args.slots.now c.args.work.now.fresh.items c.args.trail.now c.args.index c.args.slot c.requires.fresh.is (shut_false c.args.slots.now c.args.trail.now c.args.slot c.args.first c.requires.first c.requires.shut) c.requires.done
