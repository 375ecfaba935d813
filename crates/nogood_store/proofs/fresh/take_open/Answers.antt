use Rattle.std.proofs.Common.{◌<◌, List, length, sym, subst}
use Rattle.literals.specs.declared.lit.Lit.{Lit}
use Rattle.nogood_store.proofs.Moving.{nogood_named}
use Rattle.nogood_store.proofs.Visiting.{attaches_open, others_at}
use Rattle.nogood_store.proofs.fresh.take_open.Goals as goal

pub untrue-requires : goal.untrue-requires
untrue-requires c = nogood_named c.args.slots.now c.args.work.now c.args.trail.now c.args.slot c.lits_of-lits.result.now c.requires.working c.requires.fresh.known c.lits_of-lits.ensures.value

pub attach-requires-clause-attaches : goal.attach-requires-clause-attaches
attach-requires-clause-attaches c = attaches_open c.args.slots.now c.args.work.now c.args.trail.now c.args.index c.args.slot c.lits_of-lits.result.now c.args.first c.in-Some.second c.requires.fresh c.lits_of-lits.ensures.value c.lits_of-lits.ensures.nogood.rises c.requires.first c.requires.untrue c.in-Some.ensures.some

pub take_unit-requires-clause-others : goal.take_unit-requires-clause-others
take_unit-requires-clause-others c = others_at c.args.trail.now c.args.slots.now c.args.slot c.args.first c.lits_of-lits.result.now c.lits_of-lits.ensures.value (subst (λ (m : List Lit). c.args.first < length m) (sym c.lits_of-lits.ensures.value) c.requires.first) c.in-None.ensures.none
