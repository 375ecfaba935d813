use Rattle.std.proofs.Common.{refl, arith}
use Rattle.std.proofs.Common.{get_or}
use Rattle.nogood_store.proofs.Moving.{working_settled}
use Rattle.nogood_store.proofs.Visiting.{settled_done}
use Rattle.nogood_store.proofs.fresh.settle.Goals as goal

pub returns-then-level-eq0-clause-working : goal.returns-then-level-eq0-clause-working
returns-then-level-eq0-clause-working c = working_settled c.args.slots.now c.args.work.now _ c.args.trail.now c.args.index (get_or c.args.work.now.fresh.items c.args.index 0) c.take_out.new.fresh.items c.requires.working c.requires.index refl c.take_out.ensures (omega arith) (c.requires.done c.args.index (omega arith) c.requires.index) refl refl

pub returns-then-level-eq0-clause-done : goal.returns-then-level-eq0-clause-done
returns-then-level-eq0-clause-done c = settled_done c.args.slots.now c.args.work.now.fresh.items c.take_out.new.fresh.items c.args.trail.now c.args.index c.take_out.ensures c.requires.done
