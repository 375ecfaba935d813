use Rattle.nogood_store.proofs.Moving.{fresh_known}
use Rattle.nogood_store.proofs.Visiting.{fresh_is}
use Rattle.nogood_store.proofs.fresh.fresh_at.Goals as goal

pub returns : goal.returns
returns c = record {
  within = c.requires.index;
  is = fresh_is c.args.work.now.fresh.items c.args.index c.index.result.now c.requires.index c.index.ensures;
  known = fresh_known c.args.slots.now c.args.work.now c.args.trail.now c.args.index c.index.result.now c.requires.working c.requires.index (fresh_is c.args.work.now.fresh.items c.args.index c.index.result.now c.requires.index c.index.ensures);
}
