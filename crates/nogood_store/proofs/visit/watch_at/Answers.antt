use Rattle.std.proofs.Common.{List, length, ap, arith}
use Rattle.nogood_store.specs.declared.watch.Watch.{Watch}
use Rattle.nogood_store.proofs.Moving.{watch_sound, other_named}
use Rattle.nogood_store.proofs.Visiting.{row_is, watch_is}
use Rattle.nogood_store.proofs.visit.watch_at.Goals as goal

pub at-requires : goal.at-requires
at-requires c = omega (arith, c.requires.index, ap (λ (r : List Watch). length r) (row_is c.args.work.now.lists.items c.args.place c.index.result.now c.requires.place c.index.ensures))

pub returns-clause-value : goal.returns-clause-value
returns-clause-value c = watch_is c.args.work.now.lists.items c.args.place c.args.index c.index.result.now c.at.result c.requires.place c.index.ensures c.at.ensures

pub returns-clause-sound : goal.returns-clause-sound
returns-clause-sound c = watch_sound c.args.slots.now c.args.work.now c.args.trail.now c.args.place c.args.index c.at.result c.requires.working c.requires.index (watch_is c.args.work.now.lists.items c.args.place c.args.index c.index.result.now c.at.result c.requires.place c.index.ensures c.at.ensures)

pub returns-clause-named : goal.returns-clause-named
returns-clause-named c = other_named c.args.slots.now c.args.work.now c.args.trail.now c.args.place c.args.index c.at.result c.requires.working c.requires.index (watch_is c.args.work.now.lists.items c.args.place c.args.index c.index.result.now c.at.result c.requires.place c.index.ensures c.at.ensures)
