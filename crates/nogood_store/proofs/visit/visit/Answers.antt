use Rattle.std.proofs.Common.{sym}
use Rattle.trail.specs.Assignment.{lits_of}
use Rattle.trail.proofs.ImpliedLaws.{implied_trans}
use Rattle.nogood_store.proofs.Visiting.{skip_false}
use Rattle.nogood_store.proofs.visit.visit.Goals as goal

pub returns-then-is_false-clause-done : goal.returns-then-is_false-clause-done
returns-then-is_false-clause-done c = skip_false c.args.slots.now c.args.work.now.lists.items c.args.trail.now c.args.place c.args.index c.args.lit c.watch_at-watch.result c.watch_at-watch.result.other c.requires.index c.watch_at-watch.ensures.value c.watch_at-watch.ensures.sound.other (c.is_false.ensures c.if-is_false.true) c.requires.done

pub turn-requires-clause-watch : goal.turn-requires-clause-watch
turn-requires-clause-watch c = implied_trans c.args.trail.now.shape.ends (lits_of c.args.trail.now.entries) c.args.lit c.watch_at-watch.result.lit (sym c.if-not-implies.ensures.value) c.requires.lit
