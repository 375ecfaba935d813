use Rattle.std.proofs.Common.{◌≤◌, List, length, set, ap, sym, subst, arith}
use Rattle.nogood_store.specs.declared.watch.Watch.{Watch}
use Rattle.nogood_store.specs.declared.watching.Pair.{Pair}
use Rattle.nogood_store.specs.inner.Watching.{list_at, with_watch, IsTaken, IsDone}
use Rattle.nogood_store.proofs.Working.{working_same}
use Rattle.nogood_store.proofs.Moving.{counted_in, new_named, working_shifted, shifted_left, shifted_done, shifted_taken}
use Rattle.nogood_store.proofs.visit.shift.Goals as goal

pub add_watch-requires-clause-counted : goal.add_watch-requires-clause-counted
add_watch-requires-clause-counted c =
    counted_in c.args.slots.now c.args.work.now c.args.trail.now c.args.watch.lit c.requires.working
    (new_named c.args.slots.now c.args.work.now c.args.trail.now c.args.place c.args.index c.args.pair c.args.watch c.requires.working c.requires.shifts).within

pub returns-in_err-add_watch-clause-working : goal.returns-in_err-add_watch-clause-working
returns-in_err-add_watch-clause-working c =
    working_same c.args.slots.now c.args.work.now c.add_watch.new.work c.args.trail.now c.requires.working c.in_err-add_watch.ensures.kept c.in_err-add_watch.ensures.err c.in_err-add_watch.ensures.pairs

pub returns-in_err-add_watch-clause-left : goal.returns-in_err-add_watch-clause-left
returns-in_err-add_watch-clause-left c = omega (arith, c.requires.shifts.within, ap (λ (ls : List (List Watch)). length (list_at ls c.args.place)) c.in_err-add_watch.ensures.err)

pub returns-clause-working : goal.returns-clause-working
returns-clause-working c =
    let taken : IsTaken (list_at (with_watch c.args.work.now.places c.args.work.now.lists.items c.args.watch) c.args.place) c.take_out.new.self c.args.index = shifted_taken c.args.work.now.places c.args.work.now.lists.items c.add_watch.new.work.lists.items c.args.watch c.args.place c.args.index c.index_mut-list.result.now c.take_out.new.self c.in_ok-add_watch.ensures.ok c.requires.place c.index_mut-list.ensures.value c.take_out.ensures.taken in
    working_shifted c.args.slots.now c.args.work.now _ c.args.trail.now c.args.place c.args.index c.args.pair c.args.watch c.take_out.new.self c.requires.working c.requires.shifts c.requires.place taken
    c.in_ok-add_watch.ensures.kept.shape c.in_ok-add_watch.ensures.kept.places c.in_ok-add_watch.ensures.kept.low c.in_ok-add_watch.ensures.kept.looked c.in_ok-add_watch.ensures.kept.fresh
    (ap (λ (ps : List Pair). set ps c.args.watch.slot c.args.pair) c.in_ok-add_watch.ensures.pairs)
    (ap (λ (ls : List (List Watch)). set ls c.args.place c.take_out.new.self) c.in_ok-add_watch.ensures.ok)

pub returns-clause-left : goal.returns-clause-left
returns-clause-left c =
    let taken : IsTaken (list_at (with_watch c.args.work.now.places c.args.work.now.lists.items c.args.watch) c.args.place) c.take_out.new.self c.args.index = shifted_taken c.args.work.now.places c.args.work.now.lists.items c.add_watch.new.work.lists.items c.args.watch c.args.place c.args.index c.index_mut-list.result.now c.take_out.new.self c.in_ok-add_watch.ensures.ok c.requires.place c.index_mut-list.ensures.value c.take_out.ensures.taken in
    subst (λ (ls : List (List Watch)). c.args.index ≤ length (list_at ls c.args.place)) (sym (ap (λ (ls : List (List Watch)). set ls c.args.place c.take_out.new.self) c.in_ok-add_watch.ensures.ok))
    (shifted_left c.args.slots.now c.args.work.now c.args.trail.now c.args.place c.args.index c.args.pair c.args.watch c.take_out.new.self c.requires.working c.requires.shifts c.requires.place taken)

pub returns-clause-done : goal.returns-clause-done
returns-clause-done c =
    let taken : IsTaken (list_at (with_watch c.args.work.now.places c.args.work.now.lists.items c.args.watch) c.args.place) c.take_out.new.self c.args.index = shifted_taken c.args.work.now.places c.args.work.now.lists.items c.add_watch.new.work.lists.items c.args.watch c.args.place c.args.index c.index_mut-list.result.now c.take_out.new.self c.in_ok-add_watch.ensures.ok c.requires.place c.index_mut-list.ensures.value c.take_out.ensures.taken in
    λ lit yes_ d. subst (λ (ls : List (List Watch)). IsDone c.args.slots.now ls c.args.trail.now c.args.place lit c.args.index) (sym (ap (λ (ls : List (List Watch)). set ls c.args.place c.take_out.new.self) c.in_ok-add_watch.ensures.ok))
    (shifted_done c.args.slots.now c.args.work.now c.args.trail.now c.args.place c.args.index c.args.pair c.args.watch c.take_out.new.self lit c.requires.working c.requires.shifts c.requires.place taken yes_ d)
