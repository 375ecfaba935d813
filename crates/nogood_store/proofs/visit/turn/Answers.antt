use Rattle.std.proofs.Common.{◌<◌, length, false, rules, arith}
use Rattle.literals.specs.declared.lit.Lit.TheVariants.{Atom}
use Rattle.nogood_store.specs.inner.Watching.{lit_at}
use Rattle.nogood_store.proofs.Moving.{kept_within, nogood_named, shifts_of}
use Rattle.nogood_store.proofs.Working.{working_grown}
use Rattle.nogood_store.proofs.Ending.{none_map}
use Rattle.nogood_store.proofs.Visiting.{first_in, pair_is, read_among, read_names, others_read, skip_false, skip_closed}
use Rattle.nogood_store.proofs.visit.turn.Goals as goal

pub lits_of-lits-requires : goal.lits_of-lits-requires
lits_of-lits-requires c = omega (arith, c.requires.sound.slot, c.requires.working.pairs)

pub bounds-lits-pair : goal.bounds-lits-pair
bounds-lits-pair c = first_in c.args.slots.now c.args.watch.slot c.lits_of-lits.result.now c.index-pair.result.now c.args.work.now.pairs.items c.lits_of-lits.ensures.value c.requires.sound.first (pair_is c.args.work.now.pairs.items c.args.watch.slot c.index-pair.result.now c.requires.sound.slot c.index-pair.ensures)

pub offset_bounds-lits-pair : goal.offset_bounds-lits-pair
offset_bounds-lits-pair c =
    let within : c.index-pair.result.now.first < length c.lits_of-lits.result.now = first_in c.args.slots.now c.args.watch.slot c.lits_of-lits.result.now c.index-pair.result.now c.args.work.now.pairs.items c.lits_of-lits.ensures.value c.requires.sound.first (pair_is c.args.work.now.pairs.items c.args.watch.slot c.index-pair.result.now c.requires.sound.slot c.index-pair.ensures) in
    search rules

pub is_false-requires : goal.is_false-requires
is_false-requires c = read_names c.args.slots.now c.args.work.now c.args.trail.now c.args.watch.slot c.other_of-kept.result c.lits_of-lits.result.now c.requires.working (omega (arith, c.requires.sound.slot, c.requires.working.pairs)) c.lits_of-lits.ensures.value (kept_within c.args.slots.now c.args.work.now c.args.trail.now c.args.place c.args.index c.args.watch c.lits_of-lits.result.now c.index-pair.result.now c.same-is_first.result c.other_of-kept.result c.requires.working c.requires.index c.requires.value c.lits_of-lits.ensures.value (pair_is c.args.work.now.pairs.items c.args.watch.slot c.index-pair.result.now c.requires.sound.slot c.index-pair.ensures) c.other_of-kept.ensures)

pub returns-then-is_false-clause-done : goal.returns-then-is_false-clause-done
returns-then-is_false-clause-done c = skip_false c.args.slots.now c.args.work.now.lists.items c.args.trail.now c.args.place c.args.index c.args.lit c.args.watch (lit_at c.lits_of-lits.result.now c.other_of-kept.result) c.requires.index c.requires.value (read_among c.args.slots.now c.args.watch.slot c.other_of-kept.result c.lits_of-lits.result.now c.lits_of-lits.ensures.value (kept_within c.args.slots.now c.args.work.now c.args.trail.now c.args.place c.args.index c.args.watch c.lits_of-lits.result.now c.index-pair.result.now c.same-is_first.result c.other_of-kept.result c.requires.working c.requires.index c.requires.value c.lits_of-lits.ensures.value (pair_is c.args.work.now.pairs.items c.args.watch.slot c.index-pair.result.now c.requires.sound.slot c.index-pair.ensures) c.other_of-kept.ensures)) (c.is_false.ensures c.if-is_false.true) c.requires.done

pub untrue-requires : goal.untrue-requires
untrue-requires c = nogood_named c.args.slots.now c.args.work.now c.args.trail.now c.args.watch.slot c.lits_of-lits.result.now c.requires.working (omega (arith, c.requires.sound.slot, c.requires.working.pairs)) c.lits_of-lits.ensures.value

pub shift-requires-clause-shifts : goal.shift-requires-clause-shifts
shift-requires-clause-shifts c = shifts_of c.args.slots.now c.args.work.now c.args.trail.now c.args.place c.args.index c.args.watch c.lits_of-lits.result.now c.index-pair.result.now c.pair_with.result c.same-is_first.result c.other_of-kept.result c.in-Some.to c.requires.working c.requires.index c.requires.value c.lits_of-lits.ensures.value (pair_is c.args.work.now.pairs.items c.args.watch.slot c.index-pair.result.now c.requires.sound.slot c.index-pair.ensures) c.lits_of-lits.ensures.nogood.rises c.same-is_first.ensures c.other_of-kept.ensures c.pair_with.ensures c.in-Some.ensures.some.0 c.in-Some.ensures.some.1 (c.in-Some.ensures.some.2 (Atom 0 false)) c.requires.watch

pub close-requires-clause-others : goal.close-requires-clause-others
close-requires-clause-others c = others_read c.args.trail.now c.args.slots.now c.args.watch.slot c.other_of-kept.result c.lits_of-lits.result.now c.lits_of-lits.ensures.value (kept_within c.args.slots.now c.args.work.now c.args.trail.now c.args.place c.args.index c.args.watch c.lits_of-lits.result.now c.index-pair.result.now c.same-is_first.result c.other_of-kept.result c.requires.working c.requires.index c.requires.value c.lits_of-lits.ensures.value (pair_is c.args.work.now.pairs.items c.args.watch.slot c.index-pair.result.now c.requires.sound.slot c.index-pair.ensures) c.other_of-kept.ensures) c.in-None.ensures.none

pub returns-in_err-found-in-None-clause-working : goal.returns-in_err-found-in-None-clause-working
returns-in_err-found-in-None-clause-working c = working_grown c.args.slots.now c.args.work.now c.args.trail.now c.close.new.trail c.in_err-found-in-None.ensures.grows c.requires.working

pub returns-in_ok-found-in-None-clause-working : goal.returns-in_ok-found-in-None-clause-working
returns-in_ok-found-in-None-clause-working c = working_grown c.args.slots.now c.args.work.now c.args.trail.now c.close.new.trail c.in_ok-found-in-None.ensures.grows c.requires.working

pub returns-in_ok-found-in-None-clause-done : goal.returns-in_ok-found-in-None-clause-done
returns-in_ok-found-in-None-clause-done c = none_map c.in_ok-found-in-None.found c.in_ok-found-in-None.ensures.quiet c.in_ok-found-in-None.ensures.quiet
    (λ q r. skip_closed c.args.slots.now c.args.work.now.lists.items c.args.trail.now c.close.new.trail c.args.place c.args.index c.args.lit c.args.watch (lit_at c.lits_of-lits.result.now c.other_of-kept.result) c.in_ok-found-in-None.ensures.grows c.requires.index c.requires.value (read_among c.args.slots.now c.args.watch.slot c.other_of-kept.result c.lits_of-lits.result.now c.lits_of-lits.ensures.value (kept_within c.args.slots.now c.args.work.now c.args.trail.now c.args.place c.args.index c.args.watch c.lits_of-lits.result.now c.index-pair.result.now c.same-is_first.result c.other_of-kept.result c.requires.working c.requires.index c.requires.value c.lits_of-lits.ensures.value (pair_is c.args.work.now.pairs.items c.args.watch.slot c.index-pair.result.now c.requires.sound.slot c.index-pair.ensures) c.other_of-kept.ensures)) q c.requires.done)
