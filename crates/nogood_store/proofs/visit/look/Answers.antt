use Rattle.std.proofs.Common.{◌∙◌, List, length, rules, arith, subst, ap, sym, refl}
use Rattle.literals.specs.declared.places.Counts.{Counts}
use Rattle.literals.specs.Places.{place_of, places_of}
use Rattle.trail.proofs.GrowthLaws.{grows_none, grows_on, grows_true}
use Rattle.nogood_store.specs.Propagation.{IsForced}
use Rattle.nogood_store.specs.Kept.{held_of}
use Rattle.nogood_store.specs.declared.watch.Watch.{Watch}
use Rattle.nogood_store.specs.inner.Watching.{IsDone}
use Rattle.nogood_store.proofs.Moving.{counted_in}
use Rattle.nogood_store.proofs.Visiting.{row_is}
use Rattle.nogood_store.proofs.visit.look.Goals as goal

pub place-place-requires : goal.place-place-requires
place-place-requires c = counted_in c.args.slots.now c.args.work.now c.args.trail.now c.args.lit c.requires.working c.requires.within

pub back-init : goal.back-init
back-init c = record {
  working = c.requires.working;
  grows = grows_none (IsForced (held_of c.args.slots.now)) c.args.trail.now;
  kept = record { shape = refl; places = refl; low = refl; looked = refl; fresh = refl };
  lit = c.requires.lit;
  place = c.place-place.ensures.value;
  within = omega (arith, c.place-place.ensures.within, c.requires.working.lists);
  left = omega (arith, c.count-index.ensures, ap (λ (r : List Watch). length r) (row_is c.args.work.now.lists.items c.place-place.result c.index.result.now (omega (arith, c.place-place.ensures.within, c.requires.working.lists)) c.index.ensures));
  done = λ k d le lt imp. absurd (omega (arith, le, lt, c.count-index.ensures, ap (λ (r : List Watch). length r) (row_is c.args.work.now.lists.items c.place-place.result c.index.result.now (omega (arith, c.place-place.ensures.within, c.requires.working.lists)) c.index.ensures)));
}

pub visit-requires-clause-done : goal.visit-requires-clause-done
visit-requires-clause-done c = subst (IsDone c.args.slots.now c.back.work.lists.items c.back.trail c.place-place.result c.args.lit) (omega arith) c.back.invariant.done

pub returns-in_err-id-clause-grows : goal.returns-in_err-id-clause-grows
returns-in_err-id-clause-grows c = grows_on (IsForced (held_of c.args.slots.now)) c.args.trail.now c.back.trail c.visit.new.trail c.back.invariant.grows c.in_err-id.ensures.grows

pub returns-in-Some-clause-grows : goal.returns-in-Some-clause-grows
returns-in-Some-clause-grows c = grows_on (IsForced (held_of c.args.slots.now)) c.args.trail.now c.back.trail c.visit.new.trail c.back.invariant.grows c.in_ok-id.ensures.grows

pub back-preserved : goal.back-preserved
back-preserved c = record {
  working = c.in_ok-id.ensures.working;
  grows = grows_on (IsForced (held_of c.args.slots.now)) c.args.trail.now c.back.trail c.visit.new.trail c.back.invariant.grows c.in_ok-id.ensures.grows;
  kept = record {
    shape = c.in_ok-id.ensures.kept.shape ∙ c.back.invariant.kept.shape;
    places = c.in_ok-id.ensures.kept.places ∙ c.back.invariant.kept.places;
    low = c.in_ok-id.ensures.kept.low ∙ c.back.invariant.kept.low;
    looked = c.in_ok-id.ensures.kept.looked ∙ c.back.invariant.kept.looked;
    fresh = c.in_ok-id.ensures.kept.fresh ∙ c.back.invariant.kept.fresh;
  };
  lit = grows_true (IsForced (held_of c.args.slots.now)) c.back.trail c.visit.new.trail c.args.lit c.in_ok-id.ensures.grows c.back.invariant.lit;
  place = c.back.invariant.place ∙ ap (λ (k : Counts). place_of k c.args.lit) (sym c.in_ok-id.ensures.kept.places);
  within = omega (arith, c.back.invariant.within, c.back.invariant.working.lists, c.in_ok-id.ensures.working.lists, ap places_of c.in_ok-id.ensures.kept.places);
  left = c.in_ok-id.ensures.left;
  done = search rules;
}
