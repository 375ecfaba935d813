use Rattle.std.proofs.Common.{◌≡◌, ◌<◌, ◌∙◌, List, ℕ, length, get_or, ap, sym, subst, refl, arith}
use Rattle.literals.specs.declared.places.Counts.{Counts}
use Rattle.literals.specs.Places.{IsCounted}
use Rattle.nogood_store.specs.inner.Watching.{nogood_at, lit_at, IsTaken}
use Rattle.nogood_store.proofs.HeldLaws.{get_any}
use Rattle.nogood_store.proofs.Lists.{fresh_done}
use Rattle.nogood_store.proofs.Working.{working_same}
use Rattle.nogood_store.proofs.Moving.{counted_in, fresh_known, read_named, working_paired, attach_first, attach_second, attach_last}
use Rattle.nogood_store.proofs.fresh.attach.Goals as goal

pub lits_of-lits-requires : goal.lits_of-lits-requires
lits_of-lits-requires c = fresh_known c.args.slots.now c.args.work.now c.args.trail.now c.args.index c.index-slot.result.now c.requires.working c.requires.attaches.within (c.index-slot.ensures ∙ get_any c.args.work.now.fresh.items c.args.index c.index-slot.result.now 0 c.requires.attaches.within)

pub add_watch-requires-clause-counted : goal.add_watch-requires-clause-counted
add_watch-requires-clause-counted c =
    let is : c.index-slot.result.now ≡ get_or c.args.work.now.fresh.items c.args.index 0 = c.index-slot.ensures ∙ get_any c.args.work.now.fresh.items c.args.index c.index-slot.result.now 0 c.requires.attaches.within in
    let known : c.index-slot.result.now < length c.args.slots.now = fresh_known c.args.slots.now c.args.work.now c.args.trail.now c.args.index c.index-slot.result.now c.requires.working c.requires.attaches.within is in
    let read : c.lits_of-lits.result.now ≡ nogood_at c.args.slots.now c.index-slot.result.now = c.lits_of-lits.ensures.value in
    counted_in c.args.slots.now c.args.work.now c.args.trail.now (lit_at c.lits_of-lits.result.now c.args.pair.first) c.requires.working
    (read_named c.args.slots.now c.args.work.now c.args.trail.now c.index-slot.result.now c.args.pair.first c.lits_of-lits.result.now c.requires.working known read (subst (λ (k : ℕ). c.args.pair.first < length (nogood_at c.args.slots.now k)) (sym is) c.requires.attaches.first)).within

pub returns-in_err-add_watch-clause-working : goal.returns-in_err-add_watch-clause-working
returns-in_err-add_watch-clause-working c =
    let is : c.index-slot.result.now ≡ get_or c.args.work.now.fresh.items c.args.index 0 = c.index-slot.ensures ∙ get_any c.args.work.now.fresh.items c.args.index c.index-slot.result.now 0 c.requires.attaches.within in
    let known : c.index-slot.result.now < length c.args.slots.now = fresh_known c.args.slots.now c.args.work.now c.args.trail.now c.args.index c.index-slot.result.now c.requires.working c.requires.attaches.within is in
    let read : c.lits_of-lits.result.now ≡ nogood_at c.args.slots.now c.index-slot.result.now = c.lits_of-lits.ensures.value in
    working_paired c.args.slots.now c.args.work.now c.add_watch.new.work c.args.trail.now c.args.index c.args.pair c.index-slot.result.now c.requires.working c.requires.attaches is c.in_err-add_watch.ensures.kept.shape c.in_err-add_watch.ensures.kept.places c.in_err-add_watch.ensures.kept.low c.in_err-add_watch.ensures.kept.looked c.in_err-add_watch.ensures.kept.fresh c.in_err-add_watch.ensures.err c.in_err-add_watch.ensures.pairs

pub returns-in_err-add_watch-clause-left : goal.returns-in_err-add_watch-clause-left
returns-in_err-add_watch-clause-left c = omega (arith, c.requires.attaches.within, ap (λ (fs : List ℕ). length fs) c.in_err-add_watch.ensures.kept.fresh)

pub add_watch-requires-2-clause-counted : goal.add_watch-requires-2-clause-counted
add_watch-requires-2-clause-counted c =
    let is : c.index-slot.result.now ≡ get_or c.args.work.now.fresh.items c.args.index 0 = c.index-slot.ensures ∙ get_any c.args.work.now.fresh.items c.args.index c.index-slot.result.now 0 c.requires.attaches.within in
    let known : c.index-slot.result.now < length c.args.slots.now = fresh_known c.args.slots.now c.args.work.now c.args.trail.now c.args.index c.index-slot.result.now c.requires.working c.requires.attaches.within is in
    let read : c.lits_of-lits.result.now ≡ nogood_at c.args.slots.now c.index-slot.result.now = c.lits_of-lits.ensures.value in
    subst (λ (k : Counts). IsCounted k (lit_at c.lits_of-lits.result.now c.args.pair.second)) (sym c.in_ok-add_watch.ensures.kept.places)
    (counted_in c.args.slots.now c.args.work.now c.args.trail.now (lit_at c.lits_of-lits.result.now c.args.pair.second) c.requires.working
    (read_named c.args.slots.now c.args.work.now c.args.trail.now c.index-slot.result.now c.args.pair.second c.lits_of-lits.result.now c.requires.working known read (subst (λ (k : ℕ). c.args.pair.second < length (nogood_at c.args.slots.now k)) (sym is) c.requires.attaches.second)).within)

pub returns-in_err-add_watch-2-clause-working : goal.returns-in_err-add_watch-2-clause-working
returns-in_err-add_watch-2-clause-working c =
    let is : c.index-slot.result.now ≡ get_or c.args.work.now.fresh.items c.args.index 0 = c.index-slot.ensures ∙ get_any c.args.work.now.fresh.items c.args.index c.index-slot.result.now 0 c.requires.attaches.within in
    let known : c.index-slot.result.now < length c.args.slots.now = fresh_known c.args.slots.now c.args.work.now c.args.trail.now c.args.index c.index-slot.result.now c.requires.working c.requires.attaches.within is in
    let read : c.lits_of-lits.result.now ≡ nogood_at c.args.slots.now c.index-slot.result.now = c.lits_of-lits.ensures.value in
    working_same c.args.slots.now c.add_watch.new.work c.add_watch-2.new.work c.args.trail.now (attach_first c.args.slots.now c.args.work.now c.add_watch.new.work c.args.trail.now c.args.index c.args.pair c.index-slot.result.now c.lits_of-lits.result.now c.requires.working c.requires.attaches is read c.in_ok-add_watch.ensures.kept.shape c.in_ok-add_watch.ensures.kept.places c.in_ok-add_watch.ensures.kept.low c.in_ok-add_watch.ensures.kept.looked c.in_ok-add_watch.ensures.kept.fresh c.in_ok-add_watch.ensures.pairs c.in_ok-add_watch.ensures.ok) c.in_err-add_watch-2.ensures.kept c.in_err-add_watch-2.ensures.err c.in_err-add_watch-2.ensures.pairs

pub returns-in_err-add_watch-2-clause-left : goal.returns-in_err-add_watch-2-clause-left
returns-in_err-add_watch-2-clause-left c = omega (arith, c.requires.attaches.within, ap (λ (fs : List ℕ). length fs) c.in_ok-add_watch.ensures.kept.fresh, ap (λ (fs : List ℕ). length fs) c.in_err-add_watch-2.ensures.kept.fresh)

pub returns-clause-working : goal.returns-clause-working
returns-clause-working c =
    let is : c.index-slot.result.now ≡ get_or c.args.work.now.fresh.items c.args.index 0 = c.index-slot.ensures ∙ get_any c.args.work.now.fresh.items c.args.index c.index-slot.result.now 0 c.requires.attaches.within in
    let known : c.index-slot.result.now < length c.args.slots.now = fresh_known c.args.slots.now c.args.work.now c.args.trail.now c.args.index c.index-slot.result.now c.requires.working c.requires.attaches.within is in
    let read : c.lits_of-lits.result.now ≡ nogood_at c.args.slots.now c.index-slot.result.now = c.lits_of-lits.ensures.value in
    attach_last c.args.slots.now c.args.work.now c.add_watch.new.work c.add_watch-2.new.work _ c.args.trail.now c.args.index c.args.pair c.index-slot.result.now c.take_out.new.fresh.items c.lits_of-lits.result.now c.requires.working c.requires.attaches is read (attach_second c.args.slots.now c.args.work.now c.add_watch.new.work c.add_watch-2.new.work c.args.trail.now c.args.index c.args.pair c.index-slot.result.now c.lits_of-lits.result.now c.requires.working c.requires.attaches is read (attach_first c.args.slots.now c.args.work.now c.add_watch.new.work c.args.trail.now c.args.index c.args.pair c.index-slot.result.now c.lits_of-lits.result.now c.requires.working c.requires.attaches is read c.in_ok-add_watch.ensures.kept.shape c.in_ok-add_watch.ensures.kept.places c.in_ok-add_watch.ensures.kept.low c.in_ok-add_watch.ensures.kept.looked c.in_ok-add_watch.ensures.kept.fresh c.in_ok-add_watch.ensures.pairs c.in_ok-add_watch.ensures.ok) c.in_ok-add_watch.ensures.pairs c.in_ok-add_watch-2.ensures.kept c.in_ok-add_watch-2.ensures.pairs c.in_ok-add_watch-2.ensures.ok) c.in_ok-add_watch.ensures.kept.places c.in_ok-add_watch.ensures.kept.fresh c.in_ok-add_watch.ensures.pairs c.in_ok-add_watch.ensures.ok c.in_ok-add_watch-2.ensures.kept c.in_ok-add_watch-2.ensures.pairs c.in_ok-add_watch-2.ensures.ok
    c.take_out.ensures
    refl refl refl refl refl refl refl

pub returns-clause-left : goal.returns-clause-left
returns-clause-left c = omega (arith, c.requires.attaches.within, c.take_out.ensures.count, ap (λ (fs : List ℕ). length fs) c.in_ok-add_watch.ensures.kept.fresh, ap (λ (fs : List ℕ). length fs) c.in_ok-add_watch-2.ensures.kept.fresh)

pub returns-clause-done : goal.returns-clause-done
returns-clause-done c = λ d. fresh_done c.args.slots.now c.args.work.now.fresh.items c.take_out.new.fresh.items c.args.trail.now c.args.index
    (subst (λ (fs : List ℕ). IsTaken fs c.take_out.new.fresh.items c.args.index) (c.in_ok-add_watch-2.ensures.kept.fresh ∙ c.in_ok-add_watch.ensures.kept.fresh)
    c.take_out.ensures)
    d
