use Rattle.std.proofs.Common.{◌≡◌, ℕ, List, length, refl, rules, sym, ◌∙◌, ap, subst, arith}
use Rattle.literals.specs.Places.{place_of}
use Rattle.nogood_store.specs.declared.watching.Watching.{Watching}
use Rattle.nogood_store.specs.Kept.{held_of}
use Rattle.nogood_store.specs.inner.Watching.{IsDone, AreDone}
use Rattle.nogood_store.proofs.Working.{working_lower, fresh_grown}
use Rattle.nogood_store.proofs.Ending.{entry_lit_true, entry_of_shape, entry_at, step_looked}
use Rattle.nogood_store.proofs.propagate.step.Goals as goal

pub look-requires-clause-working : goal.look-requires-clause-working
look-requires-clause-working c = working_lower c.args.slots.now c.args.work.now c.lower.new.work c.args.trail.now c.requires.working c.lower.ensures.falls c.lower.ensures.value

pub look-requires-clause-lit : goal.look-requires-clause-lit
look-requires-clause-lit c = entry_lit_true c.args.trail.now _ c.entry-entry.result.now c.entry-entry.ensures

pub look-requires-clause-within : goal.look-requires-clause-within
look-requires-clause-within c = (entry_of_shape c.args.trail.now _ c.entry-entry.result.now c.requires.working.assignment c.entry-entry.ensures).within

pub returns-clause-working : goal.returns-clause-working
returns-clause-working c =
    let seen : c.len.result ≡ length c.args.work.now.looked.items = omega arith in
    let done : IsDone c.args.slots.now c.look.new.work.lists.items c.look.new.trail (place_of c.look.new.work.places c.entry-entry.result.now.lit) c.entry-entry.result.now.lit 0 = search rules in
    step_looked c.args.slots.now c.args.work.now c.lower.new.work c.look.new.work _ c.args.trail.now c.look.new.trail c.entry-entry.result.now (entry_at c.args.trail.now.entries c.len.result (length c.args.work.now.looked.items) c.entry-entry.result.now seen c.entry-entry.ensures) c.lower.ensures.value c.lower.ensures.below c.in_ok-id.ensures.grows c.in_ok-id.ensures.working c.in_ok-id.ensures.kept done refl refl refl refl refl refl c.in_ok-push.ensures.items

pub returns-clause-done : goal.returns-clause-done
returns-clause-done c =
    fresh_grown c.args.slots.now c.look.new.work.fresh.items (held_of c.args.slots.now) c.args.trail.now c.look.new.trail 0 c.in_ok-id.ensures.grows
    (subst (λ (fs : List ℕ). AreDone c.args.slots.now fs c.args.trail.now 0) (sym (c.in_ok-id.ensures.kept.fresh ∙ ap (λ (k : Watching). k.fresh.items) c.lower.ensures.value)) c.requires.done)
