use Rattle.std.proofs.Common.{List, [], nat_le, ap, subst, sym, ◌∙◌}
use Rattle.std.specs.List.{filter}
use Rattle.trail.specs.declared.entry.Slot.{Slot}
use Rattle.trail.specs.inner.Kept.{IsTrail, entries_of}
use Rattle.trail.proofs.KeptLaws.{last_place, trail_pop, trail_cut, filter_last, filter_all, follow_cut, undone}
use Rattle.trail.proofs.trail.Trail.undo_to.Goals as goal

pub take_back-requires : goal.take_back-requires
take_back-requires c =
    last_place c.undo.self-inside.shape c.undo.self-inside.level c.pop_above.new.slots.items c.undo.self-inside.cells c.undo.self-inside.orders.variables c.in-Some.slot
    (subst (λ (ts : List Slot). IsTrail c.undo.self-inside.shape c.undo.self-inside.level ts c.undo.self-inside.cells c.undo.self-inside.orders.variables) c.in-Some.ensures.some.0 c.undo.invariant.trail)

pub undo-preserved : goal.undo-preserved
undo-preserved c = record {
  trail = rw c.take_back.ensures
      (trail_pop c.undo.self-inside.shape c.undo.self-inside.level c.pop_above.new.slots.items c.undo.self-inside.cells c.undo.self-inside.orders.variables c.in-Some.slot
      (subst (λ (ts : List Slot). IsTrail c.undo.self-inside.shape c.undo.self-inside.level ts c.undo.self-inside.cells c.undo.self-inside.orders.variables) c.in-Some.ensures.some.0 c.undo.invariant.trail));
  shape = c.undo.invariant.shape;
  orders = c.undo.invariant.orders;
  kept = c.undo.invariant.kept
      ∙ ap (λ (ts : List Slot). filter (λ e. nat_le e.level c.args.level) (entries_of ts)) c.in-Some.ensures.some.0
      ∙ filter_last c.args.level c.pop_above.new.slots.items c.in-Some.slot c.in-Some.ensures.some.1;
}

pub invariant_of-self : goal.invariant_of-self
invariant_of-self c =
    rw c.in-None.ensures.none
    (trail_cut c.undo.self-inside.shape c.undo.self-inside.level c.args.level c.undo.self-inside.slots.items c.undo.self-inside.cells c.undo.self-inside.orders.variables c.in-None.ensures.last c.undo.invariant.trail)

pub returns : goal.returns
returns c =
    undone c.args.self.now c.undo.self-inside.shape c.args.level c.undo.self-inside.orders (entries_of c.pop_above.new.slots.items) c.undo.invariant.shape c.undo.invariant.orders
    (ap entries_of c.in-None.ensures.none
    ∙ sym (filter_all c.undo.self-inside.shape [] 0 c.args.level c.undo.self-inside.slots.items (follow_cut c.undo.self-inside.shape c.undo.self-inside.level c.args.level c.undo.self-inside.slots.items c.undo.invariant.trail.entries c.in-None.ensures.last))
    ∙ sym c.undo.invariant.kept)
