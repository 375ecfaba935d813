use Rattle.std.proofs.Common.{◌≡◌, nat_le, vec_len}
use Rattle.std.specs.List.{filter}
use Rattle.trail.specs.inner.Kept.{IsTrail, entries_of}
use Rattle.trail.proofs.trail.Trail.undo_to.Given as goal

abbrev pub invariant-undo : goal.invariant-undo
invariant-undo l = record {
  trail : IsTrail l.self-inside.shape l.self-inside.level l.self-inside.slots.items l.self-inside.cells l.self-inside.orders.variables;
  shape : l.self-inside.shape ≡ l.fn.self.shape;
  orders : l.self-inside.orders ≡ l.fn.self.orders;
  kept : filter (λ e. nat_le e.level l.level) l.fn.self.entries ≡ filter (λ e. nat_le e.level l.level) (entries_of l.self-inside.slots.items);
}

abbrev pub decreases-undo : goal.decreases-undo
decreases-undo l = vec_len l.self-inside.slots
