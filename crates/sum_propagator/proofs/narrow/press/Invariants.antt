use Rattle.std.proofs.Common.{◌≡◌, ◌<◌, ℕ, get_or}
use Rattle.linear_normal.specs.declared.constraint.Item.{Item}
use Rattle.trail.specs.Growth.{Grows}
use Rattle.propagator_core.specs.Shown.{IsShown}
use Rattle.trail_bounds.specs.OnTrail.{bounds_on}
use Rattle.sum_propagator.specs.Kinds.{meaning_of}
use Rattle.trail_bounds.specs.Sides.{Rests}
use Rattle.sum_propagator.proofs.narrow.press.Given as goal

abbrev pub invariant-loop-at : goal.invariant-loop-at
invariant-loop-at l = record {
  grows : Grows (IsShown (meaning_of l.sum.kind l.sum.number l.sum.items l.sum.most).valid) l.fn.trail l.trail;
  rest : l.trail ≡ l.fn.trail → (k : ℕ) (d : Item) → k < l.at → Rests l.side (bounds_on l.fn.trail) l.slack (get_or l.sum.items k d);
}
