use Rattle.std.proofs.Common.{ℕ, ◌<◌, get_or}
use Rattle.linear_normal.specs.declared.constraint.Item.{Item}
use Rattle.sum_propagator.specs.Moves.{key_in}
use Rattle.sum_propagator.proofs.places.are_rising.Given as goal

abbrev pub invariant-loop-at : goal.invariant-loop-at
invariant-loop-at l = (i j : ℕ) (d : Item) → i < j → j < l.at → key_in (get_or l.items i d) < key_in (get_or l.items j d)
