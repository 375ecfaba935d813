-- What the propagator of the objective stands for: its sum has to be at most a number once there is one.
use Rattle.std.specs.Prelude.{Bool, true, false, ◌&&◌, ℤ, int_le, int_lt, List, map, Option, None, Some}
use Rattle.std.specs.List.{list_all, list_any}
use Rattle.literals.specs.declared.reason.Reason.{Reason}
use Rattle.linear_normal.specs.declared.constraint.Item.{Item}
use Rattle.linear_normal.specs.Bounds.{bounds_named, least_sum, greatest_sum}
use Rattle.numbering_laws.specs.Items.{counts_truth}
use Rattle.trail.specs.declared.shape.Shape.{Shape}
use Rattle.trail.specs.Assignment.{Assignment}
use Rattle.propagator_core.specs.Meaning.{Meaning}
use Rattle.propagator_core.specs.Quiet.{is_of_objective}
use Rattle.trail_bounds.specs.OnTrail.{is_of, is_item_of, bounds_on}
use Rattle.sum_propagator.specs.Sums.{touch_of, is_consistent}

-- the total is at most the number, if there is one
abbrev pub is_within : Option ℤ → ℤ → Bool
is_within None total = true
is_within (Some most) total = int_le total most

-- there is a number, and the total exceeds it
abbrev pub is_beyond : Option ℤ → ℤ → Bool
is_beyond None total = false
is_beyond (Some most) total = int_lt most total

-- the reason is a step of the objective, its literals are of the shape, and by the bounds that they name the sum exceeds the number
abbrev pub valid_objective : List Item → Option ℤ → Shape → Reason → Bool
valid_objective items most shape reason =
    list_all (is_of shape) reason.nogood && is_of_objective reason.step
    && is_beyond most (least_sum (bounds_named shape.ends reason.nogood) items)

-- the sum can be at most the number, whatever value an item takes within its bounds
abbrev pub rests_objective : List Item → Option ℤ → Assignment → Bool
rests_objective items None t = true
rests_objective items (Some most) t = is_consistent (Some true) (bounds_on t) items most

-- the objective, whose number is 0: the sum of the items is at most a number, if there is one
abbrev pub objective_meaning : List Item → Option ℤ → Meaning
objective_meaning items most = record {
  number = 0;
  fits = λ shape. list_all (is_item_of shape) items;
  valid = valid_objective items most;
  counts = λ n. list_any (counts_truth n) items;
  settled = λ t. is_within most (greatest_sum (bounds_on t) items);
  touches = map touch_of items;
  rests = rests_objective items most;
}
