-- What a propagator of a sum stands for.
use Rattle.std.specs.Prelude.{◌≡◌, ◌+ℤ◌, ◌≤ℤ◌, pos, IfSome, ℕ, ◌==◌, Bool, true, false, ◌&&◌, ◌||◌, ℤ, ◌-ℤ◌, int_le, int_lt, List, [], ◌∷◌, map, Option, None, Some}
use Rattle.std.specs.List.{All, list_all, list_any}
use Rattle.symbols.specs.declared.ends.Ends.{Ends}
use Rattle.literals.specs.declared.lit.Lit.TheVariants as l
use Rattle.literals.specs.declared.reason.Step.{Step}
use Rattle.literals.specs.declared.reason.Step.TheVariants.{Sum}
use Rattle.literals.specs.declared.reason.Reason.{Reason}
use Rattle.linear_normal.specs.declared.constraint.Item.{Item}
use Rattle.linear_normal.specs.declared.constraint.Item.TheVariants.{Value, Truth}
use Rattle.linear_normal.specs.declared.constraint.Constraint.TheVariants as c
use Rattle.linear_normal.specs.Bounds.{Bounds, bounds_named, least_item, greatest_item, least_sum, greatest_sum}
use Rattle.linear_normal.specs.Steps.{is_one_of, is_sum}
use Rattle.numbering_laws.specs.Items.{counts_truth}
use Rattle.trail.specs.declared.shape.Shape.{Shape}
use Rattle.trail.specs.declared.entry.Entry.{Entry}
use Rattle.trail.specs.Assignment.{Assignment, lits_of, is_true_on, truth_on}
use Rattle.propagator_core.specs.declared.touch.Touch.{Touch}
use Rattle.propagator_core.specs.declared.touch.Touch.TheVariants as touch
use Rattle.propagator_core.specs.Meaning.{Meaning}
pub use Rattle.trail_bounds.specs.OnTrail.{is_of, is_item_of, bounds_on}
use Rattle.sum_propagator.specs.declared.sum.Totals.{Totals}

-- MEANING

-- the step is that of the sum of this number
abbrev pub is_step_of : ℕ → Step → Bool
is_step_of number (Sum n) = n == number
is_step_of number step = false

-- the shape has the constraint and all that the items count
abbrev pub fits_sum : ℕ → List Item → Shape → Bool
fits_sum number items shape = is_one_of shape.constraints number && list_all (is_item_of shape) items

-- the reason is a step of this sum, its literals are of the shape, and by the bounds that they name the sum is not what they say of it
abbrev pub valid_sum : ℕ → List Item → ℤ → Shape → Reason → Bool
valid_sum number items most shape reason =
    list_all (is_of shape) reason.nogood && is_step_of number reason.step
    && is_sum shape.ends reason.nogood number (Some (c.AtMost items most))

-- the constraint is true and the greatest sum is at most the number, or it is false and the least sum exceeds the number
abbrev pub settled_sum : ℕ → List Item → ℤ → Assignment → Bool
settled_sum number items most t =
    (is_true_on t (l.Constraint number true) && int_le (greatest_sum (bounds_on t) items) most)
    || (is_true_on t (l.Constraint number false) && int_lt most (least_sum (bounds_on t) items))

-- what the item counts
abbrev pub touch_of : Item → Touch
touch_of (Value x c) = touch.Bounds x
touch_of (Truth n c) = touch.Truth n

-- the sum's own truth, and what its items count
abbrev pub touches_of : ℕ → List Item → List Touch
touches_of number items = touch.Truth number ∷ map touch_of items

-- the item's greatest value with the least sum of the others is at most the number
abbrev pub is_below : Bounds → List Item → ℤ → Item → Bool
is_below bounds items most item = int_le ((least_sum bounds items -ℤ least_item bounds item) +ℤ greatest_item bounds item) most

-- the item's least value with the greatest sum of the others exceeds the number
abbrev pub is_above : Bounds → List Item → ℤ → Item → Bool
is_above bounds items most item = int_lt most ((greatest_sum bounds items -ℤ greatest_item bounds item) +ℤ least_item bounds item)

-- a true sum can be at most the number, a false one can exceed it, whatever value an item takes within its bounds; an open one can do both
abbrev pub is_consistent : Option Bool → Bounds → List Item → ℤ → Bool
is_consistent (Some true) bounds items most = int_le (least_sum bounds items) most && list_all (is_below bounds items most) items
is_consistent (Some false) bounds items most = int_lt most (greatest_sum bounds items) && list_all (is_above bounds items most) items
is_consistent None bounds items most = int_le (least_sum bounds items) most && int_lt most (greatest_sum bounds items)

-- by its truth on the trail the sum is consistent with the bounds there
abbrev pub rests_sum : ℕ → List Item → ℤ → Assignment → Bool
rests_sum number items most t = is_consistent (truth_on t (l.Constraint number true)) (bounds_on t) items most

-- the constraint of this number: the sum of the items is at most a number
abbrev pub sum_meaning : ℕ → List Item → ℤ → Meaning
sum_meaning number items most = record {
  number = number;
  fits = fits_sum number items;
  valid = valid_sum number items most;
  counts = λ n. list_any (counts_truth n) items;
  settled = settled_sum number items most;
  touches = touches_of number items;
  rests = rests_sum number items most;
}

-- STATE

-- what is kept of the entries at which it has looked: the least and the greatest sum, and nothing before the first
abbrev pub totals_after : List Item → Ends → List Entry → Option Totals
totals_after items ends [] = None
totals_after items ends (e ∷ es) = Some (record {
  least = least_sum (bounds_named ends (lits_of (e ∷ es))) items;
  greatest = greatest_sum (bounds_named ends (lits_of (e ∷ es))) items;
})

-- the item's greatest value is at most so much more than its least
abbrev pub IsWithin : ℕ → Bounds → Item → Type 0
IsWithin widest bounds item = greatest_item bounds item ≤ℤ (least_item bounds item +ℤ pos widest)

-- where the number is known, each item's values lie within it
abbrev pub AreWithin : Option ℕ → Bounds → List Item → Type 0
AreWithin widest bounds items = IfSome widest (λ w. All (IsWithin w bounds) items)

-- the totals are those after these entries, and the number, where it is known, holds after them
abbrev pub StandsAt : List Item → Option Totals → Option ℕ → Ends → List Entry → Type 0
StandsAt items totals widest ends entries = (totals ≡ totals_after items ends entries) × AreWithin widest (bounds_named ends (lits_of entries)) items
