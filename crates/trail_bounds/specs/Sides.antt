-- The least of items, or of the opposite items.
use Rattle.std.specs.Prelude.{ℕ, Bool, true, false, ℤ, pos, neg_ℤ, ◌+ℤ◌, ◌≤ℤ◌, List, [], ◌∷◌}
use Rattle.linear_normal.specs.declared.constraint.Item.{Item}
use Rattle.linear_normal.specs.Bounds.{Bounds, least_times, greatest_times}
use Rattle.trail_bounds.specs.Items.{coefficient_of, low_in, high_in}

-- the coefficient, or its opposite on the other side
abbrev pub signed_by : Bool → ℤ → ℤ
signed_by true c = c
signed_by false c = neg_ℤ c

abbrev pub side_least : Bool → Bounds → Item → ℤ
side_least side b item = least_times (signed_by side (coefficient_of item)) (low_in b item) (high_in b item)

abbrev pub side_greatest : Bool → Bounds → Item → ℤ
side_greatest side b item = greatest_times (signed_by side (coefficient_of item)) (low_in b item) (high_in b item)

abbrev pub side_sum : Bool → Bounds → List Item → ℤ
side_sum side b [] = pos 0
side_sum side b (item ∷ items) = side_least side b item +ℤ side_sum side b items

-- the item's greatest value is within the slack
abbrev pub Rests : Bool → Bounds → ℕ → Item → Type 0
Rests side b slack item = side_greatest side b item ≤ℤ (side_least side b item +ℤ pos slack)
