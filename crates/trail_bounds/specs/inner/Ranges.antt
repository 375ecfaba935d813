-- The numbers that an item may count. Only the code of this crate reads this file.
use Rattle.std.specs.Prelude.{◌-◌, ◌^◌, Bool, true, false, ℤ, pos, neg_ℤ, ◌≤ℤ◌, Option, None, Some}
use Rattle.linear_normal.specs.declared.constraint.Item.{Item}
use Rattle.linear_normal.specs.declared.constraint.Item.TheVariants.{Value, Truth}

-- a number that the item may count
abbrev pub InRange : Item → ℤ → Type 0
InRange (Value x c) k = (neg_ℤ (pos (2 ^ 30 - 1)) ≤ℤ k) × (k ≤ℤ pos (2 ^ 30 - 1))
InRange (Truth n c) k = (pos 0 ≤ℤ k) × (k ≤ℤ pos 1)

-- what is known of a truth as the least and the greatest count
abbrev pub least_count : Option Bool → ℤ
least_count (Some true) = pos 1
least_count (Some false) = pos 0
least_count None = pos 0

abbrev pub greatest_count : Option Bool → ℤ
greatest_count (Some true) = pos 1
greatest_count (Some false) = pos 0
greatest_count None = pos 1
