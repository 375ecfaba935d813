-- The bounds that a list of literals names, be it a line's or a trail's, and the least and greatest sums under bounds.
use Rattle.std.specs.Prelude.{ℕ, ◌==◌, true, false, if◌then◌else◌, ℤ, pos, negsuc, ◌+ℤ◌, ◌*ℤ◌, List, [], ◌∷◌}
use Rattle.std.specs.List.{fold}
use Rattle.symbols.specs.declared.ends.Ends.{Ends}
use Rattle.literals.specs.declared.lit.Lit.{Lit}
use Rattle.literals.specs.declared.lit.Lit.TheVariants.{Constraint}
pub use Rattle.literals.specs.Bounds.{lower_after as raised, upper_after as lowered, lower_of, upper_of}
use Rattle.ground_model.specs.declared.linear.Linear.{Linear}
use Rattle.linear_normal.specs.declared.constraint.Item.{Item}
use Rattle.linear_normal.specs.declared.constraint.Item.TheVariants.{Value, Truth}

-- the least and the greatest value of each variable, and the least and the greatest count of each constraint
pub record Bounds : Type 0 where
  pub low : ℕ → ℤ
  pub high : ℕ → ℤ
  pub least : ℕ → ℤ
  pub greatest : ℕ → ℤ

-- constraint c counts at least 1 after a literal that says that it is true
abbrev pub counted : ℕ → ℤ → Lit → ℤ
counted c count (Constraint d true) = (if d == c then pos 1 else count)
counted c count lit = count

-- constraint c counts at most 0 after a literal that says that it is false
abbrev pub discounted : ℕ → ℤ → Lit → ℤ
discounted c count (Constraint d false) = (if d == c then pos 0 else count)
discounted c count lit = count

-- the bounds that literals name: from the ends on, each variable's greatest lower and least upper bound; a constraint counts from 0 to 1
abbrev pub bounds_named : Ends → List Lit → Bounds
bounds_named ends lits = record {
  low = λ x. lower_of ends lits x;
  high = λ x. upper_of ends lits x;
  least = λ c. fold (counted c) (pos 0) lits;
  greatest = λ c. fold (discounted c) (pos 1) lits;
}

-- the least of a coefficient times a number from low to high
abbrev pub least_times : ℤ → ℤ → ℤ → ℤ
least_times (pos n) low high = pos n *ℤ low
least_times (negsuc n) low high = negsuc n *ℤ high

-- the greatest of a coefficient times a number from low to high
abbrev pub greatest_times : ℤ → ℤ → ℤ → ℤ
greatest_times (pos n) low high = pos n *ℤ high
greatest_times (negsuc n) low high = negsuc n *ℤ low

-- the least of an item
abbrev pub least_item : Bounds → Item → ℤ
least_item bounds (Value x c) = least_times c (bounds.low x) (bounds.high x)
least_item bounds (Truth n c) = least_times c (bounds.least n) (bounds.greatest n)

-- the greatest of an item
abbrev pub greatest_item : Bounds → Item → ℤ
greatest_item bounds (Value x c) = greatest_times c (bounds.low x) (bounds.high x)
greatest_item bounds (Truth n c) = greatest_times c (bounds.least n) (bounds.greatest n)

-- the least sum of items
abbrev pub least_sum : Bounds → List Item → ℤ
least_sum bounds [] = pos 0
least_sum bounds (item ∷ items) = least_item bounds item +ℤ least_sum bounds items

-- the greatest sum of items
abbrev pub greatest_sum : Bounds → List Item → ℤ
greatest_sum bounds [] = pos 0
greatest_sum bounds (item ∷ items) = greatest_item bounds item +ℤ greatest_sum bounds items

-- the least sum of pairs
abbrev pub least_pairs : Bounds → List (ℕ × ℤ) → ℤ
least_pairs bounds [] = pos 0
least_pairs bounds (pair ∷ pairs) = least_times pair.1 (bounds.low pair.0) (bounds.high pair.0) +ℤ least_pairs bounds pairs

-- the greatest sum of pairs
abbrev pub greatest_pairs : Bounds → List (ℕ × ℤ) → ℤ
greatest_pairs bounds [] = pos 0
greatest_pairs bounds (pair ∷ pairs) = greatest_times pair.1 (bounds.low pair.0) (bounds.high pair.0) +ℤ greatest_pairs bounds pairs

-- the least value of a linear term
abbrev pub least_value : Bounds → Linear → ℤ
least_value bounds linear = least_pairs bounds linear.pairs +ℤ linear.constant

-- the greatest value of a linear term
abbrev pub greatest_value : Bounds → Linear → ℤ
greatest_value bounds linear = greatest_pairs bounds linear.pairs +ℤ linear.constant
