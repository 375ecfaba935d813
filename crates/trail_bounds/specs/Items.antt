-- What an item counts, within which numbers, and which literals say so.
use Rattle.std.specs.Prelude.{ℕ, true, false, ℤ, pos}
use Rattle.symbols.specs.declared.ends.Ends.{Ends}
use Rattle.literals.specs.declared.lit.Lit.{Lit}
use Rattle.literals.specs.declared.lit.Lit.TheVariants.{Constraint, AtMost, AtLeast}
use Rattle.linear_normal.specs.declared.constraint.Item.{Item}
use Rattle.linear_normal.specs.declared.constraint.Item.TheVariants.{Value, Truth}
use Rattle.linear_normal.specs.Bounds.{Bounds}

-- the number of the variable or of the constraint that the item counts
abbrev pub counted_number : Item → ℕ
counted_number (Value x c) = x
counted_number (Truth n c) = n

abbrev pub coefficient_of : Item → ℤ
coefficient_of (Value x c) = c
coefficient_of (Truth n c) = c

-- from which to which number the item counts
abbrev pub low_in : Bounds → Item → ℤ
low_in b (Value x c) = b.low x
low_in b (Truth n c) = b.least n

abbrev pub high_in : Bounds → Item → ℤ
high_in b (Value x c) = b.high x
high_in b (Truth n c) = b.greatest n

-- and where no literal is given
abbrev pub low_end : Ends → Item → ℤ
low_end ends (Value x c) = ends.min
low_end ends (Truth n c) = pos 0

abbrev pub high_end : Ends → Item → ℤ
high_end ends (Value x c) = ends.max
high_end ends (Truth n c) = pos 1

-- the item counts at least, or at most, this number
abbrev pub at_least : Item → ℤ → Lit
at_least (Value x c) k = AtLeast x k
at_least (Truth n c) k = Constraint n true

abbrev pub at_most : Item → ℤ → Lit
at_most (Value x c) k = AtMost x k
at_most (Truth n c) k = Constraint n false
