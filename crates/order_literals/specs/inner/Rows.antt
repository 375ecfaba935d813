-- The literals of one variable, ascending by number. Only the table's own code reads this file.
use Rattle.std.specs.Prelude.{ℕ, suc, cond, ◌==◌, ℤ, int_lt, IsTrue, List, [], ◌∷◌, Option, None, Some}
use Rattle.std.specs.List.{AllByRecursion}
use Rattle.std.specs.Ordering.{int_eq}
use Rattle.order_literals.specs.declared.table.OrderLit.{OrderLit}
use Rattle.order_literals.specs.declared.row.Made.{Made}

-- the numbers strictly rise
abbrev pub Ascends : List Made → Type 0
Ascends [] = Unit {0}
Ascends (m ∷ ms) = AllByRecursion (λ n. IsTrue (int_lt m.number n.number)) ms × Ascends ms

-- how many stand before the first that is not less than the number
abbrev pub place_in : List Made → ℤ → ℕ
place_in [] k = 0
place_in (m ∷ ms) k = cond (int_lt m.number k) (suc (place_in ms k)) 0

-- the place in the table of the literal with this number
abbrev pub found : ℤ → List Made → Option ℕ
found k [] = None
found k (m ∷ ms) = cond (int_eq m.number k) (Some m.place) (found k ms)

-- the last number, or this one where there is none
abbrev pub last_below : ℤ → ℤ → List Made → ℤ
last_below k best [] = best
last_below k best (m ∷ ms) = cond (int_lt m.number k) (last_below k m.number ms) best

-- the greatest number below k
abbrev pub below_in : ℤ → List Made → Option ℤ
below_in k [] = None
below_in k (m ∷ ms) = cond (int_lt m.number k) (Some (last_below k m.number ms)) None

-- the least number above k
abbrev pub above_in : ℤ → List Made → Option ℤ
above_in k [] = None
above_in k (m ∷ ms) = cond (int_lt k m.number) (Some m.number) (above_in k ms)

-- the row with one more literal, unless its number is there
abbrev pub placed : ℤ → ℕ → List Made → List Made
placed k place [] = record { number = k; place = place } ∷ []
placed k place (m ∷ ms) =
    cond (int_lt m.number k) (m ∷ placed k place ms) (cond (int_eq m.number k) (m ∷ ms) (record { number = k; place = place } ∷ m ∷ ms))

-- the row with the literals of x among these, the first of them at this place
abbrev pub rowed : ℕ → ℕ → List OrderLit → List Made → List Made
rowed x place [] row = row
rowed x place (l ∷ ls) row = rowed x (suc place) ls (cond (l.variable == x) (placed l.number place row) row)

-- the row of the literals of x
abbrev pub row_of : ℕ → List OrderLit → List Made
row_of x made = rowed x 0 made []
