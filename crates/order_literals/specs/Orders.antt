-- The order literals that were made, in the order of making.
use Rattle.std.specs.Prelude.{◌≡◌, ℕ, suc, ◌+◌, ◌<◌, length, get_or, Bool, cond, ◌&&◌, ◌==◌, ℤ, ◌≤ℤ◌, ◌<ℤ◌, IsTrue, is_some, List, [], ◌∷◌, ◌++◌, Option, None, Some, MatchOption}
use Rattle.std.specs.Ordering.{int_eq}
use Rattle.order_literals.specs.declared.table.OrderLit.{OrderLit}
use Rattle.order_literals.specs.declared.row.Made.{Made}
use Rattle.order_literals.specs.inner.Rows.{row_of}

-- how many variables there are, numbered from 1, and the literals that were made
pub record OrderLits : Type 0 where
  pub variables : ℕ
  pub made : List OrderLit

-- whether it is the literal x <= k
abbrev pub is_order : ℕ → ℤ → OrderLit → Bool
is_order x k l = (l.variable == x) && int_eq l.number k

-- the place of the literal x <= k, where the list begins at this place
abbrev pub place_from : ℕ → List OrderLit → ℕ → ℤ → Option ℕ
place_from place [] x k = None
place_from place (l ∷ ls) x k = cond (is_order x k l) (Some place) (place_from (suc place) ls x k)

-- the place of the literal x <= k among those that were made, if it was
abbrev pub place_of : List OrderLit → ℕ → ℤ → Option ℕ
place_of made x k = place_from 0 made x k

-- whether the literal x <= k was made
abbrev pub is_made : List OrderLit → ℕ → ℤ → Bool
is_made made x k = is_some (place_of made x k)

-- the literals with x <= k among them: one more where it was not made
abbrev pub with_literal : OrderLits → ℕ → ℤ → OrderLits
with_literal t x k = cond (is_made t.made x k) t (record t { made = t.made ++ record { variable = x; number = k } ∷ [] })

-- the greatest made number of x that is less than k, or that there is none
abbrev pub IsNearestBelow : List OrderLit → ℕ → ℤ → Option ℤ → Type 0
IsNearestBelow made x k nearest =
    MatchOption nearest ((j : ℤ) → IsTrue (is_made made x j) → k ≤ℤ j)
    (λ n. IsTrue (is_made made x n) × (n <ℤ k) × ((j : ℤ) → IsTrue (is_made made x j) → j <ℤ k → j ≤ℤ n))

-- the least made number of x that is greater than k, or that there is none
abbrev pub IsNearestAbove : List OrderLit → ℕ → ℤ → Option ℤ → Type 0
IsNearestAbove made x k nearest =
    MatchOption nearest ((j : ℤ) → IsTrue (is_made made x j) → j ≤ℤ k)
    (λ n. IsTrue (is_made made x n) × (k <ℤ n) × ((j : ℤ) → IsTrue (is_made made x j) → k <ℤ j → n ≤ℤ j))

-- each row holds the literals of its variable, ascending. Only the table's own code reads this.
pub record IsTable (variables : ℕ) (made : List OrderLit) (rows : List (List Made)) : Type 0 where
  pub size : length rows ≡ variables + 1
  pub rows_of : (x : ℕ) → x < length rows → get_or rows x [] ≡ row_of x made
