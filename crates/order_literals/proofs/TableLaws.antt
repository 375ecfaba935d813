-- The rows of a table hold what was made.
use Rattle.std.proofs.Common.{◌≡◌, ℕ, suc, ◌+◌, ◌<◌, ◌==◌, Bool, true, false, cond, ◌&&◌, List, [], ◌∷◌, ◌++◌, length, get_or, set, Option, None, Some, IsTrue, refl, sym, ◌∙◌, ap, subst, arith, FitsSigned, w32, to_z, of_z, ◌≤◌, ℤ, ◌≤ℤ◌, ◌<ℤ◌}
use Rattle.std.specs.Prelude.{int_lt, is_some, replicate, MatchOption}
use Rattle.std.specs.Ordering.{int_eq}
use Rattle.std.proofs.lemmas.List.{length-set, length-replicate, get_or-replicate, get_or_default}
use Rattle.std.proofs.lemmas.Grind.{elements}
use Rattle.std.proofs.lemmas.Bool.Decides.{nat_tests}
use Rattle.std.proofs.lemmas.Int.{ints, to_z-of_z}
use Rattle.order_literals.specs.declared.row.Made.{Made}
use Rattle.order_literals.specs.declared.table.OrderLit.{OrderLit}
use Rattle.order_literals.specs.inner.Rows.{Ascends, found, last_below, below_in, above_in, placed, rowed, row_of}
use Rattle.order_literals.specs.Orders.{OrderLits, is_order, place_from, place_of, with_literal, IsNearestBelow, IsNearestAbove, IsTable}
use Rattle.order_literals.proofs.RowLaws.{Above, first_some, first_some-none, found-placed, ascends_placed}

ascends_rowed : (x place : ℕ) (ls : List OrderLit) (row : List Made) → Ascends row → Ascends (rowed x place ls row)
ascends_rowed x place [] row a = a
ascends_rowed x place (l ∷ ls) row a = ascends_rowed x (suc place) ls (cond (l.variable == x) (placed l.number place row) row) (step (l.variable == x))
  where
    step : (b : Bool) → Ascends (cond b (placed l.number place row) row)
    step true = ascends_placed row l.number place a
    step false = a

pub ascends_row : (x : ℕ) (made : List OrderLit) → Ascends (row_of x made)
ascends_row x made = ascends_rowed x 0 made [] tt

one_more : (f : Option ℕ) (here : Bool) (place : ℕ) (rest : Option ℕ) → first_some (first_some f (cond here (Some place) None)) rest ≡ first_some f (cond here (Some place) rest)
one_more None true place rest = refl
one_more None false place rest = refl
one_more (Some n) here place rest = refl

found_rowed : (x place : ℕ) (ls : List OrderLit) (row : List Made) (k : ℤ) → Ascends row → found k (rowed x place ls row) ≡ first_some (found k row) (place_from place ls x k)
found_rowed x place [] row k a = sym (first_some-none (found k row))
found_rowed x place (l ∷ ls) row k a = step (l.variable == x) (found_rowed x (suc place) ls (placed l.number place row) k (ascends_placed row l.number place a)) (found_rowed x (suc place) ls row k a)
  where
    step : (b : Bool) → found k (rowed x (suc place) ls (placed l.number place row)) ≡ first_some (found k (placed l.number place row)) (place_from (suc place) ls x k) → found k (rowed x (suc place) ls row) ≡ first_some (found k row) (place_from (suc place) ls x k) → found k (rowed x (suc place) ls (cond b (placed l.number place row) row)) ≡ first_some (found k row) (cond (b && int_eq l.number k) (Some place) (place_from (suc place) ls x k))
    step true put kept = put ∙ ap (λ o. first_some o (place_from (suc place) ls x k)) (found-placed row k l.number place a) ∙ one_more (found k row) (int_eq l.number k) place (place_from (suc place) ls x k)
    step false put kept = kept

pub found-row : (x : ℕ) (made : List OrderLit) (k : ℤ) → found k (row_of x made) ≡ place_of made x k
found-row x made k = found_rowed x 0 made [] k tt

rowed-push : (x place : ℕ) (ls : List OrderLit) (row : List Made) (l : OrderLit) → rowed x place (ls ++ l ∷ []) row ≡ cond (l.variable == x) (placed l.number (place + length ls) (rowed x place ls row)) (rowed x place ls row)
rowed-push x place [] row l = let e : place ≡ place + 0 = omega arith in ap (λ n. cond (l.variable == x) (placed l.number n row) row) e
rowed-push x place (m ∷ ls) row l =
    let more : List Made = cond (m.variable == x) (placed m.number place row) row in
    let e : suc place + length ls ≡ place + suc (length ls) = omega arith in
    rowed-push x (suc place) ls (cond (m.variable == x) (placed m.number place row) row) l
    ∙ ap (λ n. cond (l.variable == x) (placed l.number n (rowed x (suc place) ls (cond (m.variable == x) (placed m.number place row) row))) (rowed x (suc place) ls (cond (m.variable == x) (placed m.number place row) row))) e

pub row-push : (x : ℕ) (made : List OrderLit) (l : OrderLit) → row_of x (made ++ l ∷ []) ≡ cond (l.variable == x) (placed l.number (length made) (row_of x made)) (row_of x made)
row-push x made l = let e : 0 + length made ≡ length made = omega arith in rowed-push x 0 made [] l ∙ ap (λ n. cond (l.variable == x) (placed l.number n (row_of x made)) (row_of x made)) e

place_from-push : (place : ℕ) (ls : List OrderLit) (l : OrderLit) (x : ℕ) (k : ℤ) → place_from place (ls ++ l ∷ []) x k ≡ first_some (place_from place ls x k) (cond (is_order x k l) (Some (place + length ls)) None)
place_from-push place [] l x k = let e : place ≡ place + 0 = omega arith in ap (λ n. cond (is_order x k l) (Some n) None) e
place_from-push place (m ∷ ls) l x k = step (is_order x k m) (place_from-push (suc place) ls l x k)
  where
    step : (b : Bool) → place_from (suc place) (ls ++ l ∷ []) x k ≡ first_some (place_from (suc place) ls x k) (cond (is_order x k l) (Some (suc place + length ls)) None) → cond b (Some place) (place_from (suc place) (ls ++ l ∷ []) x k) ≡ first_some (cond b (Some place) (place_from (suc place) ls x k)) (cond (is_order x k l) (Some (place + suc (length ls))) None)
    step true h = refl
    step false h = let e : suc place + length ls ≡ place + suc (length ls) = omega arith in h ∙ ap (λ n. first_some (place_from (suc place) ls x k) (cond (is_order x k l) (Some n) None)) e

-- a table as its clauses see it
abbrev pub view_of : ℕ → List OrderLit → OrderLits
view_of variables made = record { variables = variables; made = made }

-- the place of a literal that is made now
pub place-made : (made : List OrderLit) (x : ℕ) (k : ℤ) → place_of made x k ≡ None → place_of (made ++ record { variable = x; number = k } ∷ []) x k ≡ Some (length made)
place-made made x k h =
    let here : is_order x k (record { variable = x; number = k }) ≡ true = grind (arith, nat_tests, ints) in
    let e : 0 + length made ≡ length made = omega arith in
    place_from-push 0 made (record { variable = x; number = k }) x k ∙ rw (h, here, e) refl

pub with-made : (t : OrderLits) (x : ℕ) (k : ℤ) (place : ℕ) → place_of t.made x k ≡ Some place → with_literal t x k ≡ t
with-made t x k place h = rw h refl

pub with-new : (t : OrderLits) (x : ℕ) (k : ℤ) → place_of t.made x k ≡ None → with_literal t x k ≡ record t { made = t.made ++ record { variable = x; number = k } ∷ [] }
with-new t x k h = rw h refl

pub table_new : (variables : ℕ) → IsTable variables [] (replicate (variables + 1) [])
table_new variables = record {
  size = length-replicate (variables + 1) [];
  rows_of = λ x h. get_or-replicate (variables + 1) x [] [] (let e : length (replicate (variables + 1) (none_made tt)) ≡ variables + 1 = length-replicate (variables + 1) (none_made tt) in omega arith);
}
  where
    none_made : Unit {0} → List Made
    none_made u = []

row_after : (x : ℕ) (rows : List (List Made)) (made : List OrderLit) (l : OrderLit) → ((y : ℕ) → y < length rows → get_or rows y [] ≡ row_of y made) → l.variable < length rows → (b : Bool) → (l.variable == x) ≡ b → x < length rows → get_or (set rows l.variable (placed l.number (length made) (get_or rows l.variable []))) x [] ≡ cond b (placed l.number (length made) (row_of x made)) (row_of x made)
row_after x rows made l h in_rows true e lt =
    let same : l.variable ≡ x = grind (arith, nat_tests) in
    let here : get_or rows l.variable [] ≡ row_of x made = h l.variable in_rows ∙ ap (λ y. row_of y made) same in
    let written : get_or (set rows l.variable (placed l.number (length made) (get_or rows l.variable []))) x [] ≡ placed l.number (length made) (get_or rows l.variable []) = grind (arith, elements) in
    written ∙ ap (placed l.number (length made)) here
row_after x rows made l h in_rows false e lt =
    let kept : get_or (set rows l.variable (placed l.number (length made) (get_or rows l.variable []))) x [] ≡ get_or rows x [] = grind (arith, nat_tests, elements) in
    kept ∙ h x lt

pub table_push : (variables : ℕ) (made : List OrderLit) (rows : List (List Made)) (l : OrderLit) → l.variable < length rows → IsTable variables made rows → IsTable variables (made ++ l ∷ []) (set rows l.variable (placed l.number (length made) (get_or rows l.variable [])))
table_push variables made rows l in_rows h = record {
  size = length-set rows l.variable (placed l.number (length made) (get_or rows l.variable [])) ∙ h.size;
  rows_of = λ x lt.
      row_after x rows made l h.rows_of in_rows (l.variable == x) refl (let e : length (set rows l.variable (placed l.number (length made) (get_or rows l.variable []))) ≡ length rows = length-set rows l.variable (placed l.number (length made) (get_or rows l.variable [])) in omega arith)
      ∙ sym (row-push x made l);
}

-- what is found above a number is above it
found_above : (c : ℤ) (ms : List Made) (j : ℤ) → Above c ms → IsTrue (is_some (found j ms)) → c <ℤ j
found_above c [] j a h = absurd (none h)
  where
    none : IsTrue false → ⊥
    none e = cc
found_above c (m ∷ ms) j a h = cases (int_eq m.number j) refl h (found_above c ms j a.1)
  where
    cases : (b : Bool) → int_eq m.number j ≡ b → IsTrue (is_some (cond b (Some m.place) (found j ms))) → (IsTrue (is_some (found j ms)) → c <ℤ j) → c <ℤ j
    cases true e h rest = let first : int_lt c m.number ≡ true = a.0 in grind (arith, nat_tests, ints)
    cases false e h rest = rest h

-- the last number below k, from a number below k on
record IsLast (k b : ℤ) (ms : List Made) (n : ℤ) : Type 0 where
  below : int_lt n k ≡ true
  least : b ≤ℤ n
  made : int_eq b n ≡ false → IsTrue (is_some (found n ms))
  greatest : (j : ℤ) → IsTrue (is_some (found j ms)) → j <ℤ k → j ≤ℤ n

is_last : (k b : ℤ) (ms : List Made) → int_lt b k ≡ true → Above b ms → Ascends ms → IsLast k b ms (last_below k b ms)
is_last k b [] h a s = record { below = h; least = omega (arith, ints); made = λ e. absurd (apart e); greatest = λ j e. absurd (none e) }
  where
    none : IsTrue false → ⊥
    none e = cc

    apart : int_eq b b ≡ false → ⊥
    apart e = grind (arith, nat_tests, ints)
is_last k b (m ∷ ms) h a s = cases (int_lt m.number k) refl (λ e. is_last k m.number ms e s.0 s.1)
  where
    first : int_lt b m.number ≡ true
    first = a.0

    apart : int_eq b b ≡ false → ⊥
    apart e = grind (arith, nat_tests, ints)

    made_cases : (n : ℤ) (e : Bool) → int_eq m.number n ≡ e → (int_eq m.number n ≡ false → IsTrue (is_some (found n ms))) → IsTrue (is_some (cond e (Some m.place) (found n ms)))
    made_cases n true e rest = refl
    made_cases n false e rest = rest e

    greatest_cases : (n j : ℤ) (e : Bool) → int_eq m.number j ≡ e → m.number ≤ℤ n → ((i : ℤ) → IsTrue (is_some (found i ms)) → i <ℤ k → i ≤ℤ n) → IsTrue (is_some (cond e (Some m.place) (found j ms))) → j <ℤ k → j ≤ℤ n
    greatest_cases n j true e least rest h l = grind (arith, nat_tests, ints)
    greatest_cases n j false e least rest h l = rest j h l

    over_cases : (j : ℤ) (e : Bool) → int_eq m.number j ≡ e → int_lt m.number k ≡ false → IsTrue (is_some (cond e (Some m.place) (found j ms))) → j <ℤ k → j ≤ℤ b
    over_cases j true e over h l = grind (arith, nat_tests, ints)
    over_cases j false e over h l = let far : m.number <ℤ j = found_above m.number ms j s.0 h in grind (arith, nat_tests, ints)

    cases : (v : Bool) → int_lt m.number k ≡ v → (int_lt m.number k ≡ true → IsLast k m.number ms (last_below k m.number ms)) → IsLast k b (m ∷ ms) (cond v (last_below k m.number ms) b)
    cases true e rest = record {
      below = (rest e).below;
      least = (let far : m.number ≤ℤ last_below k m.number ms = (rest e).least in grind (arith, nat_tests, ints));
      made = λ x. made_cases (last_below k m.number ms) (int_eq m.number (last_below k m.number ms)) refl (rest e).made;
      greatest = λ j. greatest_cases (last_below k m.number ms) j (int_eq m.number j) refl (rest e).least (rest e).greatest;
    }
    cases false e rest = record { below = h; least = omega (arith, ints); made = λ x. absurd (apart x); greatest = λ j f l. over_cases j (int_eq m.number j) refl e f l }

nearest_below : (k : ℤ) (ms : List Made) → Ascends ms → MatchOption (below_in k ms) ((j : ℤ) → IsTrue (is_some (found j ms)) → k ≤ℤ j) (λ n. IsTrue (is_some (found n ms)) × (n <ℤ k) × ((j : ℤ) → IsTrue (is_some (found j ms)) → j <ℤ k → j ≤ℤ n))
nearest_below k [] s = λ j e. absurd (none e)
  where
    none : IsTrue false → ⊥
    none e = cc
nearest_below k (m ∷ ms) s = cases (int_lt m.number k) refl
  where
    made_cases : (n : ℤ) (e : Bool) → int_eq m.number n ≡ e → (int_eq m.number n ≡ false → IsTrue (is_some (found n ms))) → IsTrue (is_some (cond e (Some m.place) (found n ms)))
    made_cases n true e rest = refl
    made_cases n false e rest = rest e

    greatest_cases : (n j : ℤ) (e : Bool) → int_eq m.number j ≡ e → m.number ≤ℤ n → ((i : ℤ) → IsTrue (is_some (found i ms)) → i <ℤ k → i ≤ℤ n) → IsTrue (is_some (cond e (Some m.place) (found j ms))) → j <ℤ k → j ≤ℤ n
    greatest_cases n j true e least rest h l = grind (arith, nat_tests, ints)
    greatest_cases n j false e least rest h l = rest j h l

    over_cases : (j : ℤ) (e : Bool) → int_eq m.number j ≡ e → int_lt m.number k ≡ false → IsTrue (is_some (cond e (Some m.place) (found j ms))) → k ≤ℤ j
    over_cases j true e over h = grind (arith, nat_tests, ints)
    over_cases j false e over h = let far : m.number <ℤ j = found_above m.number ms j s.0 h in grind (arith, nat_tests, ints)

    lt_int : (a b : ℤ) → int_lt a b ≡ true → a <ℤ b
    lt_int a b h = grind (arith, nat_tests, ints)

    cases : (v : Bool) → int_lt m.number k ≡ v → MatchOption (cond v (Some (last_below k m.number ms)) None) ((j : ℤ) → IsTrue (is_some (found j (m ∷ ms))) → k ≤ℤ j) (λ n. IsTrue (is_some (found n (m ∷ ms))) × (n <ℤ k) × ((j : ℤ) → IsTrue (is_some (found j (m ∷ ms))) → j <ℤ k → j ≤ℤ n))
    cases true e =
        let last = is_last k m.number ms e s.0 s.1 in
        (made_cases (last_below k m.number ms) (int_eq m.number (last_below k m.number ms)) refl last.made, lt_int (last_below k m.number ms) k last.below, λ j. greatest_cases (last_below k m.number ms) j (int_eq m.number j) refl last.least last.greatest)
    cases false e = λ j h. over_cases j (int_eq m.number j) refl e h

nearest_above : (k : ℤ) (ms : List Made) → Ascends ms → MatchOption (above_in k ms) ((j : ℤ) → IsTrue (is_some (found j ms)) → j ≤ℤ k) (λ n. IsTrue (is_some (found n ms)) × (k <ℤ n) × ((j : ℤ) → IsTrue (is_some (found j ms)) → k <ℤ j → n ≤ℤ j))
nearest_above k [] s = λ j e. absurd (none e)
  where
    none : IsTrue false → ⊥
    none e = cc
nearest_above k (m ∷ ms) s = cases (int_lt k m.number) refl (above_in k ms) (nearest_above k ms s.1)
  where
    here : int_eq m.number m.number ≡ true
    here = grind (arith, nat_tests, ints)

    lt_int : (a b : ℤ) → int_lt a b ≡ true → a <ℤ b
    lt_int a b h = grind (arith, nat_tests, ints)

    least_cases : (j : ℤ) (e : Bool) → int_eq m.number j ≡ e → IsTrue (is_some (cond e (Some m.place) (found j ms))) → m.number ≤ℤ j
    least_cases j true e h = grind (arith, nat_tests, ints)
    least_cases j false e h = let far : m.number <ℤ j = found_above m.number ms j s.0 h in grind (arith, ints)

    none_cases : (j : ℤ) (e : Bool) → int_eq m.number j ≡ e → int_lt k m.number ≡ false → ((i : ℤ) → IsTrue (is_some (found i ms)) → i ≤ℤ k) → IsTrue (is_some (cond e (Some m.place) (found j ms))) → j ≤ℤ k
    none_cases j true e under rest h = grind (arith, nat_tests, ints)
    none_cases j false e under rest h = rest j h

    made_cases : (n : ℤ) (e : Bool) → IsTrue (is_some (found n ms)) → IsTrue (is_some (cond e (Some m.place) (found n ms)))
    made_cases n true h = refl
    made_cases n false h = h

    some_cases : (n j : ℤ) (e : Bool) → int_eq m.number j ≡ e → int_lt k m.number ≡ false → ((i : ℤ) → IsTrue (is_some (found i ms)) → k <ℤ i → n ≤ℤ i) → IsTrue (is_some (cond e (Some m.place) (found j ms))) → k <ℤ j → n ≤ℤ j
    some_cases n j true e under rest h l = absurd (grind (arith, nat_tests, ints))
    some_cases n j false e under rest h l = rest j h l

    cases : (v : Bool) → int_lt k m.number ≡ v → (o : Option ℤ) → MatchOption o ((j : ℤ) → IsTrue (is_some (found j ms)) → j ≤ℤ k) (λ n. IsTrue (is_some (found n ms)) × (k <ℤ n) × ((j : ℤ) → IsTrue (is_some (found j ms)) → k <ℤ j → n ≤ℤ j)) → MatchOption (cond v (Some m.number) o) ((j : ℤ) → IsTrue (is_some (found j (m ∷ ms))) → j ≤ℤ k) (λ n. IsTrue (is_some (found n (m ∷ ms))) × (k <ℤ n) × ((j : ℤ) → IsTrue (is_some (found j (m ∷ ms))) → k <ℤ j → n ≤ℤ j))
    cases true e o rest = (rw here refl, lt_int k m.number e, λ j h l. least_cases j (int_eq m.number j) refl h)
    cases false e None rest = λ j h. none_cases j (int_eq m.number j) refl e rest h
    cases false e (Some n) rest = (made_cases n (int_eq m.number n) rest.0, rest.1, λ j h l. some_cases n j (int_eq m.number j) refl e rest.2 h l)

pub below_row : (x : ℕ) (made : List OrderLit) (k : ℤ) → IsNearestBelow made x k (below_in k (row_of x made))
below_row x made k = simp (← found-row x made) (nearest_below k (row_of x made) (ascends_row x made))

pub above_row : (x : ℕ) (made : List OrderLit) (k : ℤ) → IsNearestAbove made x k (above_in k (row_of x made))
above_row x made k = simp (← found-row x made) (nearest_above k (row_of x made) (ascends_row x made))

-- what a row gives is what the table has
pub find_row : (variables : ℕ) (made now : List OrderLit) (rows : List (List Made)) (row : List Made) (x : ℕ) (k : ℤ) → IsTable variables made rows → x ≤ variables → row ≡ get_or rows x row → made ≡ now → FitsSigned w32 k → found (to_z w32 (of_z w32 k)) row ≡ place_of now x k
find_row variables made now rows row x k h within read same fits =
    let lt : x < length rows = omega (arith, h.size) in
    ap (λ z. found z row) (to_z-of_z w32 k fits)
    ∙ ap (found k) (read ∙ get_or_default rows x row [] lt ∙ h.rows_of x lt)
    ∙ found-row x made k
    ∙ ap (λ ls. place_of ls x k) same

pub row_read : (variables : ℕ) (made : List OrderLit) (rows : List (List Made)) (row : List Made) (x : ℕ) → IsTable variables made rows → x ≤ variables → row ≡ get_or rows x row → row ≡ row_of x made
row_read variables made rows row x h within read =
    let lt : x < length rows = omega (arith, h.size) in
    read ∙ get_or_default rows x row [] lt ∙ h.rows_of x lt

-- the row of a literal that was not made lacks it
pub row_lacks : (variables : ℕ) (made : List OrderLit) (rows : List (List Made)) (x : ℕ) (k : ℤ) → IsTable variables made rows → x ≤ variables → place_of made x k ≡ None → FitsSigned w32 k → found (to_z w32 (of_z w32 k)) (get_or rows x []) ≡ None
row_lacks variables made rows x k h within new fits =
    let lt : x < length rows = omega (arith, h.size) in
    ap (λ z. found z (get_or rows x [])) (to_z-of_z w32 k fits) ∙ ap (found k) (h.rows_of x lt) ∙ found-row x made k ∙ new

-- a table after one more literal
pub table_made : (variables : ℕ) (made now : List OrderLit) (rows after : List (List Made)) (x : ℕ) (k : ℤ) (place : ℕ) → IsTable variables made rows → x ≤ variables → FitsSigned w32 k → place ≡ length made → now ≡ made ++ record { variable = x; number = to_z w32 (of_z w32 k) } ∷ [] → after ≡ set rows x (placed (to_z w32 (of_z w32 k)) place (get_or rows x [])) → IsTable variables now after
table_made variables made now rows after x k place h within fits at pushed put =
    let lt : x < length rows = omega (arith, h.size) in
    subst (IsTable variables now) (sym (put ∙ ap (λ z. set rows x (placed z place (get_or rows x []))) (to_z-of_z w32 k fits) ∙ ap (λ n. set rows x (placed k n (get_or rows x []))) at))
    (subst (λ ls. IsTable variables ls (set rows x (placed k (length made) (get_or rows x [])))) (sym (pushed ∙ ap (λ z. made ++ record { variable = x; number = z } ∷ []) (to_z-of_z w32 k fits)))
    (table_push variables made rows (record { variable = x; number = k }) lt h))

-- the view of a table after one more literal
pub view_made : (t : OrderLits) (variables : ℕ) (made now : List OrderLit) (x : ℕ) (k : ℤ) → view_of variables made ≡ t → place_of t.made x k ≡ None → FitsSigned w32 k → now ≡ made ++ record { variable = x; number = to_z w32 (of_z w32 k) } ∷ [] → view_of variables now ≡ with_literal t x k
view_made t variables made now x k view new fits pushed =
    ap (view_of variables) (pushed ∙ ap (λ z. made ++ record { variable = x; number = z } ∷ []) (to_z-of_z w32 k fits))
    ∙ ap (λ (o : OrderLits). view_of o.variables (o.made ++ record { variable = x; number = k } ∷ [])) view
    ∙ sym (with-new t x k new)

pub place_after : (made now : List OrderLit) (x : ℕ) (k : ℤ) (place : ℕ) → place_of made x k ≡ None → FitsSigned w32 k → place ≡ length made → now ≡ made ++ record { variable = x; number = to_z w32 (of_z w32 k) } ∷ [] → place_of now x k ≡ Some place
place_after made now x k place new fits at pushed =
    ap (λ ls. place_of ls x k) (pushed ∙ ap (λ z. made ++ record { variable = x; number = z } ∷ []) (to_z-of_z w32 k fits))
    ∙ place-made made x k new
    ∙ ap Some (sym at)

pub near_below : (variables : ℕ) (made now : List OrderLit) (rows : List (List Made)) (row : List Made) (x : ℕ) (k : ℤ) (n : Option ℤ) → IsTable variables made rows → x ≤ variables → row ≡ get_or rows x row → made ≡ now → FitsSigned w32 k → n ≡ below_in (to_z w32 (of_z w32 k)) row → IsNearestBelow now x k n
near_below variables made now rows row x k n h within read same fits e =
    subst (IsNearestBelow now x k) (sym (e ∙ ap (λ z. below_in z row) (to_z-of_z w32 k fits) ∙ ap (below_in k) (row_read variables made rows row x h within read) ∙ ap (λ ls. below_in k (row_of x ls)) same)) (below_row x now k)

pub near_above : (variables : ℕ) (made now : List OrderLit) (rows : List (List Made)) (row : List Made) (x : ℕ) (k : ℤ) (n : Option ℤ) → IsTable variables made rows → x ≤ variables → row ≡ get_or rows x row → made ≡ now → FitsSigned w32 k → n ≡ above_in (to_z w32 (of_z w32 k)) row → IsNearestAbove now x k n
near_above variables made now rows row x k n h within read same fits e =
    subst (IsNearestAbove now x k) (sym (e ∙ ap (λ z. above_in z row) (to_z-of_z w32 k fits) ∙ ap (above_in k) (row_read variables made rows row x h within read) ∙ ap (λ ls. above_in k (row_of x ls)) same)) (above_row x now k)
