-- Reading from the left, as a function of the bytes. It need only be right on the spelling of a line. Private contracts alone cite this file.
use Rattle.std.specs.Prelude.{ℕ, zero, suc, ◌+◌, ◌-◌, ◌*◌, ◌^◌, Bool, true, false, nat_lt, nat_le, ◌==◌, if◌then◌else◌, List, [], ◌∷◌, ◌++◌, length, drop, slice_index, Option, Some, None, ℤ, pos, neg_ℤ}
use Rattle.std.specs.Char.{is_ascii_digit}
use Rattle.literals.specs.declared.lit.Lit.{Lit}
use Rattle.literals.specs.declared.lit.Lit.TheVariants.{Atom, Body, Constraint, AtMost, AtLeast}
use Rattle.derivation.specs.declared.line.Line.{Line}
use Rattle.derivation.specs.declared.line.Line.TheVariants.{Header, Sum, Distinct, Window, Pair, Loop, Hole, Learned, Answer, Better, EndNone, EndAll, EndBest}
use Rattle.derivation.specs.Spelling.{is_value, is_window_end}

-- what is read, and the bytes behind it
abbrev pub Outcome : Type 0 → Type 0
Outcome A = Option (A × List ℕ)

abbrev pub and_then : {A B : Type 0} → Outcome A → (A → List ℕ → Option B) → Option B
and_then (Some p) f = f p.0 p.1
and_then None f = None

-- the digits from here on, behind a number that others wrote; the result is below 2^128
unfoldable pub digits_from : ℕ → List ℕ → Outcome ℕ
digits_from n [] = Some (n, [])
digits_from n (b ∷ rest) =
    if is_ascii_digit b
    then (if nat_lt 17014118346046923173168730371588410572 n then None else digits_from (n * 10 + (b - 48)) rest)
    else Some (n, b ∷ rest)

unfoldable pub number_at : List ℕ → Outcome ℕ
number_at bytes = if is_ascii_digit (slice_index bytes 0) then digits_from 0 bytes else None

abbrev pub below : ℕ → ℕ → List ℕ → Outcome ℕ
below high n rest = if nat_lt n high then Some (n, rest) else None

unfoldable pub small_at : List ℕ → Outcome ℕ
small_at bytes = and_then (number_at bytes) (below (2 ^ 32))

unfoldable pub wide_at : List ℕ → Outcome ℕ
wide_at bytes = and_then (number_at bytes) (below (2 ^ 64))

abbrev pub as_positive : ℕ → List ℕ → Outcome ℤ
as_positive n rest = if nat_lt n (2 ^ 127) then Some (pos n, rest) else None

abbrev pub as_negative : ℕ → List ℕ → Outcome ℤ
as_negative n rest = if nat_le n (2 ^ 127) then Some (neg_ℤ (pos n), rest) else None

unfoldable pub integer_at : List ℕ → Outcome ℤ
integer_at bytes =
    if slice_index bytes 0 == 45 then and_then (number_at (drop 1 bytes)) as_negative else and_then (number_at bytes) as_positive

abbrev pub where_ok : (ℤ → Bool) → ℤ → List ℕ → Outcome ℤ
where_ok ok z rest = if ok z then Some (z, rest) else None

unfoldable pub value_at : List ℕ → Outcome ℤ
value_at bytes = and_then (integer_at bytes) (where_ok is_value)

unfoldable pub window_end_at : List ℕ → Outcome ℤ
window_end_at bytes = and_then (integer_at bytes) (where_ok is_window_end)

-- a bound, behind its letter
unfoldable pub bound_at : List ℕ → Outcome Lit
bound_at bytes = and_then (small_at bytes) (λ x rest. and_then (value_at (drop 2 rest)) (λ k after.
    if slice_index rest 0 == 60 then Some (AtMost x k, after) else Some (AtLeast x k, after)))

-- a literal, behind its sign
unfoldable pub named_at : Bool → List ℕ → Outcome Lit
named_at sign bytes =
    if slice_index bytes 0 == 118 then bound_at (drop 1 bytes)
    else (if slice_index bytes 0 == 97 then and_then (small_at (drop 1 bytes)) (λ n rest. Some (Atom n sign, rest))
    else (if slice_index bytes 0 == 98 then and_then (small_at (drop 1 bytes)) (λ n rest. Some (Body n sign, rest))
    else (if slice_index bytes 0 == 99 then and_then (small_at (drop 1 bytes)) (λ n rest. Some (Constraint n sign, rest))
    else None)))

-- a literal, behind its blank
unfoldable pub lit_at : List ℕ → Outcome Lit
lit_at bytes = if slice_index bytes 0 == 126 then named_at false (drop 1 bytes) else named_at true bytes

-- items of a list, each behind its blank

unfoldable pub lit_item : List ℕ → Outcome Lit
lit_item bytes = lit_at (drop 1 bytes)

unfoldable pub pivot_item : List ℕ → Outcome (Lit × ℕ)
pivot_item bytes = and_then (lit_item bytes) (λ l rest. and_then (wide_at (drop 1 rest)) (λ id after. Some ((l, id), after)))

unfoldable pub number_item : List ℕ → Outcome ℕ
number_item bytes = small_at (drop 1 bytes)

unfoldable pub atom_item : List ℕ → Outcome ℕ
atom_item bytes = if slice_index bytes 1 == 97 then small_at (drop 2 bytes) else None

unfoldable pub value_item : List ℕ → Outcome (ℕ × ℤ)
value_item bytes = and_then (small_at (drop 2 bytes)) (λ x rest. and_then (value_at (drop 1 rest)) (λ k after. Some ((x, k), after)))

-- items behind those found, as long as there are any; the number bounds them
unfoldable pub rows : {A : Type 0} → (List ℕ → Outcome A) → ℕ → List A → List ℕ → List A × List ℕ
rows item zero found bytes = (found, bytes)
rows item (suc n) found bytes = elim (item bytes) [ Some p ↦ rows item n (found ++ p.0 ∷ []) p.1 | None ↦ (found, bytes) ]

abbrev pub all_rows : {A : Type 0} → (List ℕ → Outcome A) → List ℕ → List A × List ℕ
all_rows item bytes = rows item (length bytes) [] bytes

-- the literals at the end of a line, from the blank before `=` on
abbrev pub lits_at : List ℕ → List Lit
lits_at bytes = (all_rows lit_item (drop 2 bytes)).0

-- lines, each from behind its letter on

abbrev pub header_at : List ℕ → Option Line
header_at bytes =
    and_then (value_at (drop 12 bytes)) (λ min rest. and_then (value_at (drop 1 rest)) (λ max after.
    and_then (wide_at (drop 1 after)) (λ limit last. Some (Header 1 min max limit))))

abbrev pub sum_at : List ℕ → Option Line
sum_at bytes = and_then (small_at (drop 1 bytes)) (λ c rest. Some (Sum c (lits_at rest)))

abbrev pub hole_at : List ℕ → Option Line
hole_at bytes = and_then (small_at (drop 1 bytes)) (λ c rest. Some (Hole c (lits_at rest)))

-- two ends of a window
unfoldable pub ends_at : List ℕ → Outcome (ℤ × ℤ)
ends_at bytes = and_then (window_end_at (drop 1 bytes)) (λ a rest. and_then (window_end_at (drop 1 rest)) (λ b after. Some ((a, b), after)))

-- two numbers
unfoldable pub pair_at : List ℕ → Outcome (ℕ × ℕ)
pair_at bytes = and_then (small_at (drop 1 bytes)) (λ i rest. and_then (small_at (drop 1 rest)) (λ j after. Some ((i, j), after)))

abbrev pub distinct_at : List ℕ → Option Line
distinct_at bytes = and_then (small_at (drop 1 bytes)) (λ c rest. and_then (ends_at rest) (λ w after. Some (Distinct c w.0 w.1 (lits_at after))))

abbrev pub window_at : ℕ → List ℕ → Option Line
window_at c bytes = and_then (ends_at bytes) (λ w after. Some (Window c w.0 w.1 (lits_at after)))

abbrev pub places_at : ℕ → List ℕ → Option Line
places_at c bytes = and_then (pair_at bytes) (λ w after. Some (Pair c w.0 w.1 (lits_at after)))

abbrev pub disjoint_at : List ℕ → Option Line
disjoint_at bytes = and_then (small_at (drop 1 bytes)) (λ c rest.
    if slice_index rest 1 == 119 then window_at c (drop 2 rest) else places_at c (drop 2 rest))

abbrev pub loop_of : List ℕ × List ℕ → Line
loop_of p = Loop p.0 (lits_at p.1)

abbrev pub loop_at : List ℕ → Option Line
loop_at bytes = Some (loop_of (all_rows number_item bytes))

abbrev pub learned_of : ℕ → List (Lit × ℕ) × List ℕ → Line
learned_of id p = Learned id p.0 (lits_at p.1)

abbrev pub learned_at : List ℕ → Option Line
learned_at bytes = and_then (wide_at (drop 1 bytes)) (λ id rest. Some (learned_of id (all_rows pivot_item rest)))

abbrev pub answer_of : List ℕ × List ℕ → Line
answer_of p = Answer p.0 (all_rows value_item p.1).0

abbrev pub answer_at : List ℕ → Option Line
answer_at bytes = Some (answer_of (all_rows atom_item bytes))

abbrev pub better_of : ℤ → List ℕ × List ℕ → Line
better_of cost p = Better cost p.0 (all_rows value_item p.1).0

abbrev pub better_at : List ℕ → Option Line
better_at bytes = and_then (integer_at (drop 1 bytes)) (λ cost rest. Some (better_of cost (all_rows atom_item rest)))

abbrev pub end_at : List ℕ → Option Line
end_at bytes =
    if slice_index bytes 1 == 110 then Some EndNone
    else (if slice_index bytes 1 == 97
    then and_then (wide_at (drop 5 bytes)) (λ n rest. Some (EndAll n))
    else and_then (integer_at (drop 6 bytes)) (λ cost rest. Some (EndBest cost)))

-- the line that the bytes spell, if they spell one
abbrev pub reading : List ℕ → Option Line
reading bytes =
    if slice_index bytes 0 == 112 then header_at (drop 1 bytes)
    else (if slice_index bytes 0 == 115 then sum_at (drop 1 bytes)
    else (if slice_index bytes 0 == 100 then distinct_at (drop 1 bytes)
    else (if slice_index bytes 0 == 103 then disjoint_at (drop 1 bytes)
    else (if slice_index bytes 0 == 117 then loop_at (drop 1 bytes)
    else (if slice_index bytes 0 == 119 then hole_at (drop 1 bytes)
    else (if slice_index bytes 0 == 114 then learned_at (drop 1 bytes)
    else (if slice_index bytes 0 == 109 then answer_at (drop 1 bytes)
    else (if slice_index bytes 0 == 111 then better_at (drop 1 bytes)
    else (if slice_index bytes 0 == 113 then end_at (drop 1 bytes)
    else None)))))))))
