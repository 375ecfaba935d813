-- What a number spells is read as that number.
use Rattle.std.proofs.Common.{◌≡◌, ℕ, suc, ◌+◌, ◌-◌, ◌*◌, ◌^◌, ◌<◌, ◌≤◌, Bool, true, false, eqb, ltb, List, [], ◌∷◌, ◌++◌, length, slice_index, Some, ℤ, pos, negsuc, decimal, refl, ◌∙◌, ap, arith, rules, le-leb, lt-ltb, le-ltb}
use Rattle.std.specs.Char.{is_ascii_digit, digit_value}
use Rattle.std.specs.Fmt.{signed_decimal}
use Rattle.std.specs.Int.{IsInRange}
use Rattle.std.specs.Str.Parse.{AllDigits, digits_value_after}
use Rattle.std.proofs.lemmas.Bool.Decides.{nat_tests}
use Rattle.std.proofs.lemmas.Int.{ints}
use Rattle.std.proofs.lemmas.Bool.{leb-true, ne_eqb}
use Rattle.std.proofs.lemmas.Str.{digit_value_digit}
use Rattle.std.proofs.lemmas.Str.Parse.{digit_from_value}
use Rattle.std.proofs.lemmas.Fmt.{decimal_is_IsNumeral_wide}
use Rattle.derivation.specs.Spelling.{is_cost, is_value, is_window_end}
use Rattle.derivation.specs.Fields.{behind}
use Rattle.derivation.specs.Reading.{below, where_ok, digits_from, number_at, small_at, wide_at, integer_at, value_at, window_end_at}

-- no digit comes next
abbrev pub Ends : List ℕ → Type 0
Ends rest = is_ascii_digit (slice_index rest 0) ≡ false

pub behind_ends : (fields : List (List ℕ)) → Ends (behind fields)
behind_ends [] = refl
behind_ends (field ∷ fields) = refl

in_range_digit : (c : ℕ) → IsInRange 48 57 c → is_ascii_digit c ≡ true
in_range_digit c h = grind (arith, nat_tests)

digit_test : (c : ℕ) → digit_value c < 10 → is_ascii_digit c ≡ true
digit_test c h = in_range_digit c (digit_from_value c h)

digit_less : (c : ℕ) → digit_value c < 10 → c - 48 ≡ digit_value c
digit_less c h = omega (arith, digit_value_digit c (digit_from_value c h))

digit_no_minus : (c : ℕ) → digit_value c < 10 → eqb c 45 ≡ false
digit_no_minus c h = let r = digit_from_value c h in ne_eqb c 45 (λ e. omega (arith, r.0, e))

digits_grow : (n : ℕ) (digits : List ℕ) → n ≤ digits_value_after 10 n digits
digits_grow n [] = omega arith
digits_grow n (d ∷ digits) = omega (arith, digits_grow (n * 10 + digit_value d) digits)

no_digit : (n b : ℕ) (rest : List ℕ) → is_ascii_digit b ≡ false → digits_from n (b ∷ rest) ≡ Some (n, b ∷ rest)
unfolding digits_from
no_digit n b rest h = rw h refl

one_digit : (n d : ℕ) (rest : List ℕ) → is_ascii_digit d ≡ true → ltb 17014118346046923173168730371588410572 n ≡ false
    → digits_from n (d ∷ rest) ≡ digits_from (n * 10 + (d - 48)) rest
unfolding digits_from
one_digit n d rest h small = rw (h, small) refl

no_bytes : (n : ℕ) → digits_from n [] ≡ Some (n, [])
unfolding digits_from
no_bytes n = refl

pub digits_read : (digits : List ℕ) (n : ℕ) (rest : List ℕ) → AllDigits 10 digits → digits_value_after 10 n digits ≤ 2 ^ 127 → Ends rest
    → digits_from n (digits ++ rest) ≡ Some (digits_value_after 10 n digits, rest)
digits_read [] n [] all few ends = no_bytes n
digits_read [] n (b ∷ rest) all few ends = no_digit n b rest ends
digits_read (d ∷ digits) n rest all few ends =
    let grown = digits_grow (n * 10 + digit_value d) digits in
    let small : n ≤ 17014118346046923173168730371588410572 = omega (arith, grown, few) in
    one_digit n d (digits ++ rest) (digit_test d all.0) (le-ltb 17014118346046923173168730371588410572 n small)
    ∙ ap (λ v. digits_from (n * 10 + v) (digits ++ rest)) (digit_less d all.0)
    ∙ digits_read digits (n * 10 + digit_value d) rest all.1 few ends

at_digits : (digits rest : List ℕ) → 0 < length digits → AllDigits 10 digits → number_at (digits ++ rest) ≡ digits_from 0 (digits ++ rest)
unfolding number_at
at_digits [] rest some all = absurd (omega (arith, some))
at_digits (d ∷ digits) rest some all = rw (digit_test d all.0) refl

wide_enough : (n : ℕ) → n ≤ 2 ^ 127 → n < 10 ^ 64
wide_enough n h = omega (arith, h)

pub number_read : (n : ℕ) (rest : List ℕ) → n ≤ 2 ^ 127 → Ends rest → number_at (decimal n ++ rest) ≡ Some (n, rest)
number_read n rest few ends =
    let numeral = decimal_is_IsNumeral_wide n (wide_enough n few) in
    let fits : digits_value_after 10 0 (decimal n) ≤ 2 ^ 127 = rw numeral.1 few in
    at_digits (decimal n) rest numeral.0.0 numeral.0.1 ∙ digits_read (decimal n) 0 rest numeral.0.1 fits ends
    ∙ ap (λ v. Some (v, rest)) numeral.1

below_same : (high n : ℕ) (rest : List ℕ) → n < high → below high n rest ≡ Some (n, rest)
below_same high n rest h = rw (lt-ltb n high h) refl

pub small_read : (n : ℕ) (rest : List ℕ) → ltb n (2 ^ 32) ≡ true → Ends rest → small_at (decimal n ++ rest) ≡ Some (n, rest)
unfolding small_at
small_read n rest h ends =
    let few : n < 2 ^ 32 = search (rules, nat_tests) in
    rw (number_read n rest (omega (arith, few)) ends) (below_same (2 ^ 32) n rest few)

pub wide_read : (n : ℕ) (rest : List ℕ) → ltb n (2 ^ 64) ≡ true → Ends rest → wide_at (decimal n ++ rest) ≡ Some (n, rest)
unfolding wide_at
wide_read n rest h ends =
    let few : n < 2 ^ 64 = search (rules, nat_tests) in
    rw (number_read n rest (omega (arith, few)) ends) (below_same (2 ^ 64) n rest few)

no_minus : (digits rest : List ℕ) → 0 < length digits → AllDigits 10 digits → eqb (slice_index (digits ++ rest) 0) 45 ≡ false
no_minus [] rest some all = absurd (omega (arith, some))
no_minus (d ∷ digits) rest some all = digit_no_minus d all.0

positive_read : (n : ℕ) (rest : List ℕ) → n < 2 ^ 127 → Ends rest → integer_at (decimal n ++ rest) ≡ Some (pos n, rest)
unfolding integer_at
positive_read n rest few ends =
    let numeral = decimal_is_IsNumeral_wide n (wide_enough n (omega (arith, few))) in
    rw (no_minus (decimal n) rest numeral.0.0 numeral.0.1) (rw (number_read n rest (omega (arith, few)) ends) (rw (lt-ltb n (2 ^ 127) few) refl))

negative_read : (n : ℕ) (rest : List ℕ) → suc n ≤ 2 ^ 127 → Ends rest → integer_at (45 ∷ (decimal (suc n) ++ rest)) ≡ Some (negsuc n, rest)
unfolding integer_at
negative_read n rest few ends = rw (number_read (suc n) rest few ends) (rw (le-leb (suc n) (2 ^ 127) few) refl)

pub integer_read : (z : ℤ) (rest : List ℕ) → is_cost z ≡ true → Ends rest → integer_at (signed_decimal z ++ rest) ≡ Some (z, rest)
integer_read (pos n) rest h ends =
    let few : n < 2 ^ 127 = omega (arith, leb-true n (2 ^ 127 - 1) h) in
    positive_read n rest few ends
integer_read (negsuc n) rest h ends =
    let few : suc n ≤ 2 ^ 127 = grind (arith, nat_tests, ints) in
    negative_read n rest few ends

value_cost : (z : ℤ) → is_value z ≡ true → is_cost z ≡ true
value_cost (pos n) h = grind (arith, nat_tests, ints)
value_cost (negsuc n) h = grind (arith, nat_tests, ints)

window_end_cost : (z : ℤ) → is_window_end z ≡ true → is_cost z ≡ true
window_end_cost (pos n) h = grind (arith, nat_tests, ints)
window_end_cost (negsuc n) h = grind (arith, nat_tests, ints)

where_same : (ok : ℤ → Bool) (z : ℤ) (rest : List ℕ) → ok z ≡ true → where_ok ok z rest ≡ Some (z, rest)
where_same ok z rest h = rw h refl

pub value_read : (z : ℤ) (rest : List ℕ) → is_value z ≡ true → Ends rest → value_at (signed_decimal z ++ rest) ≡ Some (z, rest)
unfolding value_at
value_read z rest h ends = rw (integer_read z rest (value_cost z h) ends) (where_same is_value z rest h)

pub window_end_read : (z : ℤ) (rest : List ℕ) → is_window_end z ≡ true → Ends rest → window_end_at (signed_decimal z ++ rest) ≡ Some (z, rest)
unfolding window_end_at
window_end_read z rest h ends = rw (integer_read z rest (window_end_cost z h) ends) (where_same is_window_end z rest h)
