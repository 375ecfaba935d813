-- Which check fails first does not depend on the order in which checks are noted.
use Rattle.std.proofs.Common.{◌≡◌, ℕ, ◌+◌, ◌*◌, ◌<◌, ◌≤◌, ◌==◌, nat_lt, Bool, true, false, ◌||◌, ◌&&◌, if◌then◌else◌, List, [], ◌∷◌, ◌++◌, Option, Some, None, refl, sym, ◌∙◌, ap, arith}
use Rattle.std.proofs.lemmas.Bool.{eqb-true, eqb-false, ltb-true, ltb-false, lt-ltb, le-ltb}
use Rattle.grammar.specs.declared.check.Check.{Check}
use Rattle.grammar.specs.declared.check.Check.TheVariants.{UnknownTheory, WrongPlace, BadGuard, BadTerm, TooManyVariables}
use Rattle.grammar.specs.declared.check.Failing.{Failing}
use Rattle.grammar.specs.Check.{rank, comes_before, sooner, first_of, fails_where, bad_terms}
use Rattle.theory_grammar.specs.State.{least}
use Rattle.theory_grammar.specs.TheoryParts.{with_bad}
use Rattle.theory_grammar.proofs.FirstFails.{first_append, bad_first, bad_behind}

abbrev key : Failing → ℕ
key f = 5 * f.at + rank f.check

rank_most : (c : Check) → rank c ≤ 4
rank_most UnknownTheory = omega arith
rank_most WrongPlace = omega arith
rank_most BadGuard = omega arith
rank_most BadTerm = omega arith
rank_most TooManyVariables = omega arith

rank_same : (c d : Check) → rank c ≡ rank d → c ≡ d
rank_same UnknownTheory UnknownTheory h = refl
rank_same WrongPlace WrongPlace h = refl
rank_same BadGuard BadGuard h = refl
rank_same BadTerm BadTerm h = refl
rank_same TooManyVariables TooManyVariables h = refl
rank_same UnknownTheory _ h = absurd cc
rank_same WrongPlace _ h = absurd cc
rank_same BadGuard _ h = absurd cc
rank_same BadTerm _ h = absurd cc
rank_same TooManyVariables _ h = absurd cc

key_by : (a b r s : ℕ) → r ≤ 4 → s ≤ 4 → (nat_lt a b || ((a == b) && nat_lt r s)) ≡ nat_lt (5 * a + r) (5 * b + s)
key_by a b r s rm sm = by (nat_lt a b) refl (a == b) refl (nat_lt r s) refl
  where
    by : (p : Bool) → nat_lt a b ≡ p → (q : Bool) → (a == b) ≡ q → (t : Bool) → nat_lt r s ≡ t → (p || (q && t)) ≡ nat_lt (5 * a + r) (5 * b + s)
    by true e q d t k = sym (lt-ltb (5 * a + r) (5 * b + s) (omega (arith, ltb-true a b e, rm, sm)))
    by false e true d true k = sym (lt-ltb (5 * a + r) (5 * b + s) (omega (arith, eqb-true a b d, ltb-true r s k)))
    by false e true d false k = sym (le-ltb (5 * a + r) (5 * b + s) (omega (arith, eqb-true a b d, ltb-false r s k)))
    by false e false d t k = sym (le-ltb (5 * a + r) (5 * b + s) (let l = ltb-false a b e in let n = apart d in omega (arith, l, n, rm, sm)))
      where
        apart : (a == b) ≡ false → b + 1 ≤ a
        apart d = less (ltb-false a b e)
          where
            less : b ≤ a → b + 1 ≤ a
            less l = strict (nat_lt b a) refl
              where
                strict : (p : Bool) → nat_lt b a ≡ p → b + 1 ≤ a
                strict true h = let i = ltb-true b a h in omega (arith, i)
                strict false h = absurd (eqb-false a b d (let i = ltb-false b a h in omega (arith, i, l)))

key_less : (x y : Failing) → comes_before x y ≡ nat_lt (key x) (key y)
key_less x y = key_by x.at y.at (rank x.check) (rank y.check) (rank_most x.check) (rank_most y.check)

same_key : (x y : Failing) → key x ≡ key y → x ≡ y
same_key x y h =
    let rx = rank_most x.check in
    let ry = rank_most y.check in
    let at : x.at ≡ y.at = omega (arith, h, rx, ry) in
    let check : x.check ≡ y.check = rank_same x.check y.check (omega (arith, h, rx, ry)) in
    ap (λ a. record { check = x.check; at = a }) at ∙ ap (λ c. record { check = c; at = y.at }) check

swap_two : (x y : Failing) → sooner (Some x) y ≡ sooner (Some y) x
swap_two x y = by (comes_before y x) refl (comes_before x y) refl
  where
    by : (p : Bool) → comes_before y x ≡ p → (q : Bool) → comes_before x y ≡ q → (if p then Some y else Some x) ≡ (if q then Some x else Some y)
    by true p true q = let i = ltb-true (key y) (key x) (sym (key_less y x) ∙ p) in let j = ltb-true (key x) (key y) (sym (key_less x y) ∙ q) in absurd (omega (arith, i, j))
    by true p false q = refl
    by false p true q = refl
    by false p false q = let i = ltb-false (key y) (key x) (sym (key_less y x) ∙ p) in let j = ltb-false (key x) (key y) (sym (key_less x y) ∙ q) in ap Some (same_key x y (omega (arith, i, j)))

-- two that are noted may change places
pub swap : (o : Option Failing) (x y : Failing) → sooner (sooner o x) y ≡ sooner (sooner o y) x
swap None x y = swap_two x y
swap (Some f) x y = by (comes_before x f) refl (comes_before y f) refl
  where
    by : (p : Bool) → comes_before x f ≡ p → (q : Bool) → comes_before y f ≡ q → sooner (if p then Some x else Some f) y ≡ sooner (if q then Some y else Some f) x
    by true p true q = swap_two x y
    by true p false q =
        let i = ltb-true (key x) (key f) (sym (key_less x f) ∙ p) in
        let j = ltb-false (key y) (key f) (sym (key_less y f) ∙ q) in
        let e : comes_before y x ≡ false = key_less y x ∙ le-ltb (key y) (key x) (omega (arith, i, j)) in
        ap (λ b. if b then Some y else Some x) e ∙ sym (ap (λ b. if b then Some x else Some f) p)
    by false p true q =
        let i = ltb-false (key x) (key f) (sym (key_less x f) ∙ p) in
        let j = ltb-true (key y) (key f) (sym (key_less y f) ∙ q) in
        let e : comes_before x y ≡ false = key_less x y ∙ le-ltb (key x) (key y) (omega (arith, i, j)) in
        ap (λ b. if b then Some y else Some f) q ∙ sym (ap (λ b. if b then Some x else Some y) e)
    by false p false q = ap (λ b. if b then Some y else Some f) q ∙ sym (ap (λ b. if b then Some x else Some f) p)

last_first : (o : Option Failing) (xs : List Failing) (x : Failing) → sooner (first_of o xs) x ≡ first_of (sooner o x) xs
last_first o [] x = refl
last_first o (y ∷ xs) x = last_first (sooner o y) xs x ∙ ap (λ z. first_of z xs) (swap o y x)

-- a check that is noted last stands first
pub noted_last : (o : Option Failing) (xs : List Failing) (fails : Bool) (check : Check) (at : ℕ) → first_of (first_of o xs) (fails_where fails check at) ≡ first_of o (fails_where fails check at ++ xs)
noted_last o xs false check at = refl
noted_last o xs true check at = last_first o xs (record { check = check; at = at })

pub first_last : (o : Option Failing) (xs ys : List Failing) → first_of (first_of o xs) ys ≡ first_of (first_of o ys) xs
first_last o xs [] = refl
first_last o xs (y ∷ ys) = ap (λ z. first_of z ys) (last_first o xs y) ∙ first_last (sooner o y) xs ys

-- a check that is noted beside bad terms
pub noted_beside : (o : Option Failing) (bad : Option ℕ) (xs : List Failing) → with_bad (first_of o xs) bad ≡ first_of (with_bad o bad) xs
noted_beside o None xs = refl
noted_beside o (Some at) xs = last_first o xs (record { check = BadTerm; at = at })

-- bad terms that are noted
pub bads_more : (o : Option Failing) (bad : Option ℕ) (xs : List ℕ) → with_bad o (least bad xs) ≡ first_of (with_bad o bad) (bad_terms xs)
bads_more o None xs = sym (bad_first o xs)
bads_more o (Some at) xs = sym (bad_behind o at xs)
