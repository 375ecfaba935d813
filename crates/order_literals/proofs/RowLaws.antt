-- A row of order literals: where a number belongs, what is found there, and the row with one more.
use Rattle.std.proofs.Common.{◌≡◌, ℕ, zero, suc, ◌+◌, ◌-◌, ◌<◌, ◌≤◌, Bool, true, false, cond, IsTrue, List, [], ◌∷◌, length, get_or, Option, None, Some, refl, sym, ◌∙◌, ap, arith, ℤ, FitsSigned, w32, to_z, of_z}
use Rattle.std.specs.Prelude.{int_lt, insert}
use Rattle.std.specs.List.{AllByRecursion}
use Rattle.std.specs.Ordering.{int_eq}
use Rattle.std.proofs.lemmas.Bool.Decides.{nat_tests}
use Rattle.std.proofs.lemmas.Int.{ints, to_z-of_z}
use Rattle.std.proofs.lemmas.List.{get_or_default}
use Rattle.order_literals.specs.declared.row.Made.{Made}
use Rattle.order_literals.specs.inner.Rows.{Ascends, place_in, found, last_below, below_in, above_in, placed}

-- each number is above this one
abbrev pub Above : ℤ → List Made → Type 0
Above c ms = AllByRecursion (λ n. IsTrue (int_lt c n.number)) ms

lt_trans : (a b c : ℤ) → int_lt a b ≡ true → int_lt b c ≡ true → int_lt a c ≡ true
lt_trans a b c h e = grind (arith, nat_tests, ints)

lt_not_eq : (a b : ℤ) → int_lt a b ≡ true → int_eq a b ≡ false
lt_not_eq a b h = grind (arith, nat_tests, ints)

gt_not_eq : (a b : ℤ) → int_lt a b ≡ true → int_eq b a ≡ false
gt_not_eq a b h = grind (arith, nat_tests, ints)

lt_not_lt : (a b : ℤ) → int_lt a b ≡ true → int_lt b a ≡ false
lt_not_lt a b h = grind (arith, nat_tests, ints)

lt_other : (a b : ℤ) → int_lt a b ≡ false → int_eq a b ≡ false → int_lt b a ≡ true
lt_other a b h e = grind (arith, nat_tests, ints)

lt_all : (a b c : ℤ) → int_lt b a ≡ false → int_lt b c ≡ true → int_lt a c ≡ true
lt_all a b c h e = grind (arith, nat_tests, ints)

eq_int : (a b : ℤ) → int_eq a b ≡ true → a ≡ b
eq_int a b h = grind (arith, nat_tests, ints)

between : (a b c : ℤ) → int_eq a b ≡ true → int_eq a c ≡ int_eq b c
between a b c h = ap (λ z. int_eq z c) (eq_int a b h)

all_at : (P : Made → Type 0) (xs : List Made) (i : ℕ) (d : Made) → AllByRecursion P xs → i < length xs → P (get_or xs i d)
all_at P [] i d a h = absurd (omega arith)
all_at P (x ∷ xs) zero d a h = a.0
all_at P (x ∷ xs) (suc i) d a h = all_at P xs i d a.1 (omega arith)

above_less : (a b : ℤ) (xs : List Made) → int_lt b a ≡ false → Above b xs → Above a xs
above_less a b [] h s = tt
above_less a b (x ∷ xs) h s = (lt_all a b x.number h s.0, above_less a b xs h s.1)

pub place_past : (xs : List Made) (i : ℕ) (d : Made) (k : ℤ) → Ascends xs → i < length xs → int_lt (get_or xs i d).number k ≡ true → suc i ≤ place_in xs k
place_past [] i d k a h e = absurd (omega arith)
place_past (x ∷ xs) zero d k a h e = rw e (omega arith)
place_past (x ∷ xs) (suc i) d k a h e =
    let first : int_lt x.number (get_or xs i d).number ≡ true = all_at (λ n. IsTrue (int_lt x.number n.number)) xs i d a.0 (omega arith) in
    let rest : suc i ≤ place_in xs k = place_past xs i d k a.1 (omega arith) e in
    let less : int_lt x.number k ≡ true = lt_trans x.number (get_or xs i d).number k first e in
    rw less (omega arith)

before_cases : (x : Made) (xs : List Made) (i : ℕ) (k : ℤ) (b : Bool) → place_in xs k ≤ i → cond b (suc (place_in xs k)) 0 ≤ suc i
before_cases x xs i k true h = omega arith
before_cases x xs i k false h = omega arith

pub place_before : (xs : List Made) (i : ℕ) (d : Made) (k : ℤ) → i < length xs → int_lt (get_or xs i d).number k ≡ false → place_in xs k ≤ i
place_before [] i d k h e = absurd (omega arith)
place_before (x ∷ xs) zero d k h e = rw e (omega arith)
place_before (x ∷ xs) (suc i) d k h e = before_cases x xs i k (int_lt x.number k) (place_before xs i d k (omega arith) e)

pub place_within : (xs : List Made) (k : ℤ) → place_in xs k ≤ length xs
place_within [] k = omega arith
place_within (x ∷ xs) k = within_cases (int_lt x.number k) (place_within xs k)
  where
    within_cases : (b : Bool) → place_in xs k ≤ length xs → cond b (suc (place_in xs k)) 0 ≤ suc (length xs)
    within_cases true h = omega arith
    within_cases false h = omega arith

-- nothing is found below the least number
pub none_above : (c k : ℤ) (xs : List Made) → int_lt c k ≡ false → Above c xs → found k xs ≡ None
none_above c k [] h a = refl
none_above c k (x ∷ xs) h a =
    let other : int_eq x.number k ≡ false = gt_not_eq k x.number (lt_all k c x.number h a.0) in
    rw other (none_above c k xs h a.1)

pub found_at : (xs : List Made) (k : ℤ) (d : Made) → place_in xs k < length xs → int_eq (get_or xs (place_in xs k) d).number k ≡ true → found k xs ≡ Some (get_or xs (place_in xs k) d).place
found_at [] k d h e = absurd (omega arith)
found_at (x ∷ xs) k d h e = at_cases (int_lt x.number k) refl h e (found_at xs k d)
  where
    at_cases : (b : Bool) → int_lt x.number k ≡ b → cond b (suc (place_in xs k)) 0 < suc (length xs) → int_eq (get_or (x ∷ xs) (cond b (suc (place_in xs k)) 0) d).number k ≡ true → (place_in xs k < length xs → int_eq (get_or xs (place_in xs k) d).number k ≡ true → found k xs ≡ Some (get_or xs (place_in xs k) d).place) → found k (x ∷ xs) ≡ Some (get_or (x ∷ xs) (cond b (suc (place_in xs k)) 0) d).place
    at_cases true b h e rest = let other : int_eq x.number k ≡ false = lt_not_eq x.number k b in rw other (rest (omega arith) e)
    at_cases false b h e rest = rw e refl

pub not_found : (xs : List Made) (k : ℤ) (d : Made) → Ascends xs → (place_in xs k < length xs → int_eq (get_or xs (place_in xs k) d).number k ≡ false) → found k xs ≡ None
not_found [] k d a e = refl
not_found (x ∷ xs) k d a e = not_cases (int_lt x.number k) refl e (not_found xs k d a.1)
  where
    not_cases : (b : Bool) → int_lt x.number k ≡ b → (cond b (suc (place_in xs k)) 0 < suc (length xs) → int_eq (get_or (x ∷ xs) (cond b (suc (place_in xs k)) 0) d).number k ≡ false) → ((place_in xs k < length xs → int_eq (get_or xs (place_in xs k) d).number k ≡ false) → found k xs ≡ None) → found k (x ∷ xs) ≡ None
    not_cases true b e rest = let other : int_eq x.number k ≡ false = lt_not_eq x.number k b in rw other (rest (λ h. e (omega arith)))
    not_cases false b e rest = let other : int_eq x.number k ≡ false = e (omega arith) in rw other (none_above x.number k xs b a.0)

last_at : (k : ℤ) (m : Made) (xs : List Made) (d : Made) → last_below k m.number xs ≡ (get_or (m ∷ xs) (place_in xs k) d).number
last_at k m [] d = refl
last_at k m (x ∷ xs) d = last_cases (int_lt x.number k) (last_at k x xs d)
  where
    last_cases : (b : Bool) → last_below k x.number xs ≡ (get_or (x ∷ xs) (place_in xs k) d).number → cond b (last_below k x.number xs) m.number ≡ (get_or (m ∷ x ∷ xs) (cond b (suc (place_in xs k)) 0) d).number
    last_cases true h = h
    last_cases false h = refl

pub below_none : (xs : List Made) (k : ℤ) → place_in xs k ≡ 0 → below_in k xs ≡ None
below_none [] k h = refl
below_none (x ∷ xs) k h = none_cases (int_lt x.number k) h
  where
    none_cases : (b : Bool) → cond b (suc (place_in xs k)) 0 ≡ 0 → cond b (Some (last_below k x.number xs)) None ≡ None
    none_cases true h = absurd (omega arith)
    none_cases false h = refl

pub below_at : (xs : List Made) (k : ℤ) (d : Made) → 0 < place_in xs k → below_in k xs ≡ Some (get_or xs (place_in xs k - 1) d).number
below_at [] k d h = absurd (omega arith)
below_at (x ∷ xs) k d h = at_cases (int_lt x.number k) h
  where
    at_cases : (b : Bool) → 0 < cond b (suc (place_in xs k)) 0 → cond b (Some (last_below k x.number xs)) None ≡ Some (get_or (x ∷ xs) (cond b (suc (place_in xs k)) 0 - 1) d).number
    at_cases true h =
        let one : suc (place_in xs k) - 1 ≡ place_in xs k = omega arith in
        ap Some (last_at k x xs d ∙ ap (λ i. (get_or (x ∷ xs) i d).number) (sym one))
    at_cases false h = absurd (omega arith)

pub above_none : (xs : List Made) (k : ℤ) → length xs ≤ place_in xs k → above_in k xs ≡ None
above_none [] k h = refl
above_none (x ∷ xs) k h = none_cases (int_lt x.number k) refl h (above_none xs k)
  where
    none_cases : (b : Bool) → int_lt x.number k ≡ b → suc (length xs) ≤ cond b (suc (place_in xs k)) 0 → (length xs ≤ place_in xs k → above_in k xs ≡ None) → above_in k (x ∷ xs) ≡ None
    none_cases true b h rest = let other : int_lt k x.number ≡ false = lt_not_lt x.number k b in rw other (rest (omega arith))
    none_cases false b h rest = absurd (omega arith)

pub above_here : (xs : List Made) (k : ℤ) (d : Made) → place_in xs k < length xs → int_lt k (get_or xs (place_in xs k) d).number ≡ true → above_in k xs ≡ Some (get_or xs (place_in xs k) d).number
above_here [] k d h e = absurd (omega arith)
above_here (x ∷ xs) k d h e = here_cases (int_lt x.number k) refl h e (above_here xs k d)
  where
    here_cases : (b : Bool) → int_lt x.number k ≡ b → cond b (suc (place_in xs k)) 0 < suc (length xs) → int_lt k (get_or (x ∷ xs) (cond b (suc (place_in xs k)) 0) d).number ≡ true → (place_in xs k < length xs → int_lt k (get_or xs (place_in xs k) d).number ≡ true → above_in k xs ≡ Some (get_or xs (place_in xs k) d).number) → above_in k (x ∷ xs) ≡ Some (get_or (x ∷ xs) (cond b (suc (place_in xs k)) 0) d).number
    here_cases true b h e rest = let other : int_lt k x.number ≡ false = lt_not_lt x.number k b in rw other (rest (omega arith) e)
    here_cases false b h e rest = rw e refl

all_above : (k : ℤ) (xs : List Made) (d : Made) → Above k xs → 0 < length xs → above_in k xs ≡ Some (get_or xs 0 d).number
all_above k [] d a h = absurd (omega arith)
all_above k (x ∷ xs) d a h = let first : int_lt k x.number ≡ true = a.0 in rw first refl

pub above_next : (xs : List Made) (k : ℤ) (d : Made) → Ascends xs → place_in xs k + 1 < length xs → int_lt k (get_or xs (place_in xs k) d).number ≡ false → above_in k xs ≡ Some (get_or xs (place_in xs k + 1) d).number
above_next [] k d a h e = absurd (omega arith)
above_next (x ∷ xs) k d a h e = next_cases (int_lt x.number k) refl h e (above_next xs k d a.1)
  where
    next_cases : (b : Bool) → int_lt x.number k ≡ b → cond b (suc (place_in xs k)) 0 + 1 < suc (length xs) → int_lt k (get_or (x ∷ xs) (cond b (suc (place_in xs k)) 0) d).number ≡ false → (place_in xs k + 1 < length xs → int_lt k (get_or xs (place_in xs k) d).number ≡ false → above_in k xs ≡ Some (get_or xs (place_in xs k + 1) d).number) → above_in k (x ∷ xs) ≡ Some (get_or (x ∷ xs) (cond b (suc (place_in xs k)) 0 + 1) d).number
    next_cases true b h e rest =
        let other : int_lt k x.number ≡ false = lt_not_lt x.number k b in
        let one : suc (place_in xs k) + 1 ≡ suc (place_in xs k + 1) = omega arith in
        rw other (rest (omega arith) e ∙ ap (λ i. Some (get_or (x ∷ xs) i d).number) (sym one))
    next_cases false b h e rest = rw e (all_above k xs d (above_less k x.number xs b a.0) (omega arith))

pub above_end : (xs : List Made) (k : ℤ) (d : Made) → place_in xs k + 1 ≡ length xs → int_lt k (get_or xs (place_in xs k) d).number ≡ false → above_in k xs ≡ None
above_end [] k d h e = refl
above_end (x ∷ xs) k d h e = end_cases (int_lt x.number k) refl h e (above_end xs k d)
  where
    short : (ys : List Made) → 1 ≡ suc (length ys) → above_in k ys ≡ None
    short [] h = refl
    short (y ∷ ys) h = absurd (omega arith)

    end_cases : (b : Bool) → int_lt x.number k ≡ b → cond b (suc (place_in xs k)) 0 + 1 ≡ suc (length xs) → int_lt k (get_or (x ∷ xs) (cond b (suc (place_in xs k)) 0) d).number ≡ false → (place_in xs k + 1 ≡ length xs → int_lt k (get_or xs (place_in xs k) d).number ≡ false → above_in k xs ≡ None) → above_in k (x ∷ xs) ≡ None
    end_cases true b h e rest = let other : int_lt k x.number ≡ false = lt_not_lt x.number k b in rw other (rest (omega arith) e)
    end_cases false b h e rest = rw e (short xs (omega arith))

-- the literal with this number and place
abbrev pub new_made : ℤ → ℕ → Made
new_made k place = record { number = k; place = place }

apart : true ≡ false → ⊥
apart e = cc

pub insert-placed : (xs : List Made) (k : ℤ) (place : ℕ) → found k xs ≡ None → insert xs (place_in xs k) (new_made k place) ≡ placed k place xs
insert-placed [] k place h = refl
insert-placed (x ∷ xs) k place h = insert_cases (int_lt x.number k) (int_eq x.number k) refl refl h (insert-placed xs k place)
  where
    insert_cases : (b e : Bool) → int_lt x.number k ≡ b → int_eq x.number k ≡ e → cond e (Some x.place) (found k xs) ≡ None → (found k xs ≡ None → insert xs (place_in xs k) (new_made k place) ≡ placed k place xs) → insert (x ∷ xs) (cond b (suc (place_in xs k)) 0) (new_made k place) ≡ cond b (x ∷ placed k place xs) (cond e (x ∷ xs) (new_made k place ∷ x ∷ xs))
    insert_cases true true b e h rest = absurd (apart (sym e ∙ lt_not_eq x.number k b))
    insert_cases true false b e h rest = ap (λ ys. x ∷ ys) (rest h)
    insert_cases false true b e h rest = cc
    insert_cases false false b e h rest = refl

above_placed : (c : ℤ) (xs : List Made) (k : ℤ) (place : ℕ) → Above c xs → int_lt c k ≡ true → Above c (placed k place xs)
above_placed c [] k place a h = (h, tt)
above_placed c (x ∷ xs) k place a h = elim (int_lt x.number k) as (λ b. Above c (cond b (x ∷ placed k place xs) (cond (int_eq x.number k) (x ∷ xs) (new_made k place ∷ x ∷ xs)))) [
  | true ↦ (a.0, above_placed c xs k place a.1 h)
  | false ↦ elim (int_eq x.number k) as (λ b. Above c (cond b (x ∷ xs) (new_made k place ∷ x ∷ xs))) [ true ↦ a | false ↦ (h, a) ]
]

placed_cases : (x : Made) (xs : List Made) (k : ℤ) (place : ℕ) (b e : Bool) → int_lt x.number k ≡ b → int_eq x.number k ≡ e → Ascends (x ∷ xs) → Ascends (placed k place xs) → Ascends (cond b (x ∷ placed k place xs) (cond e (x ∷ xs) (new_made k place ∷ x ∷ xs)))
placed_cases x xs k place true e hb he a rest = (above_placed x.number xs k place a.0 hb, rest)
placed_cases x xs k place false true hb he a rest = a
placed_cases x xs k place false false hb he a rest = let less : int_lt k x.number ≡ true = lt_other x.number k hb he in ((less, above_less k x.number xs (lt_not_lt k x.number less) a.0), a)

pub ascends_placed : (xs : List Made) (k : ℤ) (place : ℕ) → Ascends xs → Ascends (placed k place xs)
ascends_placed [] k place a = (tt, tt)
ascends_placed (x ∷ xs) k place a = placed_cases x xs k place (int_lt x.number k) (int_eq x.number k) refl refl a (ascends_placed xs k place a.1)

-- the first of two answers
abbrev pub first_some : Option ℕ → Option ℕ → Option ℕ
first_some None o = o
first_some (Some n) o = Some n

pub first_some-none : (o : Option ℕ) → first_some o None ≡ o
first_some-none None = refl
first_some-none (Some n) = refl

found_cases : (x : Made) (xs : List Made) (j k : ℤ) (place : ℕ) (b e f g : Bool) → int_lt x.number k ≡ b → int_eq x.number k ≡ e → int_eq x.number j ≡ f → int_eq k j ≡ g → Ascends (x ∷ xs) → found j (placed k place xs) ≡ first_some (found j xs) (cond g (Some place) None) → found j (cond b (x ∷ placed k place xs) (cond e (x ∷ xs) (new_made k place ∷ x ∷ xs))) ≡ first_some (cond f (Some x.place) (found j xs)) (cond g (Some place) None)
found_cases x xs j k place true e true g hb he hf hg a rest = rw hf refl
found_cases x xs j k place true e false g hb he hf hg a rest = rw hf rest
found_cases x xs j k place false true true g hb he hf hg a rest = rw hf refl
found_cases x xs j k place false true false true hb he hf hg a rest = absurd (clash (sym hf ∙ between x.number k j he ∙ hg))
  where
    clash : false ≡ true → ⊥
    clash e = cc
found_cases x xs j k place false true false false hb he hf hg a rest = rw hf (sym (first_some-none (found j xs)))
found_cases x xs j k place false false f true hb he hf hg a rest =
    let less : int_lt k x.number ≡ true = lt_other x.number k hb he in
    let same : k ≡ j = eq_int k j hg in
    let above : int_lt j x.number ≡ true = ap (λ z. int_lt z x.number) (sym same) ∙ less in
    let here : f ≡ false = sym hf ∙ gt_not_eq j x.number above in
    let gone : found j xs ≡ None = none_above x.number j xs (lt_not_lt j x.number above) a.0 in
    rw (hg, here, gone) refl
found_cases x xs j k place false false f false hb he hf hg a rest = rw (hg, hf) (sym (first_some-none (cond f (Some x.place) (found j xs))))

pub found-placed : (xs : List Made) (j k : ℤ) (place : ℕ) → Ascends xs → found j (placed k place xs) ≡ first_some (found j xs) (cond (int_eq k j) (Some place) None)
found-placed [] j k place a = refl
found-placed (x ∷ xs) j k place a = found_cases x xs j k place (int_lt x.number k) (int_eq x.number k) (int_eq x.number j) (int_eq k j) refl refl refl refl a (found-placed xs j k place a.1)

-- the same read through a number as the program holds it
pub belongs : (list now : List Made) (k : ℤ) (at : ℕ) → FitsSigned w32 k → list ≡ now → at ≡ place_in list (to_z w32 (of_z w32 k)) → at ≡ place_in now k
belongs list now k at fits same e = e ∙ ap (place_in list) (to_z-of_z w32 k fits) ∙ ap (λ xs. place_in xs k) same

pub past_step : (xs : List Made) (i : ℕ) (d : Made) (k : ℤ) → FitsSigned w32 k → FitsSigned w32 (get_or xs i d).number → Ascends xs → i < length xs → int_lt (to_z w32 (of_z w32 (get_or xs i d).number)) (to_z w32 (of_z w32 k)) ≡ true → i + 1 ≤ place_in xs (to_z w32 (of_z w32 k))
past_step xs i d k fits holds a h e =
    let less : int_lt (get_or xs i d).number k ≡ true = sym (ap (λ z. int_lt z (to_z w32 (of_z w32 k))) (to_z-of_z w32 (get_or xs i d).number holds) ∙ ap (λ z. int_lt (get_or xs i d).number z) (to_z-of_z w32 k fits)) ∙ e in
    let past : suc i ≤ place_in xs k = place_past xs i d k a h less in
    let same : place_in xs (to_z w32 (of_z w32 k)) ≡ place_in xs k = ap (place_in xs) (to_z-of_z w32 k fits) in
    omega arith

pub before_step : (xs : List Made) (i : ℕ) (d : Made) (k : ℤ) → FitsSigned w32 k → FitsSigned w32 (get_or xs i d).number → i < length xs → int_lt (to_z w32 (of_z w32 (get_or xs i d).number)) (to_z w32 (of_z w32 k)) ≡ false → place_in xs (to_z w32 (of_z w32 k)) ≤ i
before_step xs i d k fits holds h e =
    let less : int_lt (get_or xs i d).number k ≡ false = sym (ap (λ z. int_lt z (to_z w32 (of_z w32 k))) (to_z-of_z w32 (get_or xs i d).number holds) ∙ ap (λ z. int_lt (get_or xs i d).number z) (to_z-of_z w32 k fits)) ∙ e in
    let before : place_in xs k ≤ i = place_before xs i d k h less in
    let same : place_in xs (to_z w32 (of_z w32 k)) ≡ place_in xs k = ap (place_in xs) (to_z-of_z w32 k fits) in
    omega arith

held : (k j : ℤ) → FitsSigned w32 k → FitsSigned w32 j → of_z w32 j ≡ of_z w32 k → j ≡ k
held k j fits holds e = sym (to_z-of_z w32 j holds) ∙ ap (to_z w32) e ∙ to_z-of_z w32 k fits

int_eq_refl : (k : ℤ) → int_eq k k ≡ true
int_eq_refl k = grind (arith, nat_tests, ints)

pub find_end : (xs : List Made) (k : ℤ) (at : ℕ) (d : Made) → Ascends xs → at ≡ place_in xs k → length xs ≤ at → None ≡ found k xs
find_end xs k at d a e h = sym (not_found xs k d a (λ l. absurd (omega arith)))

pub find_hit : (xs : List Made) (k : ℤ) (at : ℕ) (m : Made) → at ≡ place_in xs k → at < length xs → m ≡ get_or xs at m → FitsSigned w32 k → FitsSigned w32 m.number → of_z w32 m.number ≡ of_z w32 k → Some m.place ≡ found k xs
find_hit xs k at m e h item fits holds same =
    let here : m ≡ get_or xs (place_in xs k) m = item ∙ ap (λ i. get_or xs i m) e in
    let equal : int_eq (get_or xs (place_in xs k) m).number k ≡ true = ap (λ n. int_eq n.number k) (sym here) ∙ ap (λ z. int_eq z k) (held k m.number fits holds same) ∙ int_eq_refl k in
    ap (λ n. Some n.place) here ∙ sym (found_at xs k m (omega arith) equal)

pub find_miss : (xs : List Made) (k : ℤ) (at : ℕ) (m : Made) → Ascends xs → at ≡ place_in xs k → m ≡ get_or xs at m → (of_z w32 m.number ≡ of_z w32 k → ⊥) → None ≡ found k xs
find_miss xs k at m a e item differ =
    let here : m ≡ get_or xs (place_in xs k) m = item ∙ ap (λ i. get_or xs i m) e in
    sym (not_found xs k m a (λ h. ap (λ n. int_eq n.number k) (sym here) ∙ unequal (int_eq m.number k) refl))
  where
    unequal : (b : Bool) → int_eq m.number k ≡ b → int_eq m.number k ≡ false
    unequal true e = absurd (differ (ap (of_z w32) (eq_int m.number k e)))
    unequal false e = e

pub below_hit : (xs : List Made) (k : ℤ) (at : ℕ) (m : Made) → at ≡ place_in xs k → 0 < at → m ≡ get_or xs (at - 1) m → FitsSigned w32 m.number → Some (to_z w32 (of_z w32 m.number)) ≡ below_in k xs
below_hit xs k at m e h item holds = ap Some (to_z-of_z w32 m.number holds) ∙ ap (λ n. Some n.number) (item ∙ ap (λ i. get_or xs (i - 1) m) e) ∙ sym (below_at xs k m (omega arith))

pub above_hit : (xs : List Made) (k : ℤ) (at : ℕ) (m : Made) → at ≡ place_in xs k → at < length xs → m ≡ get_or xs at m → FitsSigned w32 k → FitsSigned w32 m.number → int_lt (to_z w32 (of_z w32 k)) (to_z w32 (of_z w32 m.number)) ≡ true → Some (to_z w32 (of_z w32 m.number)) ≡ above_in k xs
above_hit xs k at m e h item fits holds less =
    let here : m ≡ get_or xs (place_in xs k) m = item ∙ ap (λ i. get_or xs i m) e in
    let more : int_lt k (get_or xs (place_in xs k) m).number ≡ true = ap (λ n. int_lt k n.number) (sym here) ∙ sym (ap (λ z. int_lt z (to_z w32 (of_z w32 m.number))) (to_z-of_z w32 k fits) ∙ ap (λ z. int_lt k z) (to_z-of_z w32 m.number holds)) ∙ less in
    ap Some (to_z-of_z w32 m.number holds) ∙ ap (λ n. Some n.number) here ∙ sym (above_here xs k m (omega arith) more)

not_more : (xs : List Made) (k : ℤ) (at : ℕ) (m : Made) → at ≡ place_in xs k → m ≡ get_or xs at m → FitsSigned w32 k → FitsSigned w32 m.number → int_lt (to_z w32 (of_z w32 k)) (to_z w32 (of_z w32 m.number)) ≡ false → int_lt k (get_or xs (place_in xs k) m).number ≡ false
not_more xs k at m e item fits holds less = ap (λ n. int_lt k n.number) (sym (item ∙ ap (λ i. get_or xs i m) e)) ∙ sym (ap (λ z. int_lt z (to_z w32 (of_z w32 m.number))) (to_z-of_z w32 k fits) ∙ ap (λ z. int_lt k z) (to_z-of_z w32 m.number holds)) ∙ less

pub above_last : (xs : List Made) (k : ℤ) (at : ℕ) (m : Made) → at ≡ place_in xs k → at + 1 ≡ length xs → m ≡ get_or xs at m → FitsSigned w32 k → FitsSigned w32 m.number → int_lt (to_z w32 (of_z w32 k)) (to_z w32 (of_z w32 m.number)) ≡ false → None ≡ above_in k xs
above_last xs k at m e h item fits holds less = sym (above_end xs k m (omega arith) (not_more xs k at m e item fits holds less))

pub above_after : (xs : List Made) (k : ℤ) (at : ℕ) (m n : Made) → Ascends xs → at ≡ place_in xs k → at + 1 < length xs → m ≡ get_or xs at m → n ≡ get_or xs (at + 1) n → FitsSigned w32 k → FitsSigned w32 m.number → FitsSigned w32 n.number → int_lt (to_z w32 (of_z w32 k)) (to_z w32 (of_z w32 m.number)) ≡ false → Some (to_z w32 (of_z w32 n.number)) ≡ above_in k xs
above_after xs k at m n a e h item next fits holds fine less =
    let there : n ≡ get_or xs (place_in xs k + 1) m = next ∙ ap (λ i. get_or xs (i + 1) n) e ∙ get_or_default xs (place_in xs k + 1) n m (omega arith) in
    ap Some (to_z-of_z w32 n.number fine) ∙ ap (λ o. Some o.number) there ∙ sym (above_next xs k m a (omega arith) (not_more xs k at m e item fits holds less))

pub insert_at : (xs ys : List Made) (k : ℤ) (place at : ℕ) → FitsSigned w32 k → at ≡ place_in xs k → found k xs ≡ None → ys ≡ insert xs at (new_made (to_z w32 (of_z w32 k)) place) → ys ≡ placed k place xs
insert_at xs ys k place at fits e h made = made ∙ ap (λ z. insert xs at (new_made z place)) (to_z-of_z w32 k fits) ∙ ap (λ i. insert xs i (new_made k place)) e ∙ insert-placed xs k place h
