-- The sum over the tallies of a choice is the number of different atoms that it takes.
use Rattle.std.proofs.Common.{◌≡◌, ℕ, zero, suc, ◌+◌, ◌<◌, ◌≤◌, Bool, true, false, cond, if◌then◌else◌, ◌&&◌, ◌||◌, ◌==◌, ◌⊎◌, inl, inr, List, [], ◌∷◌, map, length, refl, sym, ◌∙◌, ap, ap₂, true≢false, eqb-true, ℤ, pos, ◌+ℤ◌, ◌*ℤ◌, Some, slice_get, arith}
use Rattle.std.specs.List.{AllByRecursion, filter, list_any, range_with_len}
use Rattle.std.proofs.lemmas.Bool.Decides.{nat_tests}
use Rattle.std.proofs.lemmas.Int.{ints}
use Rattle.ground_model.specs.declared.rule.ChoiceItem.{ChoiceItem}
use Rattle.ground_model.specs.Answers.{IsNumbered}
use Rattle.ground_model.specs.Duties.{with_once, is_taken, chosen}
use Rattle.ground_model.specs.World.{World}
use Rattle.ground_model.proofs.Bools.{and_elim, and_intro, bool_cases, same_test}
use Rattle.linear_normal.specs.Contents.{Term, Counted}
use Rattle.linear_normal.specs.Bodies.{numbers_with, selections}
use Rattle.linear_normal.proofs.SumLemmas.{terms_value}

one_times : pos 1 *ℤ pos 1 ≡ pos 1
one_times = refl

none_times : pos 1 *ℤ pos 0 ≡ pos 0
none_times = refl

zero_plus : (k : ℕ) → 0 + k ≡ k
zero_plus k = omega arith

-- how many of n numbers from a on pass
abbrev count : (ℕ → Bool) → ℕ → ℕ → ℕ
count test a zero = 0
count test a (suc n) = cond (test a) 1 0 + count test (a + 1) n

count_same : (f g : ℕ → Bool) → ((x : ℕ) → f x ≡ g x) → (a n : ℕ) → count f a n ≡ count g a n
count_same f g h a zero = refl
count_same f g h a (suc n) = ap₂ (λ b k. cond b 1 0 + k) (h a) (count_same f g h (a + 1) n)

count_above : (y : ℕ) (test : ℕ → Bool) (a n : ℕ) → y < a → count (λ x. (y == x) || test x) a n ≡ count test a n
count_above y test a zero h = refl
count_above y test a (suc n) h = ap₂ (λ b k. cond (b || test a) 1 0 + k) (differ y a h) (count_above y test (a + 1) n (omega (arith, h)))
  where
    differ : (y a : ℕ) → y < a → (y == a) ≡ false
    differ y a h = grind (arith, nat_tests, h)

count_more : (y : ℕ) (test : ℕ → Bool) → test y ≡ false → (a n : ℕ) → a ≤ y → y < a + n → count (λ x. (y == x) || test x) a n ≡ suc (count test a n)
count_more y test none a zero h k = absurd (omega (arith, h, k))
count_more y test none a (suc n) h k = go (bool_cases (y == a)) (count_more y test none (a + 1) n)
  where
    beyond : (y a : ℕ) → (y == a) ≡ false → a ≤ y → a + 1 ≤ y
    beyond y a e h = grind (arith, nat_tests, e, h)

    go : ((y == a) ≡ true) ⊎ ((y == a) ≡ false) → (a + 1 ≤ y → y < (a + 1) + n → count (λ x. (y == x) || test x) (a + 1) n ≡ suc (count test (a + 1) n))
        → cond ((y == a) || test a) 1 0 + count (λ x. (y == x) || test x) (a + 1) n ≡ suc (cond (test a) 1 0 + count test (a + 1) n)
    go (inl e) rec =
        let f : y ≡ a = eqb-true y a e in
        let g : test a ≡ false = ap test (sym f) ∙ none in
        let s : count (λ x. (y == x) || test x) (a + 1) n ≡ count test (a + 1) n = count_above y test (a + 1) n (omega (arith, f)) in
        ap (λ b. cond (b || test a) 1 0 + count (λ x. (y == x) || test x) (a + 1) n) e ∙ ap (λ k. 1 + k) s ∙ one (count test (a + 1) n) (test a) g
      where
        one : (k : ℕ) (b : Bool) → b ≡ false → 1 + k ≡ suc (cond b 1 0 + k)
        one k true f = absurd (true≢false f)
        one k false f = omega arith
    go (inr e) rec =
        let s = rec (beyond y a e h) (omega (arith, k)) in
        ap₂ (λ b k. cond (b || test a) 1 0 + k) e s ∙ shift (cond (test a) 1 0) (count test (a + 1) n)
      where
        shift : (x y : ℕ) → x + suc y ≡ suc (x + y)
        shift x y = omega arith

-- some element with the atom is taken
abbrev pub any_taken : World → List ChoiceItem → ℕ → Bool
any_taken world items a = list_any (λ item. (item.atom == a) && is_taken world item) items

any_listed : (xs : List ℕ) (y a : ℕ) → (y == a) ≡ true → list_any (λ b. b == y) xs ≡ list_any (λ b. b == a) xs
any_listed xs y a e = ap (λ z. list_any (λ b. b == z) xs) (eqb-true y a e)

chosen_listed : (world : World) (items : List ChoiceItem) (a : ℕ) → list_any (λ b. b == a) (chosen world items) ≡ any_taken world items a
chosen_listed world [] a = refl
chosen_listed world (item ∷ items) a = go (is_taken world item) (list_any (λ b. b == item.atom) (chosen world items)) refl (bool_cases (item.atom == a)) (chosen_listed world items a)
  where
    go : (taken there : Bool) → list_any (λ b. b == item.atom) (chosen world items) ≡ there → ((item.atom == a) ≡ true) ⊎ ((item.atom == a) ≡ false)
        → list_any (λ b. b == a) (chosen world items) ≡ any_taken world items a
        → list_any (λ b. b == a) (with_once taken item.atom (chosen world items)) ≡ (((item.atom == a) && taken) || any_taken world items a)
    go false there t (inl e) rec = rec ∙ ap (λ x. (x && false) || any_taken world items a) (sym e)
    go false there t (inr e) rec = rec ∙ ap (λ x. (x && false) || any_taken world items a) (sym e)
    go true true t (inl e) rec =
        ap (λ x. list_any (λ b. b == a) (cond x (chosen world items) (item.atom ∷ chosen world items))) t
        ∙ sym (any_listed (chosen world items) item.atom a e) ∙ t ∙ ap (λ x. (x && true) || any_taken world items a) (sym e)
    go true true t (inr e) rec =
        ap (λ x. list_any (λ b. b == a) (cond x (chosen world items) (item.atom ∷ chosen world items))) t ∙ rec
        ∙ ap (λ x. (x && true) || any_taken world items a) (sym e)
    go true false t (inl e) rec =
        ap (λ x. list_any (λ b. b == a) (cond x (chosen world items) (item.atom ∷ chosen world items))) t
        ∙ ap (λ x. x || list_any (λ b. b == a) (chosen world items)) e ∙ ap (λ x. (x && true) || any_taken world items a) (sym e)
    go true false t (inr e) rec =
        ap (λ x. list_any (λ b. b == a) (cond x (chosen world items) (item.atom ∷ chosen world items))) t
        ∙ ap (λ x. x || list_any (λ b. b == a) (chosen world items)) e ∙ rec ∙ ap (λ x. (x && true) || any_taken world items a) (sym e)

count_chosen : (world : World) (atoms : ℕ) (items : List ChoiceItem) → AllByRecursion (λ item. IsNumbered atoms item.atom) items
    → count (any_taken world items) 1 atoms ≡ length (chosen world items)
count_chosen world atoms [] numbered = none 1 atoms
  where
    none : (a n : ℕ) → count (λ x. false) a n ≡ 0
    none a zero = refl
    none a (suc n) = zero_plus (count (λ x. false) (a + 1) n) ∙ none (a + 1) n
count_chosen world atoms (item ∷ items) numbered =
    go (is_taken world item) (list_any (λ b. b == item.atom) (chosen world items)) refl (count_chosen world atoms items numbered.1)
  where
    untaken : (x : Bool) (r : Bool) → ((x && false) || r) ≡ r
    untaken true r = refl
    untaken false r = refl

    taken_true : (x : Bool) (r : Bool) → ((x && true) || r) ≡ (x || r)
    taken_true true r = refl
    taken_true false r = refl

    already : (x : ℕ) → any_taken world items item.atom ≡ true → ((item.atom == x) || any_taken world items x) ≡ any_taken world items x
    already x t = by (bool_cases (item.atom == x))
      where
        by : ((item.atom == x) ≡ true) ⊎ ((item.atom == x) ≡ false) → ((item.atom == x) || any_taken world items x) ≡ any_taken world items x
        by (inl e) = ap (λ b. b || any_taken world items x) e ∙ sym (ap (any_taken world items) (sym (eqb-true item.atom x e)) ∙ t)
        by (inr e) = ap (λ b. b || any_taken world items x) e

    go : (taken there : Bool) → list_any (λ b. b == item.atom) (chosen world items) ≡ there → count (any_taken world items) 1 atoms ≡ length (chosen world items)
        → count (λ x. ((item.atom == x) && taken) || any_taken world items x) 1 atoms ≡ length (with_once taken item.atom (chosen world items))
    go false there t rec =
        count_same (λ x. ((item.atom == x) && false) || any_taken world items x) (any_taken world items) (λ x. untaken (item.atom == x) (any_taken world items x)) 1 atoms ∙ rec
    go true true t rec =
        count_same (λ x. ((item.atom == x) && true) || any_taken world items x) (any_taken world items)
        (λ x. taken_true (item.atom == x) (any_taken world items x) ∙ already x (sym (chosen_listed world items item.atom) ∙ t)) 1 atoms
        ∙ rec ∙ ap (λ b. length (cond b (chosen world items) (item.atom ∷ chosen world items))) (sym t)
    go true false t rec =
        count_same (λ x. ((item.atom == x) && true) || any_taken world items x) (λ x. (item.atom == x) || any_taken world items x)
        (λ x. taken_true (item.atom == x) (any_taken world items x)) 1 atoms
        ∙ count_more item.atom (any_taken world items) (sym (chosen_listed world items item.atom) ∙ t) 1 atoms (let a = numbered.0.above in omega (arith, a)) (let k = numbered.0.known in omega (arith, k))
        ∙ ap suc rec ∙ ap (λ b. length (cond b (chosen world items) (item.atom ∷ chosen world items))) (sym t)

-- TALLIES

module _ (tally : List ℕ → Bool) (value : ℕ → ℤ) where
  counted_value : (f : ℕ → List ℕ) (p : ℕ → Bool) (a n : ℕ)
      → terms_value tally value (map (λ bodies. Counted bodies (pos 1)) (map f (filter p (range_with_len a n)))) ≡ pos (count (λ x. p x && tally (f x)) a n)
  counted_value f p a zero = refl
  counted_value f p a (suc n) = go (p a) (tally (f a)) refl (counted_value f p (a + 1) n)
    where
      rest : List Term
      rest = map (λ bodies. Counted bodies (pos 1)) (map f (filter p (range_with_len (a + 1) n)))

      one_added : (s t : ℤ) (k : ℕ) → s ≡ pos 1 → t ≡ pos k → s +ℤ t ≡ pos (1 + k)
      one_added s t k e f = omega (arith, ints, e, f)

      none_added : (s t : ℤ) (k : ℕ) → s ≡ pos 0 → t ≡ pos k → s +ℤ t ≡ pos (0 + k)
      none_added s t k e f = omega (arith, ints, e, f)

      go : (b t : Bool) → tally (f a) ≡ t → terms_value tally value (map (λ bodies. Counted bodies (pos 1)) (map f (filter p (range_with_len (a + 1) n)))) ≡ pos (count (λ x. p x && tally (f x)) (a + 1) n)
          → terms_value tally value (map (λ bodies. Counted bodies (pos 1)) (map f (cond b (a ∷ filter p (range_with_len (a + 1) n)) (filter p (range_with_len (a + 1) n)))))
          ≡ pos (cond (b && tally (f a)) 1 0 + count (λ x. p x && tally (f x)) (a + 1) n)
      go true true t rec =
          one_added (pos 1 *ℤ (if tally (f a) then pos 1 else pos 0)) (terms_value tally value (map (λ bodies. Counted bodies (pos 1)) (map f (filter p (range_with_len (a + 1) n)))))
          (count (λ x. p x && tally (f x)) (a + 1) n) (ap (λ b. pos 1 *ℤ cond b (pos 1) (pos 0)) t ∙ one_times) rec
          ∙ ap (λ b. pos (cond b 1 0 + count (λ x. p x && tally (f x)) (a + 1) n)) (sym t)
      go true false t rec =
          none_added (pos 1 *ℤ (if tally (f a) then pos 1 else pos 0)) (terms_value tally value (map (λ bodies. Counted bodies (pos 1)) (map f (filter p (range_with_len (a + 1) n)))))
          (count (λ x. p x && tally (f x)) (a + 1) n) (ap (λ b. pos 1 *ℤ cond b (pos 1) (pos 0)) t ∙ none_times) rec
          ∙ ap (λ b. pos (cond b 1 0 + count (λ x. p x && tally (f x)) (a + 1) n)) (sym t)
      go false s t rec = rec ∙ ap pos (sym (zero_plus (count (λ x. p x && tally (f x)) (a + 1) n)))

-- the tally of an atom is true where some element with it is taken
module _ (world : World) (body : ℕ → Bool) where
  tally_taken : (n : ℕ) (items : List ChoiceItem) (a : ℕ) → ((j : ℕ) (item : ChoiceItem) → slice_get items j ≡ Some item → body (n + j) ≡ is_taken world item)
      → list_any body (numbers_with n items a) ≡ any_taken world items a
  tally_taken n [] a h = refl
  tally_taken n (item ∷ items) a h = go (item.atom == a) (tally_taken (n + 1) items a (λ j other e. ap body (shift j) ∙ h (suc j) other e))
    where
      shift : (j : ℕ) → (n + 1) + j ≡ n + suc j
      shift j = omega arith

      zero_more : n ≡ n + 0
      zero_more = omega arith

      go : (b : Bool) → list_any body (numbers_with (n + 1) items a) ≡ any_taken world items a
          → list_any body (cond b (n ∷ numbers_with (n + 1) items a) (numbers_with (n + 1) items a)) ≡ ((b && is_taken world item) || any_taken world items a)
      go true rec = ap₂ ◌||◌ (ap body zero_more ∙ h 0 item refl) rec
      go false rec = rec

  any_atom : (items : List ChoiceItem) (a : ℕ) → (list_any (λ item. item.atom == a) items && any_taken world items a) ≡ any_taken world items a
  any_atom items a = same_test (list_any (λ item. item.atom == a) items && any_taken world items a) (any_taken world items a)
      (λ e. (and_elim (list_any (λ item. item.atom == a) items) (any_taken world items a) e).1)
      (λ e. and_intro (list_any (λ item. item.atom == a) items) (any_taken world items a) (there items e) e)
    where
      there : (xs : List ChoiceItem) → any_taken world xs a ≡ true → list_any (λ item. item.atom == a) xs ≡ true
      there [] e = e
      there (x ∷ xs) e = pick (x.atom == a) (is_taken world x) e (there xs)
        where
          pick : (b t : Bool) → ((b && t) || any_taken world xs a) ≡ true → (any_taken world xs a ≡ true → list_any (λ item. item.atom == a) xs ≡ true) → (b || list_any (λ item. item.atom == a) xs) ≡ true
          pick true t e rec = refl
          pick false t e rec = rec e

  pub selections_value : (value : ℕ → ℤ) (atoms first : ℕ) (items : List ChoiceItem) → AllByRecursion (λ item. IsNumbered atoms item.atom) items
      → ((j : ℕ) (item : ChoiceItem) → slice_get items j ≡ Some item → body ((first + 1 + length items) + j) ≡ is_taken world item)
      → terms_value (list_any body) value (map (λ bodies. Counted bodies (pos 1)) (selections atoms first items)) ≡ pos (length (chosen world items))
  selections_value value atoms first items numbered h =
      counted_value (list_any body) value (numbers_with (first + 1 + length items) items) (λ a. list_any (λ item. item.atom == a) items) 1 atoms
      ∙ ap pos (count_same (λ a. list_any (λ item. item.atom == a) items && list_any body (numbers_with (first + 1 + length items) items a)) (any_taken world items)
      (λ a. ap (λ b. list_any (λ item. item.atom == a) items && b) (tally_taken (first + 1 + length items) items a h) ∙ any_atom items a) 1 atoms
      ∙ count_chosen world atoms items numbered)
