-- The flags that are set are as many as the numbers that pass the test, and the sums of variables decide for all of them.
use Rattle.std.proofs.Common.{◌≡◌, ◌⊎◌, inl, inr, ◌<◌, ◌≤◌, ◌^◌, ◌+◌, ◌-◌, ℕ, zero, suc, Bool, true, false, cond, ◌&&◌, ◌||◌, ◌==◌, nat_le, ℤ, pos, ◌+ℤ◌, ◌-ℤ◌, int_le, unsigned_abs, List, [], ◌∷◌, filter, length, slice_index_or, refl, sym, ◌∙◌, ap, ap₂, subst, true≢false, eqb-true, arith}
use Rattle.std.proofs.lemmas.Int.{ints}
use Rattle.std.specs.List.{AllByRecursion, list_all, range_with_len}
use Rattle.ground_model.specs.declared.linear.Linear.{Linear}
use Rattle.ground_model.specs.declared.linear.Place.{Place}
use Rattle.ground_model.specs.Members.{IsMember}
use Rattle.ground_model.specs.Sound.{is_small, most, coefficient, total_coefficient, total_constant, is_small_difference, occurs, first_places, is_sound_linear, are_sound_pairs, are_known, is_sound_place}
use Rattle.ground_model.specs.Sizes.{IsSoundPair, IsSizedLinear, AreSizedPlaces}
use Rattle.ground_model.proofs.Bools.{and_elim, and_intro, or_left, bool_cases, same_test}
use Rattle.ground_model.proofs.MemberLemmas.{same_nat, member_any, all_member, all_from_members, property_member, property_from_members, property_map}
use Rattle.ground_model.proofs.SizeLemmas.{sound_pairs}
use Rattle.ground_parts.specs.inner.Totals.{names, set_flags, flag_of, sum_at, HavePlaces, AllHavePlaces, AreWithin, AreUnset, AreZero, differ_little, pairs_differ_little, places_differ_little, HasSmallConstant, HasSmallNumbers}

-- COUNTS

pub unset_none : (flags : List Bool) → AreUnset flags → set_flags flags ≡ 0
unset_none [] unset = refl
unset_none (true ∷ flags) unset = absurd (true≢false (unset 0))
unset_none (false ∷ flags) unset = unset_none flags (λ x. unset (suc x))

flags_passing : (flags : List Bool) (test : ℕ → Bool) (first : ℕ) → ((k : ℕ) → slice_index_or flags k false ≡ test (first + k))
    → length (filter test (range_with_len first (length flags))) ≡ set_flags flags
flags_passing [] test first is = refl
flags_passing (flag ∷ flags) test first is = go (test first) flag (here ∙ ap test (omega arith)) (flags_passing flags test (first + 1) later)
  where
    here : flag ≡ test (first + 0)
    here = is 0

    later : (k : ℕ) → slice_index_or flags k false ≡ test ((first + 1) + k)
    later k = let s : first + suc k ≡ (first + 1) + k = omega arith in is (suc k) ∙ ap test s

    go : (t f : Bool) → f ≡ t → length (filter test (range_with_len (first + 1) (length flags))) ≡ set_flags flags
        → length (cond t (first ∷ filter test (range_with_len (first + 1) (length flags))) (filter test (range_with_len (first + 1) (length flags)))) ≡ cond f (suc (set_flags flags)) (set_flags flags)
    go true true e s = ap suc s
    go true false e s = absurd (true≢false (sym e))
    go false true e s = absurd (true≢false e)
    go false false e s = s

pub counted : (flags marked : List Bool) (test : ℕ → Bool) (count : ℕ) → 0 < length flags → length marked ≡ length flags → AreUnset flags
    → ((x : ℕ) → flag_of marked x ≡ (test x || flag_of flags x)) → set_flags marked ≡ set_flags flags + count → test 0 ≡ false
    → length (filter test (range_with_len 1 (length flags - 1))) ≡ count
counted flags [] test count some size unset is counts first = absurd (omega arith)
counted flags (flag ∷ marked) test count some size unset is counts first =
    let n : length marked ≡ length flags - 1 = omega arith in
    let s = flags_passing marked test 1 (λ k. let e : suc k ≡ 1 + k = omega arith in alone (suc k) (is (suc k)) ∙ ap test e) in
    let f : flag ≡ false = alone 0 (is 0) ∙ first in
    let none = unset_none flags unset in
    let c : set_flags (flag ∷ marked) ≡ count = omega arith in
    subst (λ m. length (filter test (range_with_len 1 m)) ≡ count) n (s ∙ subst (λ g. set_flags (g ∷ marked) ≡ count) f c)
  where
    plain : (a b : Bool) → b ≡ false → (a || b) ≡ a
    plain true b e = refl
    plain false b e = e

    alone : (x : ℕ) {f : Bool} → f ≡ (test x || flag_of flags x) → f ≡ test x
    alone x e = e ∙ plain (test x) (flag_of flags x) (unset x)

-- VARIABLES

pub no_name_below : (n : ℕ) (pairs : List (ℕ × ℤ)) → AllByRecursion (IsSoundPair n) pairs → names pairs 0 ≡ false
no_name_below n [] sound = refl
no_name_below n (pair ∷ pairs) sound = let above = sound.0.above in go (pair.0 == 0) refl above (no_name_below n pairs sound.1)
  where
    go : (t : Bool) → (pair.0 == 0) ≡ t → 0 < pair.0 → names pairs 0 ≡ false → (t || names pairs 0) ≡ false
    go true e above rest = let s : pair.0 ≡ 0 = eqb-true pair.0 0 e in absurd (omega arith)
    go false e above rest = rest

pub none_occurs_below : (n : ℕ) (places : List Place) → AllHavePlaces n places → occurs (first_places places) 0 ≡ false
none_occurs_below n [] sound = refl
none_occurs_below n (place ∷ places) sound = rw (no_name_below (n - 1) place.linear.pairs sound.0) (none_occurs_below n places sound.1)

pub none_occurs_with : (n : ℕ) (linear : Linear) (places : List Place) → HavePlaces n linear.pairs → AllHavePlaces n places → occurs (linear ∷ first_places places) 0 ≡ false
none_occurs_with n linear places have all = rw (no_name_below (n - 1) linear.pairs have) (none_occurs_below n places all)

pub same_few : (test : ℕ → Bool) (n count : ℕ) (few : Bool) → length (filter test (range_with_len 1 n)) ≡ count → few ≡ nat_le count 65536
    → few ≡ nat_le (length (filter test (range_with_len 1 n))) most
same_few test n count few e is = is ∙ ap (λ m. nat_le m 65536) (sym e)

-- SOUND TERMS HAVE PLACES

pub linear_has : (variables : ℕ) (linear : Linear) → is_sound_linear variables linear ≡ true → (size : ℕ) → size ≡ variables + 1 → HavePlaces size linear.pairs
linear_has variables linear sound size is =
    let p = and_elim (are_sound_pairs variables 0 linear.pairs) (is_small linear.constant) sound in
    let n : variables ≡ size - 1 = omega arith in
    subst (λ v. AllByRecursion (IsSoundPair v) linear.pairs) n (sound_pairs variables 0 linear.pairs p.0)

pub sound_places_have : (symbols variables : ℕ) (places : List Place) → list_all (is_sound_place symbols variables) places ≡ true
    → (size : ℕ) → size ≡ variables + 1 → AllHavePlaces size places
sound_places_have symbols variables places sound size is = property_from_members (λ place. HavePlaces size place.linear.pairs) places have
  where
    have : (place : Place) → IsMember places place → HavePlaces size place.linear.pairs
    have place m =
        let s = all_member (is_sound_place symbols variables) places place sound m in
        let p = and_elim (is_sound_linear variables place.linear && int_le (pos 0) place.duration) (are_known symbols place.rest) s in
        let q = and_elim (is_sound_linear variables place.linear) (int_le (pos 0) place.duration) p.0 in
        linear_has variables place.linear q.0 size is

pub sized_have : (n : ℕ) (places : List Place) → AreSizedPlaces (n - 1) places → AllHavePlaces n places
sized_have n places sized = property_map (λ place. IsSizedLinear (n - 1) place.linear) (λ place. HavePlaces n place.linear.pairs) (λ place s. s.pairs) places sized.each

pub sized_constants : (n : ℕ) (places : List Place) → AreSizedPlaces n places → AllByRecursion HasSmallConstant places
sized_constants n places sized = property_map (λ place. IsSizedLinear n place.linear) HasSmallConstant (λ place s. s.small) places sized.each

small_numbers : (n : ℕ) (linear : Linear) → IsSizedLinear n linear → HasSmallNumbers linear
small_numbers n linear sized = record {
  pairs = property_map (IsSoundPair n) (λ pair. unsigned_abs pair.1 < 2 ^ 62) (λ pair s. s.small) linear.pairs sized.pairs;
  few = sized.few;
  small = sized.small;
}

pub sized_numbers : (n : ℕ) (places : List Place) → AreSizedPlaces n places → AllByRecursion (λ place. HasSmallNumbers place.linear) places
sized_numbers n places sized = property_map (λ place. IsSizedLinear n place.linear) (λ place. HasSmallNumbers place.linear) (λ place s. small_numbers n place.linear s) places sized.each

-- VARIABLES THAT DO NOT OCCUR

pub absent_coefficient : (x : ℕ) (pairs : List (ℕ × ℤ)) → names pairs x ≡ false → coefficient x pairs ≡ pos 0
absent_coefficient x [] e = refl
absent_coefficient x (pair ∷ pairs) e = go (pair.0 == x) e (absent_coefficient x pairs)
  where
    go : (t : Bool) → (t || names pairs x) ≡ false → (names pairs x ≡ false → coefficient x pairs ≡ pos 0) → (cond t pair.1 (pos 0) +ℤ coefficient x pairs) ≡ pos 0
    go true e rec = absurd (true≢false e)
    go false e rec = let r = rec e in omega (arith, ints)

pub absent_total : (x : ℕ) (linears : List Linear) → occurs linears x ≡ false → total_coefficient x linears ≡ pos 0
absent_total x [] e = refl
absent_total x (linear ∷ linears) e = go (bool_cases (names linear.pairs x)) (absent_total x linears)
  where
    go : (names linear.pairs x ≡ true) ⊎ (names linear.pairs x ≡ false) → (occurs linears x ≡ false → total_coefficient x linears ≡ pos 0)
        → (coefficient x linear.pairs +ℤ total_coefficient x linears) ≡ pos 0
    go (inl t) rec = absurd (true≢false (sym (or_left (names linear.pairs x) (occurs linears x) t) ∙ e))
    go (inr f) rec =
        let r = rec (sym (ap (λ t. t || occurs linears x) f) ∙ e) in
        let s = absent_coefficient x linear.pairs f in
        omega (arith, ints)

pub zeroed : (places : List Place) (sums new : List ℤ) → ((x : ℕ) → sum_at sums x ≡ total_coefficient x (first_places places))
    → ((x : ℕ) → sum_at new x ≡ cond (occurs (first_places places) x) (pos 0) (sum_at sums x)) → AreZero new
zeroed places sums new is cleared x = cleared x ∙ go (occurs (first_places places) x) refl
  where
    go : (t : Bool) → occurs (first_places places) x ≡ t → cond t (pos 0) (sum_at sums x) ≡ pos 0
    go true e = refl
    go false e = is x ∙ absent_total x (first_places places) e

pub zeroed_linear : (linear : Linear) (clear sums new : List ℤ) → AreZero clear → ((x : ℕ) → sum_at sums x ≡ sum_at clear x +ℤ coefficient x linear.pairs)
    → ((x : ℕ) → sum_at new x ≡ cond (names linear.pairs x) (pos 0) (sum_at sums x)) → AreZero new
zeroed_linear linear clear sums new none is cleared x = cleared x ∙ go (names linear.pairs x) refl
  where
    go : (t : Bool) → names linear.pairs x ≡ t → cond t (pos 0) (sum_at sums x) ≡ pos 0
    go true e = refl
    go false e = let a = absent_coefficient x linear.pairs e in let b = none x in let c = is x in omega (arith, ints)

-- DIFFERENCES

abbrev pub list_little : List ℤ → List ℤ → List Linear → Bool
list_little left right linears = list_all (λ linear. pairs_differ_little left right linear.pairs) linears

pub places_little : (left right : List ℤ) (places : List Place) → places_differ_little left right places ≡ list_little left right (first_places places)
places_little left right [] = refl
places_little left right (place ∷ places) = ap (λ t. pairs_differ_little left right place.linear.pairs && t) (places_little left right places)

in_range : (first n x : ℕ) → first ≤ x → x < first + n → IsMember (range_with_len first n) x
in_range first zero x low high = absurd (omega arith)
in_range first (suc n) x low high = go (first == x) refl (in_range (first + 1) n x)
  where
    go : (t : Bool) → (first == x) ≡ t → (first + 1 ≤ x → x < (first + 1) + n → IsMember (range_with_len (first + 1) n) x) → IsMember (range_with_len first (suc n)) x
    go true e rec = let s : first ≡ x = eqb-true first x e in inl (sym s)
    go false e rec =
        let ne : first ≡ x → ⊥ = λ s. true≢false (sym (same_nat first x s) ∙ e) in
        inr (rec (omega arith) (omega arith))

module _ (n : ℕ) (lefts rights : List Linear) (left right : List ℤ)
    (left_is : (x : ℕ) → sum_at left x ≡ total_coefficient x lefts) (right_is : (x : ℕ) → sum_at right x ≡ total_coefficient x rights)
    (lefts_have : AllByRecursion (λ linear. AllByRecursion (IsSoundPair n) linear.pairs) lefts)
    (rights_have : AllByRecursion (λ linear. AllByRecursion (IsSoundPair n) linear.pairs) rights) where
  small_at : ℕ → Bool
  small_at x = is_small (total_coefficient x lefts -ℤ total_coefficient x rights)

  same_at : (x : ℕ) → differ_little left right x ≡ small_at x
  unfolding small_at
  same_at x = ap₂ (λ a b. is_small (a -ℤ b)) (left_is x) (right_is x)

  down : list_all small_at (range_with_len 1 n) ≡ true → (linears : List Linear) → AllByRecursion (λ linear. AllByRecursion (IsSoundPair n) linear.pairs) linears
      → list_little left right linears ≡ true
  down e linears have =
      all_from_members (λ linear. pairs_differ_little left right linear.pairs) linears
      (λ linear m. all_from_members (λ pair. differ_little left right pair.0) linear.pairs
      (λ pair k.
      let s = property_member (IsSoundPair n) linear.pairs pair (property_member (λ linear. AllByRecursion (IsSoundPair n) linear.pairs) linears linear have m) k in
      let above = s.above in
      let known = s.known in
      same_at pair.0 ∙ all_member small_at (range_with_len 1 n) pair.0 e (in_range 1 n pair.0 (omega arith) (omega arith))))

  named : (x : ℕ) (linears : List Linear) → list_little left right linears ≡ true → occurs linears x ≡ true → small_at x ≡ true
  named x linears e o =
      let l = member_any (λ linear. names linear.pairs x) linears o in
      let p = member_any (λ pair. pair.0 == x) l.0.pairs l.2 in
      let d = all_member (λ pair. differ_little left right pair.0) l.0.pairs p.0 (all_member (λ linear. pairs_differ_little left right linear.pairs) linears l.0 e l.1) p.1 in
      subst (λ y. small_at y ≡ true) (eqb-true p.0.0 x p.2) (sym (same_at p.0.0) ∙ d)

  up : list_little left right lefts ≡ true → list_little left right rights ≡ true → list_all small_at (range_with_len 1 n) ≡ true
  unfolding small_at
  up e f = all_from_members small_at (range_with_len 1 n) (λ x m. go x (bool_cases (occurs lefts x)) (bool_cases (occurs rights x)))
    where
      go : (x : ℕ) → (occurs lefts x ≡ true) ⊎ (occurs lefts x ≡ false) → (occurs rights x ≡ true) ⊎ (occurs rights x ≡ false) → small_at x ≡ true
      go x (inl a) b = named x lefts e a
      go x (inr a) (inl b) = named x rights f b
      go x (inr a) (inr b) = ap₂ (λ p q. is_small (p -ℤ q)) (absent_total x lefts a) (absent_total x rights b) ∙ refl

  pub little_everywhere : list_all (λ x. is_small (total_coefficient x lefts -ℤ total_coefficient x rights)) (range_with_len 1 n)
      ≡ (list_little left right lefts && list_little left right rights)
  unfolding small_at
  little_everywhere =
      same_test (list_all small_at (range_with_len 1 n)) (list_little left right lefts && list_little left right rights)
      (λ e. and_intro (list_little left right lefts) (list_little left right rights) (down e lefts lefts_have) (down e rights rights_have))
      (λ e. let p = and_elim (list_little left right lefts) (list_little left right rights) e in up p.0 p.1)

have_linears : (n : ℕ) (places : List Place) → AreSizedPlaces n places → AllByRecursion (λ linear. AllByRecursion (IsSoundPair n) linear.pairs) (first_places places)
have_linears n places sized = go places sized.each
  where
    go : (ps : List Place) → AllByRecursion (λ place. IsSizedLinear n place.linear) ps → AllByRecursion (λ linear. AllByRecursion (IsSoundPair n) linear.pairs) (first_places ps)
    go [] all = tt
    go (place ∷ ps) all = (all.0.pairs, go ps all.1)

pub objective_difference : (n : ℕ) (smaller larger : List Place) (left right : List ℤ) → AreSizedPlaces n smaller → AreSizedPlaces n larger
    → ((x : ℕ) → sum_at left x ≡ total_coefficient x (first_places smaller)) → ((x : ℕ) → sum_at right x ≡ total_coefficient x (first_places larger))
    → is_small_difference n (first_places smaller) (first_places larger)
    ≡ (places_differ_little left right smaller && places_differ_little left right larger && is_small (total_constant (first_places smaller) -ℤ total_constant (first_places larger)))
objective_difference n smaller larger left right one other left_is right_is =
    ap (λ t. t && is_small (total_constant (first_places smaller) -ℤ total_constant (first_places larger)))
    (little_everywhere n (first_places smaller) (first_places larger) left right left_is right_is (have_linears n smaller one) (have_linears n larger other)
    ∙ ap₂ ◌&&◌ (sym (places_little left right smaller)) (sym (places_little left right larger)))

pub relation_difference : (n : ℕ) (places : List Place) (linear : Linear) (left right zeros : List ℤ) → AreSizedPlaces n places → IsSizedLinear n linear → AreZero zeros
    → ((x : ℕ) → sum_at left x ≡ total_coefficient x (first_places places)) → ((x : ℕ) → sum_at right x ≡ sum_at zeros x +ℤ coefficient x linear.pairs)
    → is_small_difference n (first_places places) (linear ∷ [])
    ≡ (places_differ_little left right places && pairs_differ_little left right linear.pairs && is_small (total_constant (first_places places) -ℤ linear.constant))
relation_difference n places linear left right zeros one other none left_is right_is =
    ap₂ ◌&&◌
    (little_everywhere n (first_places places) (linear ∷ []) left right left_is total (have_linears n places one) (other.pairs, tt)
    ∙ ap₂ ◌&&◌ (sym (places_little left right places)) (alone (pairs_differ_little left right linear.pairs)))
    (ap (λ z. is_small (total_constant (first_places places) -ℤ z)) (plain linear.constant))
  where
    alone : (t : Bool) → (t && true) ≡ t
    alone true = refl
    alone false = refl

    plain : (z : ℤ) → z +ℤ pos 0 ≡ z
    plain z = omega (arith, ints)

    total : (x : ℕ) → sum_at right x ≡ total_coefficient x (linear ∷ [])
    total x = let a = none x in let b = right_is x in omega (arith, ints)

-- SIZES OF ARRAYS

pub sized_for : (size variables : ℕ) (places : List Place) → size ≡ variables + 1 → AreSizedPlaces variables places → AreSizedPlaces (size - 1) places
sized_for size variables places is sized = let n : variables ≡ size - 1 = omega arith in subst (λ v. AreSizedPlaces v places) n sized

pub sized_linear_for : (size variables : ℕ) (linear : Linear) → size ≡ variables + 1 → IsSizedLinear variables linear → IsSizedLinear (size - 1) linear
sized_linear_for size variables linear is sized = let n : variables ≡ size - 1 = omega arith in subst (λ v. IsSizedLinear v linear) n sized

pub zero_within : (sums : List ℤ) → AreZero sums → AreWithin 0 sums
zero_within sums zeros x = let z = zeros x in omega (arith, ints)
