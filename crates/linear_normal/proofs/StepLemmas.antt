-- A world with values meets each list that a valid step shows.
use Rattle.std.proofs.Common.{◌≡◌, ℕ, zero, suc, ◌+◌, ◌≤◌, ◌<◌, Bool, true, false, not, cond, ◌&&◌, ◌||◌, ◌==◌, ◌⊎◌, inl, inr, List, [], ◌∷◌, map, filter, length, refl, sym, ◌∙◌, ap, ap₂, subst, true≢false, ℤ, pos, negsuc, ◌+ℤ◌, ◌-ℤ◌, ◌≤ℤ◌, ◌<ℤ◌, int_le, int_lt, int_eq, Option, Some, None, slice_get, IfSome, nat_lt, nat_le, ltb-true, leb-true, arith}
use Rattle.std.specs.List.{AllByRecursion, list_all, range_with_len}
use Rattle.std.proofs.lemmas.Int.{ints}
use Rattle.std.proofs.lemmas.Bool.Decides.{nat_tests}
use Rattle.literals.specs.declared.lit.Lit.{Lit}
use Rattle.literals.specs.declared.lit.Lit.TheVariants as l
use Rattle.literals.specs.declared.reason.Step.{Step}
use Rattle.literals.specs.declared.reason.Step.TheVariants.{Sum, Distinct, Window, Pair, Loop, Hole}
use Rattle.literals.specs.Nogoods.{has_lit}
use Rattle.literals.specs.Truths.{Truths, all_true}
use Rattle.symbols.specs.declared.ends.Ends.{Ends}
use Rattle.ground_model.specs.declared.linear.Place.{Place}
use Rattle.ground_model.specs.declared.program.GroundProgram.{GroundProgram}
use Rattle.ground_model.specs.Answers.{IsNumbered, IsWithin}
use Rattle.ground_model.specs.Sound.{first_places}
use Rattle.ground_model.specs.Truth.{value_of, sum_of, all_pairs, differ, share, are_apart}
use Rattle.ground_model.specs.View.{linear_of, place_of}
use Rattle.ground_model.specs.World.{World}
use Rattle.ground_model.proofs.Alike.{sum_alike}
use Rattle.ground_model.proofs.SizeLemmas.{sized_objective}
use Rattle.ground_model.proofs.Bools.{and_elim, and_intro, or_elim, not_true}
use Rattle.ground_model.proofs.MemberLemmas.{property_member, property_from_members, member_any, all_member}
use Rattle.linear_normal.specs.declared.constraint.Constraint.{Constraint}
use Rattle.linear_normal.specs.declared.constraint.Constraint.TheVariants as c
use Rattle.linear_normal.specs.Bounds.{Bounds, bounds_named, least_sum, greatest_sum, least_value, greatest_value}
use Rattle.linear_normal.specs.Numbering.{numbering}
use Rattle.linear_normal.specs.Steps.{is_named, is_sum, is_costly, none_between, is_hole, is_empty_range, is_between, is_overfull, is_within_window, total_duration, is_overloaded, ends_late, must_overlap, is_clash, is_shown}
use Rattle.linear_normal.specs.Truth.{numbered_in, items_value, constraint_truth, AreTruths}
use Rattle.linear_normal.specs.declared.numbered.Numbered.{Numbered}
use Rattle.linear_normal.specs.Laws.{HasValues, cost_in, IsBetter, is_no_loop, StepLaw}
use Rattle.linear_normal.proofs.BoundLemmas.{listed_true, low_below, high_above, least_sum_below, greatest_sum_above, least_value_below, greatest_value_above}
use Rattle.linear_normal.proofs.ListLemmas.{range_numbered}
use Rattle.linear_normal.proofs.OverLemmas.{IsPlaceOver, IsConstraintOver, constraints_over, moved_over}
use Rattle.linear_normal.proofs.SumLemmas.{moved_total}
use Rattle.linear_normal.proofs.BodyLemmas.{place_member}
use Rattle.linear_normal.proofs.PackingLemmas.{packing, AreApart, AllApart, sum_over}

-- a number that is not negative, as a natural one
abbrev to_nat : ℤ → ℕ
to_nat (pos n) = n
to_nat (negsuc n) = 0

to_nat_is : (z : ℤ) → pos 0 ≤ℤ z → pos (to_nat z) ≡ z
to_nat_is (pos n) h = refl
to_nat_is (negsuc n) h = absurd (omega (arith, ints))

-- WINDOWS

-- each two of the spans share no integer
abbrev AreParted : List (ℤ × ℤ) → Type 0
AreParted [] = Unit {0}
AreParted (x ∷ xs) = AllByRecursion (λ y. share x.0 x.1 y.0 y.1 ≡ false) xs × AreParted xs

-- the span lies from a to b
abbrev LiesIn : ℤ → ℤ → ℤ × ℤ → Type 0
LiesIn a b x = (a ≤ℤ x.0) × (pos 0 ≤ℤ x.1) × ((x.0 +ℤ x.1) ≤ℤ b)

abbrev total : List (ℤ × ℤ) → ℤ
total [] = pos 0
total (x ∷ xs) = x.1 +ℤ total xs

abbrev from : ℤ → ℤ × ℤ → ℕ × ℕ
from a x = (to_nat (x.0 -ℤ a), to_nat x.1)

module _ (a b : ℤ) (ends : a ≤ℤ b) where
  offset : (v : ℤ) → a ≤ℤ v → pos (to_nat (v -ℤ a)) ≡ v -ℤ a
  offset v h = to_nat_is (v -ℤ a) (omega (arith, ints, h))

  shared : (v d w e : ℤ) (i m j n t : ℕ) → pos i ≡ v -ℤ a → pos m ≡ d → pos j ≡ w -ℤ a → pos n ≡ e → i ≤ t → t < i + m → j ≤ t → t < j + n → share v d w e ≡ true
  shared v d w e i m j n t p q r s k l o u =
      and_intro (int_lt (pos 0) d && int_lt (pos 0) e && int_lt v (w +ℤ e)) (int_lt w (v +ℤ d))
      (and_intro (int_lt (pos 0) d && int_lt (pos 0) e) (int_lt v (w +ℤ e))
      (and_intro (int_lt (pos 0) d) (int_lt (pos 0) e) (less (pos 0) d (omega (arith, ints, q, k, l))) (less (pos 0) e (omega (arith, ints, s, o, u))))
      (less v (w +ℤ e) (omega (arith, ints, p, r, s, k, u)))) (less w (v +ℤ d) (omega (arith, ints, p, q, r, o, l)))
    where
      less : (x y : ℤ) → x <ℤ y → int_lt x y ≡ true
      less x y h = grind (arith, ints, h)

  parted_apart : (x : ℤ × ℤ) (xs : List (ℤ × ℤ)) → LiesIn a b x → AllByRecursion (LiesIn a b) xs → AllByRecursion (λ y. share x.0 x.1 y.0 y.1 ≡ false) xs → AllByRecursion (AreApart (from a x)) (map (from a) xs)
  parted_apart x [] i is p = tt
  parted_apart x (y ∷ ys) i is p = (one, parted_apart x ys i is.1 p.1)
    where
      one : AreApart (from a x) (from a y)
      one t m n =
          let p0 = and_elim (nat_le (to_nat (x.0 -ℤ a)) t) (nat_lt t (to_nat (x.0 -ℤ a) + to_nat x.1)) m in
          let q0 = and_elim (nat_le (to_nat (y.0 -ℤ a)) t) (nat_lt t (to_nat (y.0 -ℤ a) + to_nat y.1)) n in
          true≢false
          (sym (shared x.0 x.1 y.0 y.1 (to_nat (x.0 -ℤ a)) (to_nat x.1) (to_nat (y.0 -ℤ a)) (to_nat y.1) t (offset x.0 i.0) (to_nat_is x.1 i.1) (offset y.0 is.0.0) (to_nat_is y.1 is.0.1)
          (leb-true (to_nat (x.0 -ℤ a)) t p0.0) (ltb-true t (to_nat (x.0 -ℤ a) + to_nat x.1) p0.1) (leb-true (to_nat (y.0 -ℤ a)) t q0.0) (ltb-true t (to_nat (y.0 -ℤ a) + to_nat y.1) q0.1))
          ∙ p.0)

  all_parted : (xs : List (ℤ × ℤ)) → AllByRecursion (LiesIn a b) xs → AreParted xs → AllApart (map (from a) xs)
  all_parted [] is p = tt
  all_parted (x ∷ xs) is p = (parted_apart x xs is.0 is.1 p.0, all_parted xs is.1 p.1)

  inside_window : (xs : List (ℤ × ℤ)) → AllByRecursion (LiesIn a b) xs → AllByRecursion (λ span. span.0 + span.1 ≤ to_nat (b -ℤ a)) (map (from a) xs)
  inside_window [] is = tt
  inside_window (x ∷ xs) is =
      (fits x.0 x.1 (to_nat (x.0 -ℤ a)) (to_nat x.1) (to_nat (b -ℤ a)) (offset x.0 is.0.0) (to_nat_is x.1 is.0.1) (offset b ends) is.0.2, inside_window xs is.1)
    where
      fits : (v d : ℤ) (i m n : ℕ) → pos i ≡ v -ℤ a → pos m ≡ d → pos n ≡ b -ℤ a → (v +ℤ d) ≤ℤ b → i + m ≤ n
      fits v d i m n p q r h = omega (arith, ints, p, q, r, h)

  total_is : (xs : List (ℤ × ℤ)) → AllByRecursion (LiesIn a b) xs → pos (sum_over (λ span. span.1) (map (from a) xs)) ≡ total xs
  total_is [] is = refl
  total_is (x ∷ xs) is = add (to_nat x.1) (sum_over (λ span. span.1) (map (from a) xs)) x.1 (total xs) (to_nat_is x.1 is.0.1) (total_is xs is.1)
    where
      add : (m n : ℕ) (d s : ℤ) → pos m ≡ d → pos n ≡ s → pos (m + n) ≡ d +ℤ s
      add m n d s p q = omega (arith, ints, p, q)

  -- spans that lie in a window and share no integer are together no longer than it
  window_fits : (xs : List (ℤ × ℤ)) → AllByRecursion (LiesIn a b) xs → AreParted xs → total xs ≤ℤ (b -ℤ a)
  window_fits xs is parted =
      fits (sum_over (λ span. span.1) (map (from a) xs)) (to_nat (b -ℤ a)) (total xs) (packing (to_nat (b -ℤ a)) (map (from a) xs) (inside_window xs is) (all_parted xs is parted)) (total_is xs is) (offset b ends)
    where
      fits : (m n : ℕ) (s : ℤ) → m ≤ n → pos m ≡ s → pos n ≡ b -ℤ a → s ≤ℤ (b -ℤ a)
      fits m n s h p q = omega (arith, ints, h, p, q)

-- PAIRS

pairs_filter : {X Y : Type 0} (test : Y → Y → Bool) (f : X → Y) (p : X → Bool) (xs : List X) → all_pairs test (map f xs) ≡ true → all_pairs test (map f (filter p xs)) ≡ true
pairs_filter test f p [] e = refl
pairs_filter {X} {Y} test f p (x ∷ xs) e =
    let q = and_elim (list_all (test (f x)) (map f xs)) (all_pairs test (map f xs)) e in
    go (p x) (some xs q.0) (pairs_filter test f p xs q.1)
  where
    some : (ys : List X) → list_all (test (f x)) (map f ys) ≡ true → list_all (test (f x)) (map f (filter p ys)) ≡ true
    some [] e = refl
    some (y ∷ ys) e =
        let q = and_elim (test (f x) (f y)) (list_all (test (f x)) (map f ys)) e in pick (p y) q.0 (some ys q.1)
      where
        pick : (b : Bool) → test (f x) (f y) ≡ true → list_all (test (f x)) (map f (filter p ys)) ≡ true → list_all (test (f x)) (map f (cond b (y ∷ filter p ys) (filter p ys))) ≡ true
        pick true t r = and_intro (test (f x) (f y)) (list_all (test (f x)) (map f (filter p ys))) t r
        pick false t r = r

    go : (b : Bool) → list_all (test (f x)) (map f (filter p xs)) ≡ true → all_pairs test (map f (filter p xs)) ≡ true → all_pairs test (map f (cond b (x ∷ filter p xs) (filter p xs))) ≡ true
    go true s r = and_intro (list_all (test (f x)) (map f (filter p xs))) (all_pairs test (map f (filter p xs))) s r
    go false s r = r

-- the test is true of two members, the earlier one first
pairs_at : {X Y : Type 0} (test : Y → Y → Bool) (f : X → Y) (xs : List X) (i j : ℕ) (x y : X) → all_pairs test (map f xs) ≡ true → i < j → slice_get xs i ≡ Some x → slice_get xs j ≡ Some y → test (f x) (f y) ≡ true
pairs_at {X} test f [] i j x y e below p q = absurd (Rattle.linear_normal.proofs.BodyLemmas.place_member {X = X} [] i x p)
pairs_at test f (z ∷ xs) i zero x y e below p q = absurd (omega (arith, below))
pairs_at test f (z ∷ xs) zero (suc j) x y e below p q =
    let same : z ≡ x = cc in
    subst (λ w. test (f w) (f y) ≡ true) same
    (all_member (test (f z)) (map f xs) (f y) (and_elim (list_all (test (f z)) (map f xs)) (all_pairs test (map f xs)) e).0
    (Rattle.ground_model.proofs.MemberLemmas.member_map f xs y (Rattle.linear_normal.proofs.BodyLemmas.place_member xs j y q)))
pairs_at test f (z ∷ xs) (suc i) (suc j) x y e below p q =
    pairs_at test f xs i j x y (and_elim (list_all (test (f z)) (map f xs)) (all_pairs test (map f xs)) e).1 (omega (arith, below)) p q

-- ONE CONSTRAINT

module _ (truths : Truths) (ends : Ends) (lits : List Lit) (all : all_true truths lits ≡ true) (variables : ℕ) (within : (x : ℕ) → IsNumbered variables x → IsWithin ends (truths.value x)) where
  abbrev named : Bounds
  named = bounds_named ends lits

  abbrev start_of : Place → ℤ
  start_of place = value_of truths.value (linear_of place.linear)

  less_of : (x y : ℤ) → int_lt x y ≡ true → x <ℤ y
  less_of x y e = grind (arith, ints, e)

  at_most_of : (x y : ℤ) → int_le x y ≡ true → x ≤ℤ y
  at_most_of x y e = grind (arith, ints, e)

  sum_refuted : (n : ℕ) (o : Option Constraint) → IfSome o (λ k. truths.constraint n ≡ constraint_truth truths k) → IfSome o (IsConstraintOver variables) → is_sum ends lits n o ≡ true → ⊥
  sum_refuted n None k over e = true≢false (sym e)
  sum_refuted n (Some (c.AtMost items k)) is over e =
      go (or_elim (has_lit lits (l.Constraint n true) && int_lt k (least_sum named items)) (has_lit lits (l.Constraint n false) && int_le (greatest_sum named items) k) e)
    where
      too_large : (s m k : ℤ) → m ≤ℤ s → int_lt k m ≡ true → int_le s k ≡ true → ⊥
      too_large s m k h e f = absurd (grind (arith, ints, h, e, f))

      small : (s m k : ℤ) → s ≤ℤ m → int_le m k ≡ true → not (int_le s k) ≡ true → ⊥
      small s m k h e f = absurd (grind (arith, ints, h, e, f))

      go : ((has_lit lits (l.Constraint n true) && int_lt k (least_sum named items)) ≡ true) ⊎ ((has_lit lits (l.Constraint n false) && int_le (greatest_sum named items) k) ≡ true) → ⊥
      go (inl f) =
          let p = and_elim (has_lit lits (l.Constraint n true)) (int_lt k (least_sum named items)) f in
          too_large (items_value truths items) (least_sum named items) k (least_sum_below truths ends lits all variables within items over) p.1
          (sym is ∙ listed_true truths lits (l.Constraint n true) p.0 all)
      go (inr f) =
          let p = and_elim (has_lit lits (l.Constraint n false)) (int_le (greatest_sum named items) k) f in
          small (items_value truths items) (greatest_sum named items) k (greatest_sum_above truths ends lits all variables within items over) p.1
          (ap not (sym is) ∙ listed_true truths lits (l.Constraint n false) p.0 all)
  sum_refuted n (Some (c.Both i j)) is over e = true≢false (sym e)
  sum_refuted n (Some (c.Either i j)) is over e = true≢false (sym e)
  sum_refuted n (Some (c.Domain x set)) is over e = true≢false (sym e)
  sum_refuted n (Some (c.Distinct places)) is over e = true≢false (sym e)
  sum_refuted n (Some (c.Disjoint places)) is over e = true≢false (sym e)
  sum_refuted n (Some (c.Tally bodies)) is over e = true≢false (sym e)

  hole_refuted : (n : ℕ) (o : Option Constraint) → IfSome o (λ k. truths.constraint n ≡ constraint_truth truths k) → IfSome o (IsConstraintOver variables) → is_hole ends lits n o ≡ true → ⊥
  hole_refuted n None k over e = true≢false (sym e)
  hole_refuted n (Some (c.Domain x set)) is over e =
      let p = and_elim (has_lit lits (l.Constraint n true)) (none_between (named.low x) (named.high x) set.intervals) e in
      let r = member_any (λ interval. int_le interval.0 (truths.value x) && int_le (truths.value x) interval.1) set.intervals (sym is ∙ listed_true truths lits (l.Constraint n true) p.0 all) in
      outside (truths.value x) (named.low x) (named.high x) r.0.0 r.0.1 (low_below truths ends lits all variables within x over) (high_above truths ends lits all variables within x over) r.2
      (all_member (λ interval. int_lt (named.high x) (named.low x) || int_lt interval.1 (named.low x) || int_lt (named.high x) interval.0) set.intervals r.0 p.1 r.1)
    where
      outside : (v low high p q : ℤ) → low ≤ℤ v → v ≤ℤ high → (int_le p v && int_le v q) ≡ true → (int_lt high low || int_lt q low || int_lt high p) ≡ true → ⊥
      outside v low high p q h k e f = absurd (grind (arith, ints, h, k, e, f))
  hole_refuted n (Some (c.AtMost items k)) is over e = true≢false (sym e)
  hole_refuted n (Some (c.Both i j)) is over e = true≢false (sym e)
  hole_refuted n (Some (c.Either i j)) is over e = true≢false (sym e)
  hole_refuted n (Some (c.Distinct places)) is over e = true≢false (sym e)
  hole_refuted n (Some (c.Disjoint places)) is over e = true≢false (sym e)
  hole_refuted n (Some (c.Tally bodies)) is over e = true≢false (sym e)

  empty_refuted : is_empty_range ends lits variables ≡ true → ⊥
  empty_refuted e =
      let r = member_any (λ x. int_lt (named.high x) (named.low x)) (range_with_len 1 variables) e in
      let is = range_numbered variables r.0 r.1 in
      none (truths.value r.0) (named.low r.0) (named.high r.0) (low_below truths ends lits all variables within r.0 is) (high_above truths ends lits all variables within r.0 is) r.2
    where
      none : (v low high : ℤ) → low ≤ℤ v → v ≤ℤ high → int_lt high low ≡ true → ⊥
      none v low high h k e = absurd (grind (arith, ints, h, k, e))

  -- spans of one duration each, and of their own durations
  abbrev one_long : Place → ℤ × ℤ
  one_long place = (start_of place, pos 1)

  abbrev span : Place → ℤ × ℤ
  span place = (start_of place, place.duration)

  distinct_parted : (places : List Place) → all_pairs (differ truths.value) (map (place_of []) places) ≡ true → AreParted (map one_long places)
  distinct_parted [] e = tt
  distinct_parted (x ∷ places) e =
      let p = and_elim (list_all (differ truths.value (place_of [] x)) (map (place_of []) places)) (all_pairs (differ truths.value) (map (place_of []) places)) e in
      (others places p.0, distinct_parted places p.1)
    where
      apart : (v w : ℤ) → not (int_eq v w) ≡ true → share v (pos 1) w (pos 1) ≡ false
      apart v w e = grind (arith, ints, e)

      others : (ys : List Place) → list_all (differ truths.value (place_of [] x)) (map (place_of []) ys) ≡ true → AllByRecursion (λ y. share (start_of x) (pos 1) y.0 y.1 ≡ false) (map one_long ys)
      others [] e = tt
      others (y ∷ ys) e =
          let p = and_elim (differ truths.value (place_of [] x) (place_of [] y)) (list_all (differ truths.value (place_of [] x)) (map (place_of []) ys)) e in
          (apart (start_of x) (start_of y) p.0, others ys p.1)

  disjoint_parted : (places : List Place) → all_pairs (are_apart truths.value) (map (place_of []) places) ≡ true → AreParted (map span places)
  disjoint_parted [] e = tt
  disjoint_parted (x ∷ places) e =
      let p = and_elim (list_all (are_apart truths.value (place_of [] x)) (map (place_of []) places)) (all_pairs (are_apart truths.value) (map (place_of []) places)) e in
      (others places p.0, disjoint_parted places p.1)
    where
      others : (ys : List Place) → list_all (are_apart truths.value (place_of [] x)) (map (place_of []) ys) ≡ true → AllByRecursion (λ y. share (start_of x) x.duration y.0 y.1 ≡ false) (map span ys)
      others [] e = tt
      others (y ∷ ys) e =
          let p = and_elim (are_apart truths.value (place_of [] x) (place_of [] y)) (list_all (are_apart truths.value (place_of [] x)) (map (place_of []) ys)) e in
          (not_true (share (start_of x) x.duration (start_of y) y.duration) p.0, others ys p.1)

  between_lie : (a b : ℤ) (places : List Place) → AllByRecursion (IsPlaceOver variables) places → AllByRecursion (LiesIn a (b +ℤ pos 1)) (map one_long (filter (is_between named a b) places))
  between_lie a b [] over = tt
  between_lie a b (x ∷ places) over = go (is_between named a b x) refl (between_lie a b places over.1)
    where
      lies : (v low high : ℤ) → low ≤ℤ v → v ≤ℤ high → (int_le a low && int_le high b) ≡ true → LiesIn a (b +ℤ pos 1) (v, pos 1)
      lies v low high h k e =
          let p = and_elim (int_le a low) (int_le high b) e in
          (under v low h (at_most_of a low p.0), omega (arith, ints), beyond v high k (at_most_of high b p.1))
        where
          under : (v low : ℤ) → low ≤ℤ v → a ≤ℤ low → a ≤ℤ v
          under v low h k = omega (arith, ints, h, k)

          beyond : (v high : ℤ) → v ≤ℤ high → high ≤ℤ b → (v +ℤ pos 1) ≤ℤ (b +ℤ pos 1)
          beyond v high h k = omega (arith, ints, h, k)

      go : (t : Bool) → is_between named a b x ≡ t → AllByRecursion (LiesIn a (b +ℤ pos 1)) (map one_long (filter (is_between named a b) places))
          → AllByRecursion (LiesIn a (b +ℤ pos 1)) (map one_long (cond t (x ∷ filter (is_between named a b) places) (filter (is_between named a b) places)))
      go true e rec = (
        lies (start_of x) (least_value named x.linear) (greatest_value named x.linear) (least_value_below truths ends lits all variables within x.linear over.0.pairs)
            (greatest_value_above truths ends lits all variables within x.linear over.0.pairs) e,
        rec,
      )
      go false e rec = rec

  window_lie : (a b : ℤ) (places : List Place) → AllByRecursion (IsPlaceOver variables) places → AllByRecursion (LiesIn a b) (map span (filter (is_within_window named a b) places))
  window_lie a b [] over = tt
  window_lie a b (x ∷ places) over = go (is_within_window named a b x) refl (window_lie a b places over.1)
    where
      lies : (v d low high : ℤ) → low ≤ℤ v → v ≤ℤ high → pos 0 ≤ℤ d → (int_le a low && int_le (high +ℤ d) b) ≡ true → LiesIn a b (v, d)
      lies v d low high h k s e =
          let p = and_elim (int_le a low) (int_le (high +ℤ d) b) e in
          (under v low h (at_most_of a low p.0), s, beyond v high k (at_most_of (high +ℤ d) b p.1))
        where
          under : (v low : ℤ) → low ≤ℤ v → a ≤ℤ low → a ≤ℤ v
          under v low h k = omega (arith, ints, h, k)

          beyond : (v high : ℤ) → v ≤ℤ high → (high +ℤ d) ≤ℤ b → (v +ℤ d) ≤ℤ b
          beyond v high h k = omega (arith, ints, h, k)

      go : (t : Bool) → is_within_window named a b x ≡ t → AllByRecursion (LiesIn a b) (map span (filter (is_within_window named a b) places))
          → AllByRecursion (LiesIn a b) (map span (cond t (x ∷ filter (is_within_window named a b) places) (filter (is_within_window named a b) places)))
      go true e rec = (
        lies (start_of x) x.duration (least_value named x.linear) (greatest_value named x.linear) (least_value_below truths ends lits all variables within x.linear over.0.pairs)
            (greatest_value_above truths ends lits all variables within x.linear over.0.pairs) over.0.lasts e,
        rec,
      )
      go false e rec = rec

  ones_total : (places : List Place) → total (map one_long places) ≡ pos (length places)
  ones_total [] = refl
  ones_total (x ∷ places) = one (total (map one_long places)) (length places) (ones_total places)
    where
      one : (s : ℤ) (n : ℕ) → s ≡ pos n → pos 1 +ℤ s ≡ pos (suc n)
      one s n e = omega (arith, ints, e)

  spans_total : (places : List Place) → total (map span places) ≡ total_duration places
  spans_total [] = refl
  spans_total (x ∷ places) = ap (λ s. x.duration +ℤ s) (spans_total places)

  overfull_refuted : (n : ℕ) (a b : ℤ) (o : Option Constraint) → IfSome o (λ k. truths.constraint n ≡ constraint_truth truths k) → IfSome o (IsConstraintOver variables) → is_overfull ends lits n a b o ≡ true → ⊥
  overfull_refuted n a b None k over e = true≢false (sym e)
  overfull_refuted n a b (Some (c.Distinct places)) is over e =
      let p = and_elim (has_lit lits (l.Constraint n true) && int_le a b) (int_lt ((b -ℤ a) +ℤ pos 1) (pos (length (filter (is_between named a b) places)))) e in
      let q = and_elim (has_lit lits (l.Constraint n true)) (int_le a b) p.0 in
      let ordered = at_most_of a b q.1 in
      let differ_all : all_pairs (differ truths.value) (map (place_of []) places) ≡ true = sym is ∙ listed_true truths lits (l.Constraint n true) q.0 all in
      let chosen = filter (is_between named a b) places in
      too_many (pos (length chosen)) (total (map one_long chosen)) (sym (ones_total chosen)) (less_of ((b -ℤ a) +ℤ pos 1) (pos (length chosen)) p.1)
      (window_fits a (b +ℤ pos 1) (omega (arith, ints, ordered)) (map one_long chosen) (between_lie a b places over)
      (distinct_parted chosen (pairs_filter (differ truths.value) (place_of []) (is_between named a b) places differ_all)))
    where
      too_many : (n s : ℤ) → n ≡ s → ((b -ℤ a) +ℤ pos 1) <ℤ n → s ≤ℤ ((b +ℤ pos 1) -ℤ a) → ⊥
      too_many n s e h k = absurd (omega (arith, ints, e, h, k))
  overfull_refuted n a b (Some (c.AtMost items k)) is over e = true≢false (sym e)
  overfull_refuted n a b (Some (c.Both i j)) is over e = true≢false (sym e)
  overfull_refuted n a b (Some (c.Either i j)) is over e = true≢false (sym e)
  overfull_refuted n a b (Some (c.Domain x set)) is over e = true≢false (sym e)
  overfull_refuted n a b (Some (c.Disjoint places)) is over e = true≢false (sym e)
  overfull_refuted n a b (Some (c.Tally bodies)) is over e = true≢false (sym e)

  overloaded_refuted : (n : ℕ) (a b : ℤ) (o : Option Constraint) → IfSome o (λ k. truths.constraint n ≡ constraint_truth truths k) → IfSome o (IsConstraintOver variables) → is_overloaded ends lits n a b o ≡ true → ⊥
  overloaded_refuted n a b None k over e = true≢false (sym e)
  overloaded_refuted n a b (Some (c.Disjoint places)) is over e =
      let p = and_elim (has_lit lits (l.Constraint n true) && int_lt a b) (int_lt (b -ℤ a) (total_duration (filter (is_within_window named a b) places))) e in
      let q = and_elim (has_lit lits (l.Constraint n true)) (int_lt a b) p.0 in
      let ordered = less_of a b q.1 in
      let apart_all : all_pairs (are_apart truths.value) (map (place_of []) places) ≡ true = sym is ∙ listed_true truths lits (l.Constraint n true) q.0 all in
      let chosen = filter (is_within_window named a b) places in
      too_long (total_duration chosen) (total (map span chosen)) (sym (spans_total chosen)) (less_of (b -ℤ a) (total_duration chosen) p.1)
      (window_fits a b (omega (arith, ints, ordered)) (map span chosen) (window_lie a b places over)
      (disjoint_parted chosen (pairs_filter (are_apart truths.value) (place_of []) (is_within_window named a b) places apart_all)))
    where
      too_long : (n s : ℤ) → n ≡ s → (b -ℤ a) <ℤ n → s ≤ℤ (b -ℤ a) → ⊥
      too_long n s e h k = absurd (omega (arith, ints, e, h, k))
  overloaded_refuted n a b (Some (c.AtMost items k)) is over e = true≢false (sym e)
  overloaded_refuted n a b (Some (c.Both i j)) is over e = true≢false (sym e)
  overloaded_refuted n a b (Some (c.Either i j)) is over e = true≢false (sym e)
  overloaded_refuted n a b (Some (c.Domain x set)) is over e = true≢false (sym e)
  overloaded_refuted n a b (Some (c.Distinct places)) is over e = true≢false (sym e)
  overloaded_refuted n a b (Some (c.Tally bodies)) is over e = true≢false (sym e)

  placed_at : (places : List Place) (n : ℕ) (x : Place) → numbered_in places n ≡ Some x → (k : ℕ) × (n ≡ suc k) × (slice_get places k ≡ Some x)
  placed_at places zero x e = cc
  placed_at places (suc k) x e = (k, refl, e)

  clash_refuted : (n i j : ℕ) (o : Option Constraint) → IfSome o (λ k. truths.constraint n ≡ constraint_truth truths k) → IfSome o (IsConstraintOver variables) → is_clash ends lits n i j o ≡ true → ⊥
  clash_refuted n i j None k over e = true≢false (sym e)
  clash_refuted n i j (Some (c.Disjoint places)) is over e =
      let p = and_elim (has_lit lits (l.Constraint n true) && not (i == j)) (must_overlap named (numbered_in places i) (numbered_in places j)) e in
      let q = and_elim (has_lit lits (l.Constraint n true)) (not (i == j)) p.0 in
      both (numbered_in places i) (numbered_in places j) refl refl p.1 (not_true (i == j) q.1) (sym is ∙ listed_true truths lits (l.Constraint n true) q.0 all)
    where
      over_at : (k : ℕ) (x : Place) → slice_get places k ≡ Some x → IsPlaceOver variables x
      over_at k x f = property_member (IsPlaceOver variables) places x over (place_member places k x f)

      late : (x y : Place) → IsPlaceOver variables x → IsPlaceOver variables y → ends_late named x y ≡ true → int_lt (start_of y) (start_of x +ℤ x.duration) ≡ true
      late x y ox oy f =
          step (start_of x) (start_of y) (least_value named x.linear) (greatest_value named y.linear) x.duration
          (least_value_below truths ends lits all variables within x.linear ox.pairs) (greatest_value_above truths ends lits all variables within y.linear oy.pairs) f
        where
          step : (v w low high d : ℤ) → low ≤ℤ v → w ≤ℤ high → int_lt high (low +ℤ d) ≡ true → int_lt w (v +ℤ d) ≡ true
          step v w low high d h k f = grind (arith, ints, h, k, f)

      overlap : (x y : Place) → IsPlaceOver variables x → IsPlaceOver variables y → must_overlap named (Some x) (Some y) ≡ true → are_apart truths.value (place_of [] x) (place_of [] y) ≡ false
      overlap x y ox oy f =
          let p = and_elim (int_lt (pos 0) x.duration && int_lt (pos 0) y.duration && ends_late named x y) (ends_late named y x) f in
          let q = and_elim (int_lt (pos 0) x.duration && int_lt (pos 0) y.duration) (ends_late named x y) p.0 in
          ap not (and_intro (int_lt (pos 0) x.duration && int_lt (pos 0) y.duration && int_lt (start_of x) (start_of y +ℤ y.duration)) (int_lt (start_of y) (start_of x +ℤ x.duration))
          (and_intro (int_lt (pos 0) x.duration && int_lt (pos 0) y.duration) (int_lt (start_of x) (start_of y +ℤ y.duration)) q.0 (late y x oy ox p.1)) (late x y ox oy q.1))

      turned : (x y : Place) → are_apart truths.value (place_of [] x) (place_of [] y) ≡ true → are_apart truths.value (place_of [] y) (place_of [] x) ≡ true
      turned x y f = swap (int_lt (pos 0) x.duration) (int_lt (pos 0) y.duration) (int_lt (start_of x) (start_of y +ℤ y.duration)) (int_lt (start_of y) (start_of x +ℤ x.duration)) f
        where
          swap : (p q r s : Bool) → not (p && q && r && s) ≡ true → not (q && p && s && r) ≡ true
          swap true true true true f = f
          swap true true true false f = refl
          swap true true false true f = refl
          swap true true false false f = refl
          swap true false r s f = refl
          swap false true r s f = refl
          swap false false r s f = refl

      order : (x y : ℕ) → (suc x == suc y) ≡ false → (x < y) ⊎ (y < x)
      order x y f = go (nat_lt x y) refl
        where
          go : (b : Bool) → nat_lt x y ≡ b → (x < y) ⊎ (y < x)
          go true g = inl (ltb-true x y g)
          go false g = inr (grind (arith, nat_tests, f, g))

      both : (p q : Option Place) → numbered_in places i ≡ p → numbered_in places j ≡ q → must_overlap named p q ≡ true → (i == j) ≡ false → all_pairs (are_apart truths.value) (map (place_of []) places) ≡ true → ⊥
      both None q f g e d pairs = true≢false (sym e)
      both (Some x) None f g e d pairs = true≢false (sym e)
      both (Some x) (Some y) f g e d pairs =
          let a = placed_at places i x f in
          let b = placed_at places j y g in
          let o = overlap x y (over_at a.0 x a.2) (over_at b.0 y b.2) e in
          go a.0 b.0 a.2 b.2 o (order a.0 b.0 (ap (λ m. m == suc b.0) (sym a.1) ∙ ap (λ m. i == m) (sym b.1) ∙ d))
        where
          go : (h k : ℕ) → slice_get places h ≡ Some x → slice_get places k ≡ Some y → are_apart truths.value (place_of [] x) (place_of [] y) ≡ false → (h < k) ⊎ (k < h) → ⊥
          go h k f g o (inl below) = true≢false (sym (pairs_at (are_apart truths.value) (place_of []) places h k x y pairs below f g) ∙ o)
          go h k f g o (inr below) = true≢false (sym (turned y x (pairs_at (are_apart truths.value) (place_of []) places k h y x pairs below g f)) ∙ o)
  clash_refuted n i j (Some (c.AtMost items k)) is over e = true≢false (sym e)
  clash_refuted n i j (Some (c.Both p q)) is over e = true≢false (sym e)
  clash_refuted n i j (Some (c.Either p q)) is over e = true≢false (sym e)
  clash_refuted n i j (Some (c.Domain x set)) is over e = true≢false (sym e)
  clash_refuted n i j (Some (c.Distinct places)) is over e = true≢false (sym e)
  clash_refuted n i j (Some (c.Tally bodies)) is over e = true≢false (sym e)

module _ (program : GroundProgram) (world : World) (truths : Truths) (values : HasValues program world) (are : AreTruths (numbering program) world truths) where
  abbrev N : Numbered
  N = numbering program

  variables_within : (x : ℕ) → IsNumbered (length program.variables) x → IsWithin program.ends (truths.value x)
  variables_within x is = subst (IsWithin program.ends) (sym (are.value x)) (values x is)

  -- the objective by number is the objective
  objective_kept : value_of truths.value (linear_of N.objective) ≡ cost_in program world
  objective_kept =
      let s = sized_objective (length program.symbols) (length program.variables) program.smaller program.larger program.sound_objective in
      moved_total truths.value (length program.variables) program.smaller program.larger s.0 s.1
      ∙ ap₂ ◌-ℤ◌ (ap (λ v. sum_of v (map (place_of []) program.smaller)) (λ i x. are.value x i) ∙ sum_alike world.values [] program.symbols program.smaller)
      (ap (λ v. sum_of v (map (place_of []) program.larger)) (λ i x. are.value x i) ∙ sum_alike world.values [] program.symbols program.larger)

  costly_refuted : (lits : List Lit) → all_true truths lits ≡ true → (last : Option ℤ) → IsBetter program world last → is_costly program.ends lits N last ≡ true → ⊥
  costly_refuted lits all None better e = true≢false (sym e)
  costly_refuted lits all (Some last) better e =
      no_better (value_of truths.value (linear_of N.objective)) (least_value (bounds_named program.ends lits) N.objective) last (cost_in program world)
      (least_value_below truths program.ends lits all (length program.variables) variables_within N.objective (moved_over (length program.variables) (first_places program.smaller) (first_places program.larger)))
      e objective_kept better
    where
      no_better : (v low last cost : ℤ) → low ≤ℤ v → int_le last low ≡ true → v ≡ cost → cost <ℤ last → ⊥
      no_better v low last cost h e s b = absurd (grind (arith, ints, h, e, s, b))

  step_refuted : (lits : List Lit) → all_true truths lits ≡ true → (last : Option ℤ) → IsBetter program world last → (step : Step) → is_no_loop step ≡ true → is_shown program N last lits step ≡ true → ⊥
  step_refuted lits all last better (Sum zero) k e = costly_refuted lits all last better e
  step_refuted lits all last better (Sum (suc n)) k e =
      sum_refuted truths program.ends lits all (length program.variables) variables_within (suc n) (numbered_in N.constraints (suc n)) (are.constraint (suc n)) (constraints_over program (suc n)) e
  step_refuted lits all last better (Distinct n a b) k e =
      overfull_refuted truths program.ends lits all (length program.variables) variables_within n a b (numbered_in N.constraints n) (are.constraint n) (constraints_over program n) e
  step_refuted lits all last better (Window n a b) k e =
      overloaded_refuted truths program.ends lits all (length program.variables) variables_within n a b (numbered_in N.constraints n) (are.constraint n) (constraints_over program n) e
  step_refuted lits all last better (Pair n i j) k e =
      clash_refuted truths program.ends lits all (length program.variables) variables_within n i j (numbered_in N.constraints n) (are.constraint n) (constraints_over program n) e
  step_refuted lits all last better (Loop set) k e = true≢false (sym k)
  step_refuted lits all last better (Hole zero) k e = empty_refuted truths program.ends lits all (length program.variables) variables_within e
  step_refuted lits all last better (Hole (suc n)) k e =
      hole_refuted truths program.ends lits all (length program.variables) variables_within (suc n) (numbered_in N.constraints (suc n)) (are.constraint (suc n)) (constraints_over program (suc n)) e

pub step_law : StepLaw
step_law program world truths values are last better lits step k e = go (all_true truths lits) refl
  where
    go : (b : Bool) → all_true truths lits ≡ b → b ≡ false
    go false f = refl
    go true f =
        absurd (step_refuted program world truths values are lits f last better step k
        (and_elim (list_all (is_named program (numbering program)) lits) (is_shown program (numbering program) last lits step) e).1)
