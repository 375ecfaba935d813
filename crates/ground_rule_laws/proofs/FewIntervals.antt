-- Parted intervals over the integers of some ranges are no more than the ranges.
use Rattle.std.proofs.Common.{◌≡◌, ◌⊎◌, ◌↔◌, ◌<◌, inl, inr, ℕ, suc, nat_le, Bool, true, false, ◌&&◌, ℤ, pos, ◌+ℤ◌, ◌-ℤ◌, ◌≤ℤ◌, int_le, List, [], ◌∷◌, length, refl, sym, ap, subst, true≢false, arith}
use Rattle.std.specs.List.{AllByRecursion}
use Rattle.std.proofs.lemmas.Bool.Decides.{nat_tests}
use Rattle.std.proofs.lemmas.Int.{ints}
use Rattle.ground_model.specs.Intervals.{are_parted, are_parted_from, lies_in}
use Rattle.ground_model.specs.Members.{IsApart}
use Rattle.ground_model.specs.Sound.{most}
use Rattle.ground_model.proofs.Bools.{and_elim, and_intro, or_elim, or_left, or_right}
use Rattle.ground_model.proofs.MemberLemmas.{property_member, property_map}
use Rattle.program_meaning.specs.Ascending.{Exceeds}

-- ---- integers and intervals

le_itself : (a : ℤ) → int_le a a ≡ true
le_itself a = grind (arith, nat_tests, ints)

le_chain : (a b c : ℤ) → int_le a b ≡ true → int_le b c ≡ true → int_le a c ≡ true
le_chain a b c p q = grind (arith, nat_tests, ints)

le_far : (a b c d : ℤ) → int_le (a +ℤ pos 2) b ≡ true → int_le b c ≡ true → int_le (c +ℤ pos 2) d ≡ true → int_le (a +ℤ pos 2) d ≡ true
le_far a b c d p q r = grind (arith, nat_tests, ints)

lies_split : (x : ℤ × ℤ) (xs : List (ℤ × ℤ)) (n : ℤ) → lies_in (x ∷ xs) n ≡ true → ((int_le x.0 n ≡ true) × (int_le n x.1 ≡ true)) ⊎ (lies_in xs n ≡ true)
lies_split x xs n e = go (or_elim (int_le x.0 n && int_le n x.1) (lies_in xs n) e)
  where
    go : ((int_le x.0 n && int_le n x.1) ≡ true) ⊎ (lies_in xs n ≡ true) → ((int_le x.0 n ≡ true) × (int_le n x.1 ≡ true)) ⊎ (lies_in xs n ≡ true)
    go (inl l) = inl (and_elim (int_le x.0 n) (int_le n x.1) l)
    go (inr r) = inr r

lies_here : (x : ℤ × ℤ) (xs : List (ℤ × ℤ)) (n : ℤ) → int_le x.0 n ≡ true → int_le n x.1 ≡ true → lies_in (x ∷ xs) n ≡ true
lies_here x xs n p q = or_left (int_le x.0 n && int_le n x.1) (lies_in xs n) (and_intro (int_le x.0 n) (int_le n x.1) p q)

lies_later : (x : ℤ × ℤ) (xs : List (ℤ × ℤ)) (n : ℤ) → lies_in xs n ≡ true → lies_in (x ∷ xs) n ≡ true
lies_later x xs n e = or_right (int_le x.0 n && int_le n x.1) (lies_in xs n) e

record Parted (last : ℤ) (x : ℤ × ℤ) (xs : List (ℤ × ℤ)) : Type 0 where
  gap : int_le (last +ℤ pos 2) x.0 ≡ true
  full : int_le x.0 x.1 ≡ true
  rest : are_parted_from x.1 xs ≡ true

parted : (last : ℤ) (x : ℤ × ℤ) (xs : List (ℤ × ℤ)) → are_parted_from last (x ∷ xs) ≡ true → Parted last x xs
parted last x xs e =
    let p = and_elim (int_le (last +ℤ pos 2) x.0 && int_le x.0 x.1) (are_parted_from x.1 xs) e in
    let q = and_elim (int_le (last +ℤ pos 2) x.0) (int_le x.0 x.1) p.0 in record { gap = q.0; full = q.1; rest = p.1 }

far : (last : ℤ) (xs : List (ℤ × ℤ)) (n : ℤ) → are_parted_from last xs ≡ true → lies_in xs n ≡ true → int_le (last +ℤ pos 2) n ≡ true
far last [] n p e = absurd (true≢false (sym e))
far last (x ∷ xs) n p e = go (parted last x xs p) (lies_split x xs n e) (far x.1 xs n)
  where
    go : Parted last x xs → ((int_le x.0 n ≡ true) × (int_le n x.1 ≡ true)) ⊎ (lies_in xs n ≡ true)
        → (are_parted_from x.1 xs ≡ true → lies_in xs n ≡ true → int_le (x.1 +ℤ pos 2) n ≡ true) → int_le (last +ℤ pos 2) n ≡ true
    go q (inl l) rec = le_chain (last +ℤ pos 2) x.0 n q.gap l.0
    go q (inr r) rec = le_far last x.0 x.1 n q.gap q.full (rec q.rest r)

-- ---- a range for each interval

-- ranges of the property that begin beyond a number, as many as the intervals
record Ranges (R : ℤ × ℤ → Type 0) (last : ℤ) (xs : List (ℤ × ℤ)) : Type 0 where
  shown : List (ℤ × ℤ)
  same : length shown ≡ length xs
  apart : IsApart shown
  each : AllByRecursion R shown
  beyond : AllByRecursion (λ range. int_le (last +ℤ pos 2) range.0 ≡ true) shown

-- an integer of a range
abbrev Between : (ℤ × ℤ → Type 0) → ℤ → Type 0
Between R n = (range : ℤ × ℤ) × R range × (range.0 ≤ℤ n) × (n ≤ℤ range.1)

one_less : (a : ℤ) → a ≤ℤ (a -ℤ pos 1) → ⊥
one_less a l = omega (arith, ints)

module _ (R : ℤ × ℤ → Type 0) (all : List (ℤ × ℤ)) (integers : (n : ℤ) → (lies_in all n ≡ true) ↔ Between R n) where
  -- the integers beyond the last one lie in these
  abbrev Behind : ℤ → List (ℤ × ℤ) → Type 0
  Behind last xs = (n : ℤ) → int_le (last +ℤ pos 1) n ≡ true → lies_in all n ≡ true → lies_in xs n ≡ true

  -- the interval's first integer is that of a range
  first_range : (last : ℤ) (x : ℤ × ℤ) (xs : List (ℤ × ℤ)) → Parted last x xs → Behind last (x ∷ xs) → lies_in all x.0 ≡ true
      → (range : ℤ × ℤ) × R range × (range.0 ≡ x.0)
  first_range last x xs p behind here = go ((integers x.0).0 here)
    where
      before : (a : ℤ) → int_le a (a -ℤ pos 1) ≡ true → ⊥
      before a e = grind (arith, nat_tests, ints)

      beyond : (a c : ℤ) → int_le (a +ℤ pos 2) c ≡ true → int_le (a +ℤ pos 1) (c -ℤ pos 1) ≡ true
      beyond a c e = grind (arith, nat_tests, ints)

      gone : (a c : ℤ) → int_le a c ≡ true → int_le (c +ℤ pos 2) (a -ℤ pos 1) ≡ true → ⊥
      gone a c e f = grind (arith, nat_tests, ints)

      nothing : lies_in (x ∷ xs) (x.0 -ℤ pos 1) ≡ true → ⊥
      nothing e = split (lies_split x xs (x.0 -ℤ pos 1) e)
        where
          split : ((int_le x.0 (x.0 -ℤ pos 1) ≡ true) × (int_le (x.0 -ℤ pos 1) x.1 ≡ true)) ⊎ (lies_in xs (x.0 -ℤ pos 1) ≡ true) → ⊥
          split (inl l) = before x.0 l.0
          split (inr l) = gone x.0 x.1 p.full (far x.1 xs (x.0 -ℤ pos 1) p.rest l)

      lower : (a c : ℤ) → int_le a (c -ℤ pos 1) ≡ true → a ≤ℤ (c -ℤ pos 1)
      lower a c e = grind (arith, nat_tests, ints)

      upper : (a c : ℤ) → c ≤ℤ a → (c -ℤ pos 1) ≤ℤ a
      upper a c l = omega (arith, ints)

      level : (a c : ℤ) → int_le a (c -ℤ pos 1) ≡ false → a ≤ℤ c → a ≡ c
      level a c e l = grind (arith, nat_tests, ints)

      same : (r : Between R x.0) → (t : Bool) → int_le r.0.0 (x.0 -ℤ pos 1) ≡ t → r.0.0 ≡ x.0
      same r true e =
          absurd (nothing (behind (x.0 -ℤ pos 1) (beyond last x.0 p.gap)
          ((integers (x.0 -ℤ pos 1)).1 (r.0, r.1, lower r.0.0 x.0 e, upper r.0.1 x.0 r.3))))
      same r false e = level r.0.0 x.0 e r.2

      go : Between R x.0 → (range : ℤ × ℤ) × R range × (range.0 ≡ x.0)
      go r = (r.0, r.1, same r (int_le r.0.0 (x.0 -ℤ pos 1)) refl)

  ranges : (last : ℤ) (xs : List (ℤ × ℤ)) → are_parted_from last xs ≡ true → Behind last xs → ((n : ℤ) → lies_in xs n ≡ true → lies_in all n ≡ true) → Ranges R last xs
  ranges last [] p behind sub = record { shown = []; same = refl; apart = tt; each = tt; beyond = tt }
  ranges last (x ∷ xs) p behind sub =
      let q = parted last x xs p in
      let one = first_range last x xs q behind (sub x.0 (lies_here x xs x.0 (le_itself x.0) q.full)) in
      let rest = ranges x.1 xs q.rest (λ n l e. later q n l (lies_split x xs n (behind n (further last x.0 x.1 n q.gap q.full l) e))) (λ n e. sub n (lies_later x xs n e)) in record {
        shown = one.0 ∷ rest.shown;
        same = ap suc rest.same;
        apart = (
          λ m.
              apart x.0 x.1 q.full (subst (λ a. int_le (x.1 +ℤ pos 2) a ≡ true) one.2
              (property_member (λ (range : ℤ × ℤ). int_le (x.1 +ℤ pos 2) range.0 ≡ true) rest.shown one.0 rest.beyond m)),
          rest.apart,
        );
        each = (one.1, rest.each);
        beyond = (
          subst (λ a. int_le (last +ℤ pos 2) a ≡ true) (sym one.2) q.gap,
          property_map (λ (range : ℤ × ℤ). int_le (x.1 +ℤ pos 2) range.0 ≡ true) (λ (range : ℤ × ℤ). int_le (last +ℤ pos 2) range.0 ≡ true)
              (λ range e. le_far last x.0 x.1 range.0 q.gap q.full e) rest.shown rest.beyond,
        );
      }
    where
      further : (a b c n : ℤ) → int_le (a +ℤ pos 2) b ≡ true → int_le b c ≡ true → int_le (c +ℤ pos 1) n ≡ true → int_le (a +ℤ pos 1) n ≡ true
      further a b c n p q r = grind (arith, nat_tests, ints)

      above : (c n : ℤ) → int_le (c +ℤ pos 1) n ≡ true → int_le n c ≡ true → ⊥
      above c n p q = grind (arith, nat_tests, ints)

      apart : (a c : ℤ) → int_le a c ≡ true → int_le (c +ℤ pos 2) a ≡ true → ⊥
      apart a c p q = grind (arith, nat_tests, ints)

      later : Parted last x xs → (n : ℤ) → int_le (x.1 +ℤ pos 1) n ≡ true
          → ((int_le x.0 n ≡ true) × (int_le n x.1 ≡ true)) ⊎ (lies_in xs n ≡ true) → lies_in xs n ≡ true
      later q n l (inl e) = absurd (above x.1 n l e.1)
      later q n l (inr e) = e

  pub few_intervals : are_parted all ≡ true → (Exceeds R most → ⊥) → nat_le (length all) most ≡ true
  few_intervals p few = go (found all p (λ n e. e) (λ n e. e))
    where
      found : (xs : List (ℤ × ℤ)) → are_parted xs ≡ true → ((n : ℤ) → lies_in all n ≡ true → lies_in xs n ≡ true) → ((n : ℤ) → lies_in xs n ≡ true → lies_in all n ≡ true)
          → (last : ℤ) × Ranges R last xs
      found [] p f g = (pos 0, ranges (pos 0) [] refl (λ n l e. f n e) g)
      found (x ∷ xs) p f g =
          let q = and_elim (int_le x.0 x.1) (are_parted_from x.1 xs) p in (
            x.0 -ℤ pos 2,
            ranges (x.0 -ℤ pos 2) (x ∷ xs)
                (and_intro (int_le ((x.0 -ℤ pos 2) +ℤ pos 2) x.0 && int_le x.0 x.1) (are_parted_from x.1 xs)
                (and_intro (int_le ((x.0 -ℤ pos 2) +ℤ pos 2) x.0) (int_le x.0 x.1) (back x.0) q.0) q.1) (λ n l e. f n e) g,
          )
        where
          back : (a : ℤ) → int_le ((a -ℤ pos 2) +ℤ pos 2) a ≡ true
          back a = grind (arith, nat_tests, ints)

      past : (m n : ℕ) → nat_le m n ≡ false → n < m
      past m n t = grind (arith, nat_tests)

      go : (last : ℤ) × Ranges R last all → nat_le (length all) most ≡ true
      go r = within (nat_le (length all) most) refl
        where
          within : (t : Bool) → nat_le (length all) most ≡ t → nat_le (length all) most ≡ true
          within true e = e
          within false e =
              absurd (few (record { shown = r.1.shown; apart = r.1.apart; each = r.1.each; more = subst (λ n. most < n) (sym r.1.same) (past (length all) most e) }))
