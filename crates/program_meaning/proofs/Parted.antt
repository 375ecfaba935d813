-- Parted intervals with the same integers are the same.
use Rattle.std.proofs.Common.{◌≡◌, ◌⊎◌, inl, inr, Bool, true, false, ◌&&◌, ℤ, pos, ◌+ℤ◌, int_lt, int_le, List, [], ◌∷◌, refl, sym, ◌∙◌, ap, true≢false, arith}
use Rattle.std.proofs.lemmas.Bool.Decides.{nat_tests}
use Rattle.std.proofs.lemmas.Int.{ints}
use Rattle.ground_model.specs.Intervals.{are_parted, are_parted_from, lies_in}
use Rattle.ground_model.proofs.Bools.{and_elim, and_intro, or_elim, or_left, or_right}

itself : (a : ℤ) → int_le a a ≡ true
itself a = grind (arith, nat_tests, ints)

level : (a b : ℤ) → int_le a b ≡ true → int_le b a ≡ true → a ≡ b
level a b p q = grind (arith, nat_tests, ints)

chain : (a b c : ℤ) → int_le a b ≡ true → int_le b c ≡ true → int_le a c ≡ true
chain a b c p q = grind (arith, nat_tests, ints)

above : (a b c : ℤ) → int_le a b ≡ true → int_le (b +ℤ pos 2) c ≡ true → int_le a c ≡ true
above a b c p q = grind (arith, nat_tests, ints)

beyond : (a b c : ℤ) → int_le a b ≡ true → int_le (b +ℤ pos 2) c ≡ true → int_le (a +ℤ pos 2) c ≡ true
beyond a b c p q = grind (arith, nat_tests, ints)

not_within : (a n : ℤ) → int_le (a +ℤ pos 2) n ≡ true → int_le n a ≡ true → ⊥
not_within a n p q = grind (arith, nat_tests, ints)

next : (a b : ℤ) → int_lt a b ≡ true → int_le (a +ℤ pos 1) b ≡ true
next a b p = grind (arith, nat_tests, ints)

next_above : (a b : ℤ) → int_le a b ≡ true → int_le a (b +ℤ pos 1) ≡ true
next_above a b p = grind (arith, nat_tests, ints)

next_not : (a : ℤ) → int_le (a +ℤ pos 1) a ≡ true → ⊥
next_not a p = grind (arith, nat_tests, ints)

next_gap : (a : ℤ) → int_le (a +ℤ pos 2) (a +ℤ pos 1) ≡ true → ⊥
next_gap a p = grind (arith, nat_tests, ints)

not_less : (a b : ℤ) → (int_lt a b ≡ true → ⊥) → int_le b a ≡ true
not_less a b h = go (int_lt a b) refl
  where
    go : (t : Bool) → int_lt a b ≡ t → int_le b a ≡ true
    go true e = absurd (h e)
    go false e = grind (arith, nat_tests, ints)

-- where an integer lies
lies_split : (x : ℤ × ℤ) (xs : List (ℤ × ℤ)) (n : ℤ) → lies_in (x ∷ xs) n ≡ true → ((int_le x.0 n ≡ true) × (int_le n x.1 ≡ true)) ⊎ (lies_in xs n ≡ true)
lies_split x xs n e = go (or_elim (int_le x.0 n && int_le n x.1) (lies_in xs n) e)
  where
    go : ((int_le x.0 n && int_le n x.1) ≡ true) ⊎ (lies_in xs n ≡ true) → ((int_le x.0 n ≡ true) × (int_le n x.1 ≡ true)) ⊎ (lies_in xs n ≡ true)
    go (inl l) = inl (and_elim (int_le x.0 n) (int_le n x.1) l)
    go (inr r) = inr r

lies_here : (x : ℤ × ℤ) (xs : List (ℤ × ℤ)) (n : ℤ) → int_le x.0 n ≡ true → int_le n x.1 ≡ true → lies_in (x ∷ xs) n ≡ true
lies_here x xs n p q = or_left (int_le x.0 n && int_le n x.1) (lies_in xs n) (and_intro (int_le x.0 n) (int_le n x.1) p q)

lies_later : (x : ℤ × ℤ) (xs : List (ℤ × ℤ)) (n : ℤ) → lies_in xs n ≡ true → lies_in (x ∷ xs) n ≡ true
lies_later x xs n e = or_right (int_le x.0 n && int_le n x.1) (lies_in xs n) e

-- the parts of the test
record Parted (last : ℤ) (x : ℤ × ℤ) (xs : List (ℤ × ℤ)) : Type 0 where
  gap : int_le (last +ℤ pos 2) x.0 ≡ true
  full : int_le x.0 x.1 ≡ true
  rest : are_parted_from x.1 xs ≡ true

parted : (last : ℤ) (x : ℤ × ℤ) (xs : List (ℤ × ℤ)) → are_parted_from last (x ∷ xs) ≡ true → Parted last x xs
parted last x xs e =
    let p = and_elim (int_le (last +ℤ pos 2) x.0 && int_le x.0 x.1) (are_parted_from x.1 xs) e in
    let q = and_elim (int_le (last +ℤ pos 2) x.0) (int_le x.0 x.1) p.0 in record { gap = q.0; full = q.1; rest = p.1 }

-- an integer of a parted list lies beyond the gap
far : (last : ℤ) (xs : List (ℤ × ℤ)) (n : ℤ) → are_parted_from last xs ≡ true → lies_in xs n ≡ true → int_le (last +ℤ pos 2) n ≡ true
far last [] n p e = absurd (true≢false (sym e))
far last (x ∷ xs) n p e = go (parted last x xs p) (lies_split x xs n e) (far x.1 xs n)
  where
    go : Parted last x xs → ((int_le x.0 n ≡ true) × (int_le n x.1 ≡ true)) ⊎ (lies_in xs n ≡ true)
        → (are_parted_from x.1 xs ≡ true → lies_in xs n ≡ true → int_le (x.1 +ℤ pos 2) n ≡ true) → int_le (last +ℤ pos 2) n ≡ true
    go q (inl l) rec = chain (last +ℤ pos 2) x.0 n q.gap l.0
    go q (inr r) rec = beyond last x.1 n (chain last x.0 x.1 (lower last x.0 q.gap) q.full) (rec q.rest r)
      where
        lower : (a b : ℤ) → int_le (a +ℤ pos 2) b ≡ true → int_le a b ≡ true
        lower a b h = grind (arith, nat_tests, ints)

weaker : (last : ℤ) (xs : List (ℤ × ℤ)) → are_parted_from last xs ≡ true → are_parted xs ≡ true
weaker last [] p = refl
weaker last (x ∷ xs) p = let q = parted last x xs p in and_intro (int_le x.0 x.1) (are_parted_from x.1 xs) q.full q.rest

abbrev Within : List (ℤ × ℤ) → List (ℤ × ℤ) → Type 0
Within xs ys = (n : ℤ) → lies_in xs n ≡ true → lies_in ys n ≡ true

module _ (x y : ℤ × ℤ) (xs ys : List (ℤ × ℤ)) (fx : int_le x.0 x.1 ≡ true) (fy : int_le y.0 y.1 ≡ true)
    (px : are_parted_from x.1 xs ≡ true) (py : are_parted_from y.1 ys ≡ true) (w : Within (x ∷ xs) (y ∷ ys)) where
  low : int_le y.0 x.0 ≡ true
  low = go (lies_split y ys x.0 (w x.0 (lies_here x xs x.0 (itself x.0) fx)))
    where
      go : ((int_le y.0 x.0 ≡ true) × (int_le x.0 y.1 ≡ true)) ⊎ (lies_in ys x.0 ≡ true) → int_le y.0 x.0 ≡ true
      go (inl l) = l.0
      go (inr r) = above y.0 y.1 x.0 fy (far y.1 ys x.0 py r)

  high : int_le y.0 x.0 ≡ true → int_le x.0 y.0 ≡ true → int_lt y.1 x.1 ≡ true → ⊥
  high p q less =
      go (lies_split y ys (y.1 +ℤ pos 1) (w (y.1 +ℤ pos 1) (lies_here x xs (y.1 +ℤ pos 1) (next_above x.0 y.1 (chain x.0 y.0 y.1 q fy)) (next y.1 x.1 less))))
    where
      go : ((int_le y.0 (y.1 +ℤ pos 1) ≡ true) × (int_le (y.1 +ℤ pos 1) y.1 ≡ true)) ⊎ (lies_in ys (y.1 +ℤ pos 1) ≡ true) → ⊥
      go (inl l) = next_not y.1 l.1
      go (inr r) = next_gap y.1 (far y.1 ys (y.1 +ℤ pos 1) py r)

  rest_within : x.1 ≡ y.1 → Within xs ys
  rest_within e n l = go (lies_split y ys n (w n (lies_later x xs n l)))
    where
      go : ((int_le y.0 n ≡ true) × (int_le n y.1 ≡ true)) ⊎ (lies_in ys n ≡ true) → lies_in ys n ≡ true
      go (inl k) = absurd (not_within x.1 n (far x.1 xs n px l) (ap (int_le n) e ∙ k.1))
      go (inr r) = r

pub parted_same : (xs ys : List (ℤ × ℤ)) → are_parted xs ≡ true → are_parted ys ≡ true → Within xs ys → Within ys xs → xs ≡ ys
parted_same [] [] p q v w = refl
parted_same [] (y ∷ ys) p q v w =
    let f = and_elim (int_le y.0 y.1) (are_parted_from y.1 ys) q in absurd (true≢false (sym (w y.0 (lies_here y ys y.0 (itself y.0) f.0))))
parted_same (x ∷ xs) [] p q v w =
    let f = and_elim (int_le x.0 x.1) (are_parted_from x.1 xs) p in absurd (true≢false (sym (v x.0 (lies_here x xs x.0 (itself x.0) f.0))))
parted_same (x ∷ xs) (y ∷ ys) p q v w =
    let f = and_elim (int_le x.0 x.1) (are_parted_from x.1 xs) p in
    let g = and_elim (int_le y.0 y.1) (are_parted_from y.1 ys) q in
    let a = low x y xs ys f.0 g.0 f.1 g.1 v in
    let c = low y x ys xs g.0 f.0 g.1 f.1 w in
    let d = not_less y.1 x.1 (high x y xs ys f.0 g.0 f.1 g.1 v a c) in
    let e = not_less x.1 y.1 (high y x ys xs g.0 f.0 g.1 f.1 w c a) in
    let s : x.0 ≡ y.0 = level x.0 y.0 c a in
    let t : x.1 ≡ y.1 = level x.1 y.1 d e in
    let r = parted_same xs ys (weaker x.1 xs f.1) (weaker y.1 ys g.1) (rest_within x y xs ys f.0 g.0 f.1 g.1 v t) (rest_within y x ys xs g.0 f.0 g.1 f.1 w (sym t)) in
    (λ i. (s i, t i) ∷ r i)
