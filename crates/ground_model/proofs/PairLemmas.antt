-- A test of all pairs does not look at the order of a list.
use Rattle.std.proofs.Common.{◌≡◌, ◌<◌, ℕ, zero, suc, Bool, true, false, cond, ◌==◌, List, [], ◌∷◌, get_or, length, length-set, refl, sym, ◌∙◌, ap, subst, true≢false, eqb-true, get_or-set_same, get_or-set_other, arith}
use Rattle.std.specs.List.{list_all, swap}
use Rattle.std.specs.List.Sorted.{IsPermutation, apply_swaps, SwapsInRange}
use Rattle.std.proofs.Math.ListN.{set}
use Rattle.std.proofs.lemmas.List.Edits.{swap_is, length-swap}
use Rattle.std.proofs.lemmas.List.Sorted.{IsPermutation-sym}
use Rattle.ground_model.specs.Truth.{all_pairs}
use Rattle.ground_model.proofs.Bools.{and_elim, and_intro, same_test}
use Rattle.ground_model.proofs.MemberLemmas.{same_nat}

module _ {X : Type 0} (test : X → X → Bool) (both : (x y : X) → test x y ≡ true → test y x ≡ true) where
  -- the test is true of the members at each two places
  abbrev pub AllApart : List X → Type 0
  AllApart xs = (i j : ℕ) (d : X) → (i ≡ j → ⊥) → i < length xs → j < length xs → test (get_or xs i d) (get_or xs j d) ≡ true

  at_place : (p : X → Bool) (xs : List X) (j : ℕ) (d : X) → list_all p xs ≡ true → j < length xs → p (get_or xs j d) ≡ true
  at_place p [] j d e below = absurd (omega arith)
  at_place p (x ∷ xs) zero d e below = (and_elim (p x) (list_all p xs) e).0
  at_place p (x ∷ xs) (suc j) d e below = at_place p xs j d (and_elim (p x) (list_all p xs) e).1 (omega arith)

  from_places : (p : X → Bool) (xs : List X) → ((j : ℕ) (d : X) → j < length xs → p (get_or xs j d) ≡ true) → list_all p xs ≡ true
  from_places p [] h = refl
  from_places p (x ∷ xs) h = and_intro (p x) (list_all p xs) (h 0 x (omega arith)) (from_places p xs (λ j d below. h (suc j) d (omega arith)))

  apart_from_pairs : (xs : List X) → all_pairs test xs ≡ true → AllApart xs
  apart_from_pairs [] e i j d differ low high = absurd (omega arith)
  apart_from_pairs (x ∷ xs) e zero zero d differ low high = absurd (differ refl)
  apart_from_pairs (x ∷ xs) e zero (suc j) d differ low high = at_place (test x) xs j d (and_elim (list_all (test x) xs) (all_pairs test xs) e).0 (omega arith)
  apart_from_pairs (x ∷ xs) e (suc i) zero d differ low high =
      both x (get_or xs i d) (at_place (test x) xs i d (and_elim (list_all (test x) xs) (all_pairs test xs) e).0 (omega arith))
  apart_from_pairs (x ∷ xs) e (suc i) (suc j) d differ low high =
      apart_from_pairs xs (and_elim (list_all (test x) xs) (all_pairs test xs) e).1 i j d (λ s. differ (ap suc s)) (omega arith) (omega arith)

  pairs_from_apart : (xs : List X) → AllApart xs → all_pairs test xs ≡ true
  pairs_from_apart [] apart = refl
  pairs_from_apart (x ∷ xs) apart =
      and_intro (list_all (test x) xs) (all_pairs test xs)
      (from_places (test x) xs (λ j d below. apart 0 (suc j) d (λ s. absurd (omega arith)) (omega arith) (omega arith)))
      (pairs_from_apart xs (λ i j d differ low high. apart (suc i) (suc j) d (λ s. let t : i ≡ j = omega arith in differ t) (omega arith) (omega arith)))

  -- where the member at a place stood before a swap
  abbrev source : ℕ → ℕ → ℕ → ℕ
  source a b k = cond (k == b) a (cond (k == a) b k)

  source_is : (xs : List X) (a b k : ℕ) (d : X) → a < length xs → b < length xs → get_or (swap xs a b) k d ≡ get_or xs (source a b k) d
  source_is xs a b k d low high = ap (λ ys. get_or ys k d) (sym (swap_is xs a b d low high)) ∙ go (k == b) (k == a) refl refl
    where
      later : length (set xs a (get_or xs b d)) ≡ length xs
      later = length-set xs a (get_or xs b d)

      other : (n : ℕ) → (k == n) ≡ false → k ≡ n → ⊥
      other n e s = true≢false (sym (same_nat k n s) ∙ e)

      go : (s t : Bool) → (k == b) ≡ s → (k == a) ≡ t
          → get_or (set (set xs a (get_or xs b d)) b (get_or xs a d)) k d ≡ get_or xs (cond s a (cond t b k)) d
      go true t e f =
          let s : k ≡ b = eqb-true k b e in
          let size = later in
          subst (λ n. get_or (set (set xs a (get_or xs b d)) b (get_or xs a d)) n d ≡ get_or xs a d) (sym s)
          (get_or-set_same (set xs a (get_or xs b d)) b (get_or xs a d) d (omega arith))
      go false true e f =
          let s : k ≡ a = eqb-true k a f in
          get_or-set_other (set xs a (get_or xs b d)) b k (get_or xs a d) d (other b e)
          ∙ subst (λ n. get_or (set xs a (get_or xs b d)) n d ≡ get_or xs b d) (sym s) (get_or-set_same xs a (get_or xs b d) d low)
      go false false e f =
          get_or-set_other (set xs a (get_or xs b d)) b k (get_or xs a d) d (other b e)
          ∙ get_or-set_other xs a k (get_or xs b d) d (other a f)

  source_apart : (a b i j : ℕ) → (i ≡ j → ⊥) → source a b i ≡ source a b j → ⊥
  source_apart a b i j differ same = go (i == b) (i == a) (j == b) (j == a) refl refl refl refl same
    where
      other : (k n : ℕ) → (k == n) ≡ false → k ≡ n → ⊥
      other k n e s = true≢false (sym (same_nat k n s) ∙ e)

      go : (s t u v : Bool) → (i == b) ≡ s → (i == a) ≡ t → (j == b) ≡ u → (j == a) ≡ v → cond s a (cond t b i) ≡ cond u a (cond v b j) → ⊥
      go true t true v e f g h k = let p : i ≡ b = eqb-true i b e in let q : j ≡ b = eqb-true j b g in differ (p ∙ sym q)
      go true t false true e f g h k =
          let p : i ≡ b = eqb-true i b e in let q : j ≡ a = eqb-true j a h in differ (p ∙ sym k ∙ sym q)
      go true t false false e f g h k = other j a h (sym k)
      go false true true v e f g h k =
          let p : i ≡ a = eqb-true i a f in let q : j ≡ b = eqb-true j b g in differ (p ∙ sym k ∙ sym q)
      go false true false true e f g h k = let p : i ≡ a = eqb-true i a f in let q : j ≡ a = eqb-true j a h in differ (p ∙ sym q)
      go false true false false e f g h k = other j b g (sym k)
      go false false true v e f g h k = other i a f k
      go false false false true e f g h k = other i b e k
      go false false false false e f g h k = differ k

  source_below : (n a b k : ℕ) → a < n → b < n → k < n → source a b k < n
  source_below n a b k low high below = go (k == b) (k == a)
    where
      go : (s t : Bool) → cond s a (cond t b k) < n
      go true t = low
      go false true = high
      go false false = below

  apart_swap : (xs : List X) (a b : ℕ) → a < length xs → b < length xs → AllApart xs → AllApart (swap xs a b)
  apart_swap xs a b low high apart i j d differ first second =
      let size = length-swap xs a b in
      let p : i < length xs = omega arith in
      let q : j < length xs = omega arith in
      subst (λ y. test (get_or (swap xs a b) i d) y ≡ true) (sym (source_is xs a b j d low high))
      (subst (λ x. test x (get_or xs (source a b j) d) ≡ true) (sym (source_is xs a b i d low high))
      (apart (source a b i) (source a b j) d (source_apart a b i j differ) (source_below (length xs) a b i low high p) (source_below (length xs) a b j low high q)))

  length_swaps : (xs : List X) (moves : List (ℕ × ℕ)) → length (apply_swaps xs moves) ≡ length xs
  length_swaps xs [] = refl
  length_swaps xs (move ∷ moves) = length-swap (apply_swaps xs moves) move.0 move.1 ∙ length_swaps xs moves

  apart_swaps : (xs : List X) (moves : List (ℕ × ℕ)) → SwapsInRange (length xs) moves → AllApart xs → AllApart (apply_swaps xs moves)
  apart_swaps xs [] below apart = apart
  apart_swaps xs (move ∷ moves) below apart =
      let size = length_swaps xs moves in
      let low = below.0 in
      let high = below.1 in
      apart_swap (apply_swaps xs moves) move.0 move.1 (omega arith) (omega arith) (apart_swaps xs moves below.2 apart)

  moved : (xs ys : List X) → IsPermutation xs ys → all_pairs test xs ≡ true → all_pairs test ys ≡ true
  moved xs ys permutation e =
      pairs_from_apart ys (subst AllApart (sym permutation.is) (apart_swaps xs permutation.moves permutation.below (apart_from_pairs xs e)))

  pub pairs_permuted : (xs ys : List X) → IsPermutation xs ys → all_pairs test xs ≡ all_pairs test ys
  pairs_permuted xs ys permutation =
      same_test (all_pairs test xs) (all_pairs test ys) (moved xs ys permutation) (moved ys xs (IsPermutation-sym xs ys permutation))
