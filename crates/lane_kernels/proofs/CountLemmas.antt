-- The count of intervals, from one place on.
use Rattle.std.proofs.Common.{◌≡◌, ◌+◌, ◌≤◌, ◌<◌, ◌%◌, ◌∙◌, ℕ, ℤ, pos, zero, suc, refl, sym, subst, arith, List, [], ◌∷◌, length, drop, get_or}
use Rattle.lane_kernels.specs.Columns.{within_count, count_of_one, is_within}
use Rattle.lane_kernels.specs.inner.Hits.{AreHits, hits_of_two}
use Rattle.lane_kernels.proofs.LaneLemmas.{hit-most}

-- what place i adds
abbrev pub count_at : ℤ → ℤ → List ℤ → List ℤ → ℕ → ℕ
count_at a b lows highs i = count_of_one a b (get_or lows i (pos 0)) (get_or highs i (pos 0))

-- the count from place i on
abbrev pub count_from : ℤ → ℤ → List ℤ → List ℤ → ℕ → ℕ
count_from a b lows highs i = within_count a b (drop i lows) (drop i highs)

count_from_suc : (a b : ℤ) (lows highs : List ℤ) (i : ℕ) → i < length lows → i < length highs
    → count_from a b lows highs i ≡ count_at a b lows highs i + count_from a b lows highs (suc i)
count_from_suc a b [] highs i l h = absurd (omega arith)
count_from_suc a b (x ∷ xs) [] i l h = absurd (omega arith)
count_from_suc a b (x ∷ xs) (y ∷ ys) zero l h = refl
count_from_suc a b (x ∷ xs) (y ∷ ys) (suc i) l h = count_from_suc a b xs ys i (omega arith) (omega arith)

pub count_from_next : (a b : ℤ) (lows highs : List ℤ) (i j : ℕ) → j ≡ i + 1 → i < length lows → i < length highs
    → count_from a b lows highs i ≡ count_at a b lows highs i + count_from a b lows highs j
count_from_next a b lows highs i j e l h =
    let next : j ≡ suc i = omega arith in
    rw next (count_from_suc a b lows highs i l h)

-- one place adds one at most
pub count_at-most : (a b : ℤ) (lows highs : List ℤ) (i : ℕ) → count_at a b lows highs i ≤ 1
count_at-most a b lows highs i = hit-most (is_within a b (get_or lows i (pos 0)) (get_or highs i (pos 0)))

-- two lanes of one place each
pub hits_of_two_places : (a b : ℤ) (lows highs : List ℤ) (i : ℕ) → i + 2 ≤ length lows → i + 2 ≤ length highs
    → AreHits a b lows highs i (i + 2) (hits_of_two a b lows highs i)
hits_of_two_places a b lows highs i l h =
    let first = count_from_next a b lows highs i (i + 1) (omega arith) (omega arith) (omega arith) in
    let second = count_from_next a b lows highs (i + 1) (i + 2) (omega arith) (omega arith) (omega arith) in
    let most_first = count_at-most a b lows highs i in
    let most_second = count_at-most a b lows highs (i + 1) in
    record {
      left = count_at a b lows highs i;
      right = count_at a b lows highs (i + 1);
      two = refl;
      few = omega (arith, most_first, most_second);
      counted = omega (arith, first, second);
    }

-- no interval
pub no_hits : (a b : ℤ) (lows highs : List ℤ) → AreHits a b lows highs 0 0 (0 ∷ 0 ∷ [])
no_hits a b lows highs = record { left = 0; right = 0; two = refl; few = omega arith; counted = omega arith }

-- lanes added to those before them
pub hits_and_more : (a b : ℤ) (lows highs : List ℤ) (from mid to : ℕ) (first second both : List ℕ)
    (f : AreHits a b lows highs from mid first) (s : AreHits a b lows highs mid to second) → to < 18446744073709551616
    → both ≡ (f.left + s.left) % 18446744073709551616 ∷ (f.right + s.right) % 18446744073709551616 ∷ []
    → AreHits a b lows highs from to both
hits_and_more a b lows highs from mid to first second both f s small is =
    let few_first = f.few in
    let few_second = s.few in
    let counted_first = f.counted in
    let counted_second = s.counted in
    let left_fits : (f.left + s.left) % 18446744073709551616 ≡ f.left + s.left = omega (arith, few_first, few_second) in
    let right_fits : (f.right + s.right) % 18446744073709551616 ≡ f.right + s.right = omega (arith, few_first, few_second) in
    record {
      left = f.left + s.left;
      right = f.right + s.right;
      two = is ∙ (λ i. left_fits i ∷ right_fits i ∷ []);
      few = omega (arith, few_first, few_second);
      counted = omega (arith, counted_first, counted_second);
    }

-- as many places again
pub hits_of_twice : (a b : ℤ) (lows highs : List ℤ) (from n mid to : ℕ) (first second both : List ℕ) → mid ≡ from + n → to ≡ mid + n
    → (f : AreHits a b lows highs from (from + n) first) (s : AreHits a b lows highs mid (mid + n) second) → to < 18446744073709551616
    → both ≡ (f.left + s.left) % 18446744073709551616 ∷ (f.right + s.right) % 18446744073709551616 ∷ []
    → AreHits a b lows highs from to both
hits_of_twice a b lows highs from n mid to first second both middle end f s small is =
    subst (λ t. AreHits a b lows highs from t both) (sym end)
    (hits_and_more a b lows highs from mid (mid + n) first second both (subst (λ t. AreHits a b lows highs from t first) (sym middle) f) s (omega (arith, end)) is)
