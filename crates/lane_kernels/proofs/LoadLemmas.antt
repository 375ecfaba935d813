-- The load of intervals, from one place on, and the sum of four lanes.
use Rattle.std.proofs.Common.{◌≡◌, ◌∙◌, ◌+◌, ◌-◌, ◌%◌, ◌≤◌, ◌<◌, ◌&&◌, ℕ, ℤ, pos, negsuc, ◌+ℤ◌, ◌≤ℤ◌, zero, suc, Bool, true, false, cond, refl, ap, arith, List, [], ◌∷◌, length, drop, get_or, w64, to_z, of_z, SFits, inl, inr}
use Rattle.std.proofs.lemmas.Int.{to_z_pos, to_z-of_z, ints}
use Rattle.std.proofs.lemmas.Bool.{cases_lt}
use Rattle.lane_kernels.specs.Columns.{within_load, load_of_one, IsEnd, IsDuration}

-- what place i adds
abbrev pub load_at : ℤ → ℤ → List ℤ → List ℤ → List ℤ → ℕ → ℤ
load_at a b lows highs durations i = load_of_one a b (get_or lows i (pos 0)) (get_or highs i (pos 0)) (get_or durations i (pos 0))

-- the load from place i on
abbrev pub load_from : ℤ → ℤ → List ℤ → List ℤ → List ℤ → ℕ → ℤ
load_from a b lows highs durations i = within_load a b (drop i lows) (drop i highs) (drop i durations)

load_from_suc : (a b : ℤ) (lows highs durations : List ℤ) (i : ℕ) → i < length lows → i < length highs → i < length durations
    → load_from a b lows highs durations i ≡ load_at a b lows highs durations i +ℤ load_from a b lows highs durations (suc i)
load_from_suc a b [] highs durations i l h d = absurd (omega arith)
load_from_suc a b (x ∷ xs) [] durations i l h d = absurd (omega arith)
load_from_suc a b (x ∷ xs) (y ∷ ys) [] i l h d = absurd (omega arith)
load_from_suc a b (x ∷ xs) (y ∷ ys) (z ∷ zs) zero l h d = refl
load_from_suc a b (x ∷ xs) (y ∷ ys) (z ∷ zs) (suc i) l h d = load_from_suc a b xs ys zs i (omega arith) (omega arith) (omega arith)

pub load_from_next : (a b : ℤ) (lows highs durations : List ℤ) (i j : ℕ) → j ≡ i + 1 → i < length lows → i < length highs → i < length durations
    → load_from a b lows highs durations i ≡ load_at a b lows highs durations i +ℤ load_from a b lows highs durations j
load_from_next a b lows highs durations i j e l h d =
    let next : j ≡ suc i = omega arith in
    rw next (load_from_suc a b lows highs durations i l h d)

-- what four places from i on add
abbrev pub load_at_four : ℤ → ℤ → List ℤ → List ℤ → List ℤ → ℕ → ℤ
load_at_four a b lows highs durations i = load_at a b lows highs durations i
    +ℤ (load_at a b lows highs durations (i + 1) +ℤ (load_at a b lows highs durations (i + 2) +ℤ load_at a b lows highs durations (i + 3)))

pub load_from_four : (a b : ℤ) (lows highs durations : List ℤ) (i : ℕ) → i + 4 ≤ length lows → i + 4 ≤ length highs → i + 4 ≤ length durations
    → load_from a b lows highs durations i ≡ load_at_four a b lows highs durations i +ℤ load_from a b lows highs durations (i + 4)
load_from_four a b lows highs durations i l h d =
    let first = load_from_next a b lows highs durations i (i + 1) (omega arith) (omega arith) (omega arith) (omega arith) in
    let second = load_from_next a b lows highs durations (i + 1) (i + 2) (omega arith) (omega arith) (omega arith) (omega arith) in
    let third = load_from_next a b lows highs durations (i + 2) (i + 3) (omega arith) (omega arith) (omega arith) (omega arith) in
    let fourth = load_from_next a b lows highs durations (i + 3) (i + 4) (omega arith) (omega arith) (omega arith) (omega arith) in
    omega (arith, ints, first, second, third, fourth)

-- sums of ends and loads fit their type
pub fits_between : (z : ℤ) → negsuc 4611686018427387903 ≤ℤ z → z ≤ℤ pos 9223372036854775807 → SFits w64 z
fits_between (pos n) low high = record { sfits = omega (arith, ints) }
fits_between (negsuc n) low high = record { sfits = omega (arith, ints) }

-- from nothing to the greatest duration
abbrev pub InOne : ℤ → Type 0
InOne z = (pos 0 ≤ℤ z) × (z ≤ℤ pos 2147483647)

pub picked-bounds : (p : Bool) (d : ℤ) → IsDuration d → InOne (cond p d (pos 0))
picked-bounds true d fits = fits
picked-bounds false d fits = (omega (arith, ints), omega (arith, ints))

-- where one comparison fails, nothing is picked
pub picked_late : (p q : Bool) (d : ℤ) → q ≡ false → pos 0 ≡ cond (p && q) d (pos 0)
picked_late true q d fails = rw fails refl
picked_late false q d fails = refl

pub picked_early : (p q : Bool) (d : ℤ) → p ≡ false → pos 0 ≡ cond (p && q) d (pos 0)
picked_early p q d fails = rw fails refl

added_below : (h d : ℕ) → d ≤ h → h < 4611686018427387904 → to_z w64 ((18446744073709551616 - suc h + d) % 18446744073709551616) ≡ negsuc h +ℤ pos d
added_below h d below few =
    let plain : (18446744073709551616 - suc h + d) % 18446744073709551616 ≡ of_z w64 (negsuc (h - d)) = omega arith in
    let fits : SFits w64 (negsuc (h - d)) = record { sfits = omega arith } in
    let number : negsuc (h - d) ≡ negsuc h +ℤ pos d = omega (arith, ints) in
    ap (to_z w64) plain ∙ to_z-of_z w64 (negsuc (h - d)) fits ∙ number

added_above : (h d : ℕ) → h < d → d < 4611686018427387904 → to_z w64 ((18446744073709551616 - suc h + d) % 18446744073709551616) ≡ negsuc h +ℤ pos d
added_above h d above few =
    let plain : (18446744073709551616 - suc h + d) % 18446744073709551616 ≡ d - suc h = omega arith in
    let number : pos (d - suc h) ≡ negsuc h +ℤ pos d = omega (arith, ints) in
    ap (to_z w64) plain ∙ to_z_pos w64 (d - suc h) (omega arith) ∙ number

-- the lanes' sum of an end and a duration does not wrap
pub added : (h d : ℤ) → IsEnd h → IsDuration d → to_z w64 ((of_z w64 h + of_z w64 d) % 18446744073709551616) ≡ h +ℤ d
added (pos h) (pos d) e f = omega (arith, ints)
added (negsuc h) (pos d) e f =
    elim (cases_lt h d) [
      | inl above ↦ added_above h d above (omega (arith, ints))
      | inr below ↦ added_below h d below (omega (arith, ints))
    ]
added (pos h) (negsuc d) e f = absurd (omega (arith, ints))
added (negsuc h) (negsuc d) e f = absurd (omega (arith, ints))

-- a picked lane holds the picked number
record Picked (p : Bool) (d : ℤ) : Type 0 where
  value : ℕ
  lane : cond p (of_z w64 d) 0 ≡ value
  number : cond p d (pos 0) ≡ pos value
  most : value ≤ 2147483647

picked : (p : Bool) (d : ℤ) → IsDuration d → Picked p d
picked true (pos d) f = record { value = d; lane = refl; number = refl; most = omega (arith, ints) }
picked true (negsuc d) f = absurd (omega (arith, ints))
picked false d f = record { value = 0; lane = refl; number = refl; most = omega arith }

sum_small : (k l m n : ℕ) → k ≤ 2147483647 → l ≤ 2147483647 → m ≤ 2147483647 → n ≤ 2147483647
    → to_z w64 (((((0 + k) % 18446744073709551616 + l) % 18446744073709551616 + m) % 18446744073709551616 + n) % 18446744073709551616) ≡ pos (k + (l + (m + n)))
sum_small k l m n hk hl hm hn =
    let plain : ((((0 + k) % 18446744073709551616 + l) % 18446744073709551616 + m) % 18446744073709551616 + n) % 18446744073709551616 ≡ k + (l + (m + n)) = omega arith in
    rw plain (to_z_pos w64 (k + (l + (m + n))) (omega arith))

-- the sum of four picked lanes
pub sum_four : (p q r s : Bool) (d e f g : ℤ) → IsDuration d → IsDuration e → IsDuration f → IsDuration g
    → to_z w64 (((((0 + cond p (of_z w64 d) 0) % 18446744073709551616 + cond q (of_z w64 e) 0) % 18446744073709551616 + cond r (of_z w64 f) 0) % 18446744073709551616 + cond s (of_z w64 g) 0) % 18446744073709551616)
    ≡ cond p d (pos 0) +ℤ (cond q e (pos 0) +ℤ (cond r f (pos 0) +ℤ cond s g (pos 0)))
sum_four p q r s d e f g hd he hf hg =
    let first = picked p d hd in
    let second = picked q e he in
    let third = picked r f hf in
    let fourth = picked s g hg in
    simp (first.lane, second.lane, third.lane, fourth.lane, first.number, second.number, third.number, fourth.number)
    (sum_small first.value second.value third.value fourth.value first.most second.most third.most fourth.most)
