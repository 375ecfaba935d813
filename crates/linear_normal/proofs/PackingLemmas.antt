-- Spans that lie in a window and share no point are together no longer than the window.
use Rattle.std.proofs.Common.{◌≡◌, ℕ, zero, suc, ◌+◌, ◌-◌, ◌≤◌, min, Bool, true, false, cond, ◌&&◌, ◌⊎◌, inl, inr, List, [], ◌∷◌, refl, ◌∙◌, ap, arith, nat_lt, nat_le, ltb-true, ltb-false, leb-true, leb-false}
use Rattle.std.specs.List.{AllByRecursion}
use Rattle.ground_model.proofs.Bools.{bool_cases}

-- the sum over a list
abbrev pub sum_over : {X : Type 0} → (X → ℕ) → List X → ℕ
sum_over f [] = 0
sum_over f (x ∷ xs) = f x + sum_over f xs

-- whether the point lies in the span of a start and a length
abbrev pub inside : ℕ → ℕ × ℕ → Bool
inside t span = nat_le span.0 t && nat_lt t (span.0 + span.1)

abbrev one_if : Bool → ℕ
one_if b = cond b 1 0

-- the points below a number that lie in the span
abbrev points_in : ℕ → ℕ × ℕ → ℕ
points_in zero span = 0
points_in (suc n) span = points_in n span + one_if (inside n span)

points_count : (n : ℕ) (span : ℕ × ℕ) → points_in n span ≡ min n (span.0 + span.1) - min n span.0
points_count zero span = omega arith
points_count (suc n) span = go (bool_cases (nat_le span.0 n)) (bool_cases (nat_lt n (span.0 + span.1))) (points_count n span)
  where
    go : (nat_le span.0 n ≡ true) ⊎ (nat_le span.0 n ≡ false) → (nat_lt n (span.0 + span.1) ≡ true) ⊎ (nat_lt n (span.0 + span.1) ≡ false) → points_in n span ≡ min n (span.0 + span.1) - min n span.0 → points_in n span + one_if (nat_le span.0 n && nat_lt n (span.0 + span.1)) ≡ min (suc n) (span.0 + span.1) - min (suc n) span.0
    go (inl p) (inl q) r = let a = leb-true span.0 n p in let b = ltb-true n (span.0 + span.1) q in rw (p, q) (omega arith)
    go (inl p) (inr q) r = let a = leb-true span.0 n p in let b = ltb-false n (span.0 + span.1) q in rw (p, q) (omega arith)
    go (inr p) q r = let a = leb-false span.0 n p in rw p (omega arith)

-- how many of the spans have the point
abbrev spans_at : ℕ → List (ℕ × ℕ) → ℕ
spans_at t spans = sum_over (λ span. one_if (inside t span)) spans

abbrev total_points : ℕ → List (ℕ × ℕ) → ℕ
total_points zero spans = 0
total_points (suc n) spans = total_points n spans + spans_at n spans

-- counted by spans or by points it is the same
exchange : (n : ℕ) (spans : List (ℕ × ℕ)) → sum_over (points_in n) spans ≡ total_points n spans
exchange zero spans = zeros spans
  where
    zeros : (spans : List (ℕ × ℕ)) → sum_over (points_in 0) spans ≡ 0
    zeros [] = refl
    zeros (span ∷ spans) = let r = zeros spans in omega arith
exchange (suc n) spans = split spans ∙ ap (λ k. k + spans_at n spans) (exchange n spans)
  where
    split : (spans : List (ℕ × ℕ)) → sum_over (points_in (suc n)) spans ≡ sum_over (points_in n) spans + spans_at n spans
    split [] = refl
    split (span ∷ spans) = let r = split spans in omega arith

-- no point lies in both
abbrev pub AreApart : ℕ × ℕ → ℕ × ℕ → Type 0
AreApart a b = (t : ℕ) → inside t a ≡ true → inside t b ≡ true → ⊥

-- each two of the spans are apart
abbrev pub AllApart : List (ℕ × ℕ) → Type 0
AllApart [] = Unit {0}
AllApart (span ∷ spans) = AllByRecursion (AreApart span) spans × AllApart spans

at_most_one : (t : ℕ) (spans : List (ℕ × ℕ)) → AllApart spans → spans_at t spans ≤ 1
at_most_one t [] apart = omega arith
at_most_one t (span ∷ spans) apart = go (bool_cases (inside t span)) (at_most_one t spans apart.1)
  where
    none : (spans : List (ℕ × ℕ)) → inside t span ≡ true → AllByRecursion (AreApart span) spans → spans_at t spans ≡ 0
    none [] here a = refl
    none (other ∷ spans) here a = go2 (bool_cases (inside t other)) (none spans here a.1)
      where
        go2 : (inside t other ≡ true) ⊎ (inside t other ≡ false) → spans_at t spans ≡ 0 → one_if (inside t other) + spans_at t spans ≡ 0
        go2 (inl p) r = absurd (a.0 t here p)
        go2 (inr p) r = rw p (omega arith)

    go : (inside t span ≡ true) ⊎ (inside t span ≡ false) → spans_at t spans ≤ 1 → one_if (inside t span) + spans_at t spans ≤ 1
    go (inl p) r = let z = none spans p apart.0 in rw p (omega arith)
    go (inr p) r = rw p (omega arith)

all_points : (n : ℕ) (spans : List (ℕ × ℕ)) → AllApart spans → total_points n spans ≤ n
all_points zero spans apart = omega arith
all_points (suc n) spans apart = let r = all_points n spans apart in let o = at_most_one n spans apart in omega arith

lengths : (n : ℕ) (spans : List (ℕ × ℕ)) → AllByRecursion (λ span. span.0 + span.1 ≤ n) spans → sum_over (λ span. span.1) spans ≡ sum_over (points_in n) spans
lengths n [] w = refl
lengths n (span ∷ spans) w = let r = lengths n spans w.1 in let c = points_count n span in let b = w.0 in omega arith

pub packing : (n : ℕ) (spans : List (ℕ × ℕ)) → AllByRecursion (λ span. span.0 + span.1 ≤ n) spans → AllApart spans → sum_over (λ span. span.1) spans ≤ n
packing n spans w apart = let l = lengths n spans w in let e = exchange n spans in let a = all_points n spans apart in omega arith
