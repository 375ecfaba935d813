-- Counts step by step.
use Rattle.std.proofs.Common.{◌≡◌, ◌<◌, ◌≤◌, ◌+◌, ◌-◌, ◌*◌, ◌^◌, drop, unsigned_abs, slice_index_or, FitsSigned, ℕ, zero, suc, Bool, true, false, ℤ, ◌+ℤ◌, List, [], ◌∷◌, filter, length, cond, refl, sym, ◌∙◌, ap, ap₂, arith}
use Rattle.std.specs.Int.{w128}
use Rattle.std.specs.List.{AllByRecursion}
use Rattle.std.proofs.lemmas.Int.{ints, fits_signed_from_abs}
use Rattle.ground_model.specs.declared.linear.Place.{Place}
use Rattle.ground_model.proofs.Products.{drop_next}
use Rattle.linear_normal.specs.Steps.{total_duration}
use Rattle.step_rules.specs.inner.Counts.{one_if, count_of, work_if, work_in}
use Rattle.step_rules.specs.inner.Sizes.{IsShort}

pub count_is : {X : Type 0} (test : X → Bool) (xs : List X) → length (filter test xs) ≡ count_of test xs
count_is test [] = refl
count_is test (x ∷ xs) = go (test x) (count_is test xs)
  where
    go : (b : Bool) → length (filter test xs) ≡ count_of test xs → length (cond b (x ∷ filter test xs) (filter test xs)) ≡ one_if b + count_of test xs
    go true e = omega (arith, e)
    go false e = omega (arith, e)

pub work_is : (test : Place → Bool) (places : List Place) → total_duration (filter test places) ≡ work_in test places
work_is test [] = refl
work_is test (place ∷ places) = go (test place) (work_is test places)
  where
    go : (b : Bool) → total_duration (filter test places) ≡ work_in test places
        → total_duration (cond b (place ∷ filter test places) (filter test places)) ≡ work_if b place +ℤ work_in test places
    go true e = ap (λ z. place.duration +ℤ z) e
    go false e = e ∙ omega (arith, ints)

pub record WorkStep (test : Place → Bool) (places : List Place) (i : ℕ) (total work term : ℤ) : Type 0 where
  pub so_far : (work +ℤ term) +ℤ work_in test (drop (i + 1) places) ≡ total
  pub short : AllByRecursion IsShort (drop (i + 1) places)
  pub size : unsigned_abs (work +ℤ term) ≤ (i + 1) * 2 ^ 31

pub work_step : (test : Place → Bool) (places : List Place) (i : ℕ) (place : Place) (total work term : ℤ) → i < length places
    → place ≡ slice_index_or places i place
    → work +ℤ work_in test (drop i places) ≡ total
    → AllByRecursion IsShort (drop i places)
    → unsigned_abs work ≤ i * 2 ^ 31
    → term ≡ work_if (test place) place
    → unsigned_abs term ≤ 2 ^ 31
    → WorkStep test places i total work term
work_step test places i place total work term below at so_far short size is small =
    let next : drop i places ≡ place ∷ drop (i + 1) places = drop_next places i place below ∙ ap (λ p. p ∷ drop (i + 1) places) (sym at) in
    let short = rw next at short in
    let so_far : work +ℤ (work_if (test place) place +ℤ work_in test (drop (i + 1) places)) ≡ total = ap (λ ps. work +ℤ work_in test ps) (sym next) ∙ so_far in
    let so_far : work +ℤ (term +ℤ work_in test (drop (i + 1) places)) ≡ total = ap (λ z. work +ℤ (z +ℤ work_in test (drop (i + 1) places))) is ∙ so_far in
    record { so_far = omega (arith, ints); short = short.1; size = omega (arith, ints) }

pub work_fits : (i : ℕ) (z : ℤ) → i < 2 ^ 32 → unsigned_abs z ≤ (i + 1) * 2 ^ 31 → FitsSigned w128 z
work_fits i z few size = fits_signed_from_abs w128 z (omega (arith, few, size))
