-- Sums by variable, raised and set to 0.
use Rattle.std.proofs.Common.{◌≡◌, ◌<◌, ◌≤◌, ◌^◌, ◌+◌, ◌-◌, ◌*◌, ℕ, zero, suc, Bool, true, false, cond, ◌==◌, ℤ, pos, ◌+ℤ◌, unsigned_abs, List, [], ◌∷◌, drop, get_or, length, length-set, slice_set, refl, sym, ◌∙◌, ap, subst, FitsSigned, to_z, of_z, w64, arith}
use Rattle.std.proofs.lemmas.Bool.Decides.{nat_tests}
use Rattle.std.proofs.lemmas.Int.{ints, to_z-of_z, fits_signed_from_abs}
use Rattle.std.specs.List.{AllByRecursion}
use Rattle.ground_model.specs.declared.linear.Place.{Place}
use Rattle.ground_model.specs.Sound.{coefficient, total_coefficient, first_places, most}
use Rattle.ground_model.specs.Sizes.{IsSizedLinear}
use Rattle.ground_model.proofs.Products.{drop_next}
use Rattle.ground_parts.specs.inner.Totals.{sum_at, HavePlaces, AreWithin}

other_number : (v x : ℕ) → (v ≡ x → ⊥) → (v == x) ≡ false
other_number v x e = grind (arith, nat_tests)

nothing_more : (z : ℤ) → z ≡ z +ℤ pos 0
nothing_more z = omega (arith, ints)

pub sum_raised : (sums : List ℤ) (v x : ℕ) (c : ℤ) → v < length sums
    → sum_at (slice_set sums v (sum_at sums v +ℤ c)) x ≡ sum_at sums x +ℤ cond (v == x) c (pos 0)
sum_raised [] v x c below = absurd (omega arith)
sum_raised (s ∷ sums) zero zero c below = refl
sum_raised (s ∷ sums) zero (suc x) c below = rw (other_number zero (suc x) (λ e. omega arith)) (nothing_more (sum_at sums x))
sum_raised (s ∷ sums) (suc v) zero c below = rw (other_number (suc v) zero (λ e. omega arith)) (nothing_more s)
sum_raised (s ∷ sums) (suc v) (suc x) c below = sum_raised sums v x c (omega arith) ∙ ap (λ t. sum_at sums x +ℤ cond t c (pos 0)) (shifted v x)
  where
    shifted : (v x : ℕ) → (v == x) ≡ (suc v == suc x)
    shifted v x = grind (arith, nat_tests)

pub record AddStep (pairs : List (ℕ × ℤ)) (i : ℕ) (before sums : List ℤ) (total : ℕ → ℤ) : Type 0 where
  pub left : HavePlaces (length sums) (drop (i + 1) pairs)
  pub so_far : (x : ℕ) → (sum_at sums x +ℤ coefficient x (drop (i + 1) pairs)) ≡ total x
  pub within : (n : ℕ) → AreWithin n before → AreWithin (n + (i + 1)) sums

raise : (t : Bool) (c : ℤ) → unsigned_abs c < 2 ^ 62 → unsigned_abs (cond t c (pos 0)) ≤ 2 ^ 62
raise true c small = omega arith
raise false c small = omega (arith, ints)

pub add_step : (pairs : List (ℕ × ℤ)) (i : ℕ) (d : ℕ × ℤ) (before sums new : List ℤ) (total : ℕ → ℤ) → i < length pairs
    → HavePlaces (length sums) (drop i pairs)
    → ((x : ℕ) → (sum_at sums x +ℤ coefficient x (drop i pairs)) ≡ total x)
    → ((n : ℕ) → AreWithin n before → AreWithin (n + i) sums)
    → new ≡ slice_set sums (get_or pairs i d).0 (sum_at sums (get_or pairs i d).0 +ℤ to_z w64 (of_z w64 (get_or pairs i d).1))
    → AddStep pairs i before new total
add_step pairs i d before sums new total below left so_far within is =
    let next = drop_next pairs i d below in
    let left = rw next at left in
    let pair : ℕ × ℤ = get_or pairs i d in
    let small = left.0.small in
    let above = left.0.above in
    let known = left.0.known in
    let room : pair.0 < length sums = omega arith in
    let fits : FitsSigned w64 pair.1 = fits_signed_from_abs w64 pair.1 (omega arith) in
    let is : new ≡ slice_set sums pair.0 (sum_at sums pair.0 +ℤ pair.1) = is ∙ ap (λ z. slice_set sums pair.0 (sum_at sums pair.0 +ℤ z)) (to_z-of_z w64 pair.1 fits) in
    let size : length sums ≡ length new = sym (ap length is ∙ length-set sums pair.0 (sum_at sums pair.0 +ℤ pair.1)) in
    let value : (x : ℕ) → sum_at new x ≡ sum_at sums x +ℤ cond (pair.0 == x) pair.1 (pos 0) = λ x. ap (λ ss. sum_at ss x) is ∙ sum_raised sums pair.0 x pair.1 room in
    record {
      left = subst (λ n. HavePlaces n (drop (i + 1) pairs)) size left.1;
      so_far = λ x. added (sum_at new x) (sum_at sums x) (cond (pair.0 == x) pair.1 (pos 0)) (coefficient x (drop (i + 1) pairs)) (total x) (value x)
          (subst (λ ps. (sum_at sums x +ℤ coefficient x ps) ≡ total x) next (so_far x));
      within = λ n given x. larger (sum_at new x) (sum_at sums x) (cond (pair.0 == x) pair.1 (pos 0)) n i (value x) (within n given x) (raise (pair.0 == x) pair.1 small);
    }
  where
    added : (new old c rest total : ℤ) → new ≡ old +ℤ c → (old +ℤ (c +ℤ rest)) ≡ total → (new +ℤ rest) ≡ total
    added new old c rest total e s = omega (arith, ints)

    larger : (new old c : ℤ) (n i : ℕ) → new ≡ old +ℤ c → unsigned_abs old ≤ (n + i) * 2 ^ 62 → unsigned_abs c ≤ 2 ^ 62 → unsigned_abs new ≤ (n + (i + 1)) * 2 ^ 62
    larger new old c n i e s small = omega (arith, ints)

pub within_more : (m n : ℕ) (sums : List ℤ) → m ≤ n → AreWithin m sums → AreWithin n sums
within_more m n sums le within x = let w = within x in omega arith

pub record PlacesStep (places : List Place) (i : ℕ) (sums : List ℤ) (total : ℕ → ℤ) : Type 0 where
  pub left : AllByRecursion (λ place. IsSizedLinear (length sums - 1) place.linear) (drop (i + 1) places)
  pub so_far : (x : ℕ) → (sum_at sums x +ℤ total_coefficient x (first_places (drop (i + 1) places))) ≡ total x
  pub within : AreWithin ((i + 1) * 65536) sums

pub places_step : (places : List Place) (i : ℕ) (place : Place) (sums new : List ℤ) (total : ℕ → ℤ) → drop i places ≡ place ∷ drop (i + 1) places
    → length new ≡ length sums
    → AllByRecursion (λ place. IsSizedLinear (length sums - 1) place.linear) (drop i places)
    → ((x : ℕ) → (sum_at sums x +ℤ total_coefficient x (first_places (drop i places))) ≡ total x)
    → AreWithin (i * 65536) sums
    → ((x : ℕ) → sum_at new x ≡ sum_at sums x +ℤ coefficient x place.linear.pairs)
    → ((n : ℕ) → AreWithin n sums → AreWithin (n + most) new)
    → PlacesStep places i new total
places_step places i place sums new total next size left so_far within value more =
    let s : (i + 1) * 65536 ≡ i * 65536 + most = omega arith in
    record {
      left = subst (λ n. AllByRecursion (λ place. IsSizedLinear (n - 1) place.linear) (drop (i + 1) places)) (sym size)
          (subst (AllByRecursion (λ place. IsSizedLinear (length sums - 1) place.linear)) next left).1;
      so_far = λ x. added (sum_at new x) (sum_at sums x) (coefficient x place.linear.pairs) (total_coefficient x (first_places (drop (i + 1) places))) (total x) (value x)
          (subst (λ ps. (sum_at sums x +ℤ total_coefficient x (first_places ps)) ≡ total x) next (so_far x));
      within = subst (λ n. AreWithin n new) (sym s) (more (i * 65536) within);
    }
  where
    added : (new old c rest total : ℤ) → new ≡ old +ℤ c → (old +ℤ (c +ℤ rest)) ≡ total → (new +ℤ rest) ≡ total
    added new old c rest total e s = omega (arith, ints)

-- SUMS OVER THE ENDS

pub record SpanStep (pairs : List (ℕ × ℤ)) (i : ℕ) (sum_of : List (ℕ × ℤ) → ℤ) (total sum : ℤ) : Type 0 where
  pub so_far : sum +ℤ sum_of (drop (i + 1) pairs) ≡ total
  pub left : AllByRecursion (λ pair. unsigned_abs pair.1 < 2 ^ 62) (drop (i + 1) pairs)
  pub size : unsigned_abs sum ≤ 2 ^ 62 + (i + 1) * 2 ^ 92

pub span_step : (pairs : List (ℕ × ℤ)) (i : ℕ) (d : ℕ × ℤ) (product : ℤ → ℤ) (sum_of : List (ℕ × ℤ) → ℤ) (total sum term : ℤ)
    → ((pair : ℕ × ℤ) (rest : List (ℕ × ℤ)) → sum_of (pair ∷ rest) ≡ product pair.1 +ℤ sum_of rest)
    → i < length pairs
    → sum +ℤ sum_of (drop i pairs) ≡ total
    → AllByRecursion (λ pair. unsigned_abs pair.1 < 2 ^ 62) (drop i pairs)
    → unsigned_abs sum ≤ 2 ^ 62 + i * 2 ^ 92
    → term ≡ product (to_z w64 (of_z w64 (get_or pairs i d).1))
    → unsigned_abs term ≤ 2 ^ 92
    → SpanStep pairs i sum_of total (sum +ℤ term)
span_step pairs i d product sum_of total sum term law below so_far left size is bound =
    let next = drop_next pairs i d below in
    let left = rw next at left in
    let pair : ℕ × ℤ = get_or pairs i d in
    let small = left.0 in
    let fits : FitsSigned w64 pair.1 = fits_signed_from_abs w64 pair.1 (omega arith) in
    let is : term ≡ product pair.1 = is ∙ ap product (to_z-of_z w64 pair.1 fits) in
    let so_far : sum +ℤ sum_of (pair ∷ drop (i + 1) pairs) ≡ total = subst (λ ps. sum +ℤ sum_of ps ≡ total) next so_far in
    record {
      so_far = added sum term (product pair.1) (sum_of (pair ∷ drop (i + 1) pairs)) (sum_of (drop (i + 1) pairs)) total is (law pair (drop (i + 1) pairs)) so_far;
      left = left.1;
      size = omega (arith, ints);
    }
  where
    added : (sum term product whole rest total : ℤ) → term ≡ product → whole ≡ product +ℤ rest → sum +ℤ whole ≡ total → (sum +ℤ term) +ℤ rest ≡ total
    added sum term product whole rest total e f g = omega (arith, ints)
