-- Values of linear terms and of tuples under any values.
use Rattle.std.proofs.Common.{◌≡◌, ℕ, ◌+◌, ◌-◌, ◌*◌, ◌<◌, ◌≤◌, ◌^◌, Bool, true, false, ◌&&◌, ℤ, ◌+ℤ◌, ◌*ℤ◌, unsigned_abs, List, [], ◌∷◌, drop, take, take_all, get_or, length, length-drop, map, refl, sym, ◌∙◌, ap, ap₂, subst, FitsSigned, to_z, of_z, w32, w64, arith}
use Rattle.std.proofs.lemmas.Int.{ints, to_z-of_z}
use Rattle.std.specs.List.{AllByRecursion, list_all}
use Rattle.ground_model.specs.declared.linear.Place.{Place}
use Rattle.ground_model.specs.Rule.{PlaceOf}
use Rattle.ground_model.specs.Truth.{pairs_value, all_pairs}
use Rattle.ground_model.specs.View.{place_of}
use Rattle.ground_model.proofs.Products.{drop_next}
use Rattle.linear_normal.specs.Holds.{HasFewPairs}

pub record ValueStep (value : ℕ → ℤ) (items : List (ℕ × ℤ)) (i : ℕ) (total sum : ℤ) : Type 0 where
  pub so_far : sum +ℤ pairs_value value (drop i items) ≡ total
  pub size : unsigned_abs sum ≤ 2 ^ 63 + i * 2 ^ 94

pub value_step : (value : ℕ → ℤ) (items : List (ℕ × ℤ)) (i : ℕ) (d : ℕ × ℤ) (total sum term : ℤ) → i < length items
    → sum +ℤ pairs_value value (drop i items) ≡ total → unsigned_abs sum ≤ 2 ^ 63 + i * 2 ^ 94
    → term ≡ (get_or items i d).1 *ℤ value (get_or items i d).0 → unsigned_abs term ≤ 2 ^ 94 → ValueStep value items (i + 1) total (sum +ℤ term)
value_step value items i d total sum term below so_far size is bound = record {
  so_far = added sum term ((get_or items i d).1 *ℤ value (get_or items i d).0) (pairs_value value (drop (i + 1) items)) total is
      (subst (λ ps. sum +ℤ pairs_value value ps ≡ total) (drop_next items i d below) so_far);
  size = larger sum term size bound;
}
  where
    added : (s t p r total : ℤ) → t ≡ p → s +ℤ (p +ℤ r) ≡ total → (s +ℤ t) +ℤ r ≡ total
    added s t p r total e f = omega (arith, ints, e, f)

    larger : (s t : ℤ) → unsigned_abs s ≤ 2 ^ 63 + i * 2 ^ 94 → unsigned_abs t ≤ 2 ^ 94 → unsigned_abs (s +ℤ t) ≤ 2 ^ 63 + (i + 1) * 2 ^ 94
    larger s t e f = omega (arith, ints, e, f)

-- a product whose factors went through their types
pub typed_product : (c v : ℤ) → FitsSigned w64 c → FitsSigned w32 v → to_z w64 (of_z w64 c) *ℤ to_z w32 (of_z w32 v) ≡ c *ℤ v
typed_product c v fits small = ap₂ ◌*ℤ◌ (to_z-of_z w64 c fits) (to_z-of_z w32 v small)

-- the next tuple against all later ones
pub next_pairs : (test : PlaceOf ℕ → PlaceOf ℕ → Bool) (places : List Place) (i : ℕ) (place : Place) → i < length places → place ≡ get_or places i place
    → all_pairs test (map (place_of []) (drop i places))
    ≡ (list_all (test (place_of [] place)) (map (place_of []) (drop (i + 1) places)) && all_pairs test (map (place_of []) (drop (i + 1) places)))
next_pairs test places i place below is =
    ap (λ (ps : List Place). all_pairs test (map (place_of []) ps)) (drop_next places i place below)
    ∙ ap (λ (p : Place). list_all (test (place_of [] p)) (map (place_of []) (drop (i + 1) places)) && all_pairs test (map (place_of []) (drop (i + 1) places))) (sym is)

pub pairs_fail : (test : PlaceOf ℕ → PlaceOf ℕ → Bool) (places : List Place) (i : ℕ) (place : Place) → i < length places → place ≡ get_or places i place
    → list_all (test (place_of [] place)) (map (place_of []) (drop (i + 1) places)) ≡ false → all_pairs test (map (place_of []) (drop i places)) ≡ false
pairs_fail test places i place below is e = next_pairs test places i place below is ∙ ap (λ t. t && all_pairs test (map (place_of []) (drop (i + 1) places))) e

pub pairs_go_on : (test : PlaceOf ℕ → PlaceOf ℕ → Bool) (places : List Place) (i : ℕ) (place : Place) → i < length places → place ≡ get_or places i place
    → list_all (test (place_of [] place)) (map (place_of []) (drop (i + 1) places)) ≡ true
    → all_pairs test (map (place_of []) (drop (i + 1) places)) ≡ all_pairs test (map (place_of []) (drop i places))
pairs_go_on test places i place below is e =
    sym (next_pairs test places i place below is ∙ ap (λ t. t && all_pairs test (map (place_of []) (drop (i + 1) places))) e)

pub few_after : (places : List Place) (i : ℕ) (place : Place) → i < length places → AllByRecursion HasFewPairs (drop i places) → AllByRecursion HasFewPairs (drop (i + 1) places)
few_after places i place below few = (subst (AllByRecursion HasFewPairs) (drop_next places i place below) few).1

-- a slice from a place to the end
pub rest_of : (places : List Place) (n : ℕ) → take (length places - n) (drop n places) ≡ drop n places
rest_of places n = take_all (length places - n) (drop n places) (omega (arith, length-drop n places))
