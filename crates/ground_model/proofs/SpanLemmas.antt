-- Tuples as spans.
use Rattle.std.proofs.Common.{◌≡◌, ℕ, Bool, ◌&&◌, ℤ, List, [], ◌∷◌, map, refl, sym, ◌∙◌, ap₂}
use Rattle.std.specs.List.{list_all}
use Rattle.ground_model.specs.declared.linear.Place.{Place}
use Rattle.ground_model.specs.Spans.{span_of, differ_by_value, are_apart_spans}
use Rattle.ground_model.specs.Truth.{all_pairs, differ, are_apart}
use Rattle.ground_model.specs.View.{place_of}

all_map : {X Y : Type 0} (f : X → Y) (test : Y → Bool) (xs : List X) → list_all test (map f xs) ≡ list_all (λ x. test (f x)) xs
all_map f test [] = refl
all_map f test (x ∷ xs) = ap₂ ◌&&◌ refl (all_map f test xs)

pub pairs_map : {X Y : Type 0} (f : X → Y) (test : Y → Y → Bool) (xs : List X) → all_pairs test (map f xs) ≡ all_pairs (λ a b. test (f a) (f b)) xs
pairs_map f test [] = refl
pairs_map f test (x ∷ xs) = ap₂ ◌&&◌ (all_map f (test (f x)) xs) (pairs_map f test xs)

module _ (values : ℕ → ℤ) (places : List Place) where
  pub distinct_spans : all_pairs differ_by_value (map (span_of values) places) ≡ all_pairs (differ values) (map (place_of []) places)
  distinct_spans = pairs_map (span_of values) differ_by_value places ∙ sym (pairs_map (place_of []) (differ values) places)

  pub disjoint_spans : all_pairs are_apart_spans (map (span_of values) places) ≡ all_pairs (are_apart values) (map (place_of []) places)
  disjoint_spans = pairs_map (span_of values) are_apart_spans places ∙ sym (pairs_map (place_of []) (are_apart values) places)
