-- The truth of a theory atom does not depend on further places.
use Rattle.std.proofs.Common.{◌≡◌, ◌+ℤ◌, ℕ, Bool, ◌&&◌, ℤ, List, [], ◌∷◌, map, refl, ap, ap₂}
use Rattle.std.specs.List.{list_all}
use Rattle.symbols.specs.Symbol.{Symbol}
use Rattle.ground_model.specs.declared.linear.Place.{Place}
use Rattle.ground_model.specs.declared.linear.Relation.{Relation}
use Rattle.ground_model.specs.declared.rule.TheoryHead.{TheoryHead}
use Rattle.ground_model.specs.declared.rule.TheoryHead.TheVariants as t
use Rattle.ground_model.specs.Rule.{PlaceOf}
use Rattle.ground_model.specs.Truth.{compares, value_of, sum_of, relation_truth, all_pairs, differ, are_apart, theory_truth}
use Rattle.ground_model.specs.View.{linear_of, place_of, relation_of, theory_of}

module _ (values : ℕ → ℤ) (symbols others : List Symbol) where
  pub sum_alike : (places : List Place) → sum_of values (map (place_of symbols) places) ≡ sum_of values (map (place_of others) places)
  sum_alike [] = refl
  sum_alike (place ∷ rest) = ap (λ sum. value_of values (linear_of place.linear) +ℤ sum) (sum_alike rest)

  pub relation_alike : (relation : Relation) → relation_truth values (relation_of symbols relation) ≡ relation_truth values (relation_of others relation)
  relation_alike relation =
      ap (λ sum. compares relation.rel sum (value_of values (linear_of relation.right))) (sum_alike relation.elements)

  all_alike : (test : PlaceOf ℕ → PlaceOf ℕ → Bool) → ((a b : Place) → test (place_of symbols a) (place_of symbols b) ≡ test (place_of others a) (place_of others b))
      → (place : Place) (rest : List Place) → list_all (test (place_of symbols place)) (map (place_of symbols) rest) ≡ list_all (test (place_of others place)) (map (place_of others) rest)
  all_alike test same place [] = refl
  all_alike test same place (other ∷ rest) = ap₂ ◌&&◌ (same place other) (all_alike test same place rest)

  pairs_alike : (test : PlaceOf ℕ → PlaceOf ℕ → Bool) → ((a b : Place) → test (place_of symbols a) (place_of symbols b) ≡ test (place_of others a) (place_of others b))
      → (places : List Place) → all_pairs test (map (place_of symbols) places) ≡ all_pairs test (map (place_of others) places)
  pairs_alike test same [] = refl
  pairs_alike test same (place ∷ rest) = ap₂ ◌&&◌ (all_alike test same place rest) (pairs_alike test same rest)

  pub theory_alike : (theory : TheoryHead) → theory_truth values (theory_of symbols theory) ≡ theory_truth values (theory_of others theory)
  theory_alike (t.Relation relation) = relation_alike relation
  theory_alike (t.Domain numbers x) = refl
  theory_alike (t.Distinct places) = pairs_alike (differ values) (λ a b. refl) places
  theory_alike (t.Disjoint places) = pairs_alike (are_apart values) (λ a b. refl) places
