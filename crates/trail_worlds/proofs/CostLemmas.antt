-- Where all is decided the objective's greatest sum is the cost.
use Rattle.std.proofs.Common.{◌≡◌, ℕ, List, [], ◌∷◌, map, length, refl, sym, ◌∙◌, ap, subst, ℤ, ◌+ℤ◌, ◌*ℤ◌, IsTrue}
use Rattle.std.specs.List.{AllByRecursion, list_all}
use Rattle.ground_model.specs.declared.program.GroundProgram.{GroundProgram}
use Rattle.ground_model.specs.Answers.{IsNumbered, value_at}
use Rattle.ground_model.specs.Sound.{first_places}
use Rattle.ground_model.specs.Truth.{pairs_value}
use Rattle.ground_model.specs.World.{world_of}
use Rattle.ground_model.proofs.MemberLemmas.{property_map}
use Rattle.linear_normal.specs.declared.constraint.Item.TheVariants.{Value}
use Rattle.linear_normal.specs.declared.numbered.Numbered.{Numbered}
use Rattle.linear_normal.specs.Numbering.{numbering}
use Rattle.linear_normal.specs.Truth.{items_value}
use Rattle.linear_normal.proofs.OverLemmas.{moved_over}
use Rattle.numbering_laws.specs.Items.{is_item_within, objective_items}
use Rattle.numbering_laws.proofs.ItemLemmas.{items_law}
use Rattle.numbering_laws.proofs.ObjectiveLemmas.{objective_law}
use Rattle.trail.specs.declared.shape.Shape.{Shape}
use Rattle.trail.specs.Assignment.{Assignment, IsAssignment, lower_on}
use Rattle.trail_worlds.specs.Total.{shape_of, IsTotal}
use Rattle.trail_worlds.specs.Worlds.{truths_on, answer_on}
use Rattle.trail_worlds.specs.Sums.{CostLaw}
use Rattle.trail_worlds.proofs.TrailLemmas.{value_is}
use Rattle.trail_worlds.proofs.TruthLemmas.{pairs_same}
use Rattle.trail_worlds.proofs.SumLemmas.{sum_law}

pairs_are_items : (t : Assignment) (pairs : List (ℕ × ℤ)) → pairs_value (λ x. lower_on t x) pairs ≡ items_value (truths_on t) (map (λ pair. Value pair.0 pair.1) pairs)
pairs_are_items t [] = refl
pairs_are_items t (pair ∷ pairs) = ap (λ z. (pair.1 *ℤ lower_on t pair.0) +ℤ z) (pairs_are_items t pairs)

module _ (program : GroundProgram) (t : Assignment) (is : IsAssignment t) (shape : t.shape ≡ shape_of program) (total : IsTotal t) where
  abbrev N : Numbered
  N = numbering program

  named : AllByRecursion (λ pair. IsNumbered (length program.variables) pair.0) N.objective.pairs
  named = moved_over (length program.variables) (first_places program.smaller) (first_places program.larger)

  values_same : pairs_value (value_at (answer_on t).values) N.objective.pairs ≡ pairs_value (λ x. lower_on t x) N.objective.pairs
  values_same =
      pairs_same (value_at (answer_on t).values) (λ x. lower_on t x) N.objective.pairs
      (property_map (λ pair. IsNumbered (length program.variables) pair.0) (λ pair. value_at (answer_on t).values pair.0 ≡ lower_on t pair.0)
      (λ pair k. value_is t pair.0 (subst (λ (s : Shape). IsNumbered s.variables pair.0) (sym shape) k)) N.objective.pairs named)

  within : IsTrue (list_all (is_item_within t.shape.variables t.shape.constraints) (objective_items N))
  within = subst (λ (s : Shape). IsTrue (list_all (is_item_within s.variables s.constraints) (objective_items N))) (sym shape) (items_law program).objective_within

pub cost_law : CostLaw
cost_law program t is shape total =
    sym (objective_law program (world_of (answer_on t)))
    ∙ ap (λ z. z +ℤ (numbering program).objective.constant)
    (values_same program t is shape total
    ∙ pairs_are_items t (numbering program).objective.pairs
    ∙ sym (sum_law t is total (objective_items (numbering program)) (within program t is shape total)).greatest)
