use Rattle.std.proofs.Common.{◌≡◌, ℕ, true, ℤ, ◌-ℤ◌, List, sym, ◌∙◌, ap, subst}
use Rattle.std.specs.List.{AllByRecursion}
use Rattle.ground_model.specs.declared.linear.Place.{Place}
use Rattle.ground_model.specs.Sizes.{IsSoundPair}
use Rattle.ground_model.specs.Sound.{is_small, coefficient, total_constant, first_places}
use Rattle.linear_normal.specs.inner.Sums.{HasSmallNumbers, nonzero_pairs}
use Rattle.linear_normal.proofs.MovedLemmas.{moves_relation}
use Rattle.linear_normal.proofs.sums.relation_sum.Goals as goal

pub relation_pairs-requires : goal.relation_pairs-requires
relation_pairs-requires c = (moves_relation c.args.variables c.args.relation.now c.requires).pairs

pub joined-requires-clause-pairs : goal.joined-requires-clause-pairs
joined-requires-clause-pairs c =
    subst (AllByRecursion (IsSoundPair c.args.variables)) (sym c.in_ok-gathered.ensures) (moves_relation c.args.variables c.args.relation.now c.requires).sound

pub joined-requires-clause-small : goal.joined-requires-clause-small
joined-requires-clause-small c =
    subst (λ (ps : List (ℕ × ℤ)). (x : ℕ) → is_small (coefficient x ps) ≡ true) (sym c.in_ok-gathered.ensures) (moves_relation c.args.variables c.args.relation.now c.requires).small

pub number_over-constant-requires-clause-places : goal.number_over-constant-requires-clause-places
number_over-constant-requires-clause-places c = subst (AllByRecursion HasSmallNumbers) (sym c.items.ensures) (moves_relation c.args.variables c.args.relation.now c.requires).places

pub number_over-constant-requires-clause-linear : goal.number_over-constant-requires-clause-linear
number_over-constant-requires-clause-linear c = (moves_relation c.args.variables c.args.relation.now c.requires).constant

pub number_over-constant-requires-clause-small : goal.number_over-constant-requires-clause-small
number_over-constant-requires-clause-small c =
    subst (λ (places : List Place). is_small (total_constant (first_places places) -ℤ c.args.relation.now.right.constant) ≡ true) (sym c.items.ensures) (moves_relation c.args.variables c.args.relation.now c.requires).number

pub returns-clause-pairs : goal.returns-clause-pairs
returns-clause-pairs c =
    c.in_ok-pairs.ensures ∙ ap (λ (ps : List (ℕ × ℤ)). nonzero_pairs c.args.variables (λ x. coefficient x ps)) c.in_ok-gathered.ensures
    ∙ (moves_relation c.args.variables c.args.relation.now c.requires).moved
