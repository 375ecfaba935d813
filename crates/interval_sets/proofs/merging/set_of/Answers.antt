use Rattle.std.proofs.Common.{◌≡◌, ◌≤◌, length, true, sym, subst}
use Rattle.ground_model.specs.Intervals.{are_parted}
use Rattle.interval_sets.specs.Ranges.{HasIntegersOf}
use Rattle.interval_sets.proofs.JoinLemmas.{parted_ranges, few_joined, joined_integers}
use Rattle.interval_sets.proofs.merging.set_of.Goals as goal

pub invariant_of-result : goal.invariant_of-result
invariant_of-result c = record { parted = subst (λ xs. are_parted xs ≡ true) (sym c.in-Ok.ensures) (parted_ranges c.args.ranges.now c.requires) }

pub returns-in-Ok-clause-integers : goal.returns-in-Ok-clause-integers
returns-in-Ok-clause-integers c = subst (HasIntegersOf c.args.ranges.now) (sym c.in-Ok.ensures) (joined_integers c.args.ranges.now c.requires)

pub returns-in-Ok-clause-few : goal.returns-in-Ok-clause-few
returns-in-Ok-clause-few c = subst (λ xs. length xs ≤ length c.args.ranges.now) (sym c.in-Ok.ensures) (few_joined c.args.ranges.now)
