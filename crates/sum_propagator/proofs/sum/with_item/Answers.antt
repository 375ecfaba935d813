use Rattle.std.proofs.Common.{rules, ◌+ℤ◌, ap, FitsSigned}
use Rattle.std.specs.Int.{w128}
use Rattle.std.proofs.lemmas.Int.{to_z-of_z}
use Rattle.trail_bounds.specs.OnTrail.{bounds_on}
use Rattle.trail_bounds.proofs.ItemSums.{one_least, one_greatest}
use Rattle.sum_propagator.proofs.sum.with_item.Goals as goal

pub returns-clause-least : goal.returns-clause-least
returns-clause-least c =
    let small = c.requires.small.least in
    let more = c.least_of.ensures.small in
    let fc : FitsSigned w128 c.signed-c.result = search rules in
    let fa : FitsSigned w128 c.args.totals.least = search (rules, small) in
    let fr : FitsSigned w128 c.least_of.result = search rules in
    let fs : FitsSigned w128 (c.args.totals.least +ℤ c.least_of.result) = search (rules, small, more) in
    let v = simp to_z-of_z at c.least_of.ensures.value in
    simp to_z-of_z (ap (λ z. c.args.totals.least +ℤ z) (one_least (bounds_on c.args.trail.now) c.args.item c.signed-c.result c.range_on-range.result.low c.range_on-range.result.high c.least_of.result v c.signed-c.ensures.value c.range_on-range.ensures.low c.range_on-range.ensures.high))

pub returns-clause-greatest : goal.returns-clause-greatest
returns-clause-greatest c =
    let small = c.requires.small.greatest in
    let more = c.greatest_of.ensures.small in
    let fc : FitsSigned w128 c.signed-c.result = search rules in
    let fa : FitsSigned w128 c.args.totals.greatest = search (rules, small) in
    let fr : FitsSigned w128 c.greatest_of.result = search rules in
    let fs : FitsSigned w128 (c.args.totals.greatest +ℤ c.greatest_of.result) = search (rules, small, more) in
    let v = simp to_z-of_z at c.greatest_of.ensures.value in
    simp to_z-of_z (ap (λ z. c.args.totals.greatest +ℤ z) (one_greatest (bounds_on c.args.trail.now) c.args.item c.signed-c.result c.range_on-range.result.low c.range_on-range.result.high c.greatest_of.result v c.signed-c.ensures.value c.range_on-range.ensures.low c.range_on-range.ensures.high))
