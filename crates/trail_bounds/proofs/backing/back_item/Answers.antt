use Rattle.std.proofs.Common.{rules, FitsSigned, ◌∙◌, ap}
use Rattle.std.specs.Int.{w128}
use Rattle.std.proofs.lemmas.Int.{to_z-of_z}
use Rattle.trail.specs.declared.shape.Shape.{Shape}
use Rattle.trail_bounds.specs.Items.{low_end, high_end}
use Rattle.trail_bounds.proofs.Backs.{back_some, back_none, ends_low, ends_high}
use Rattle.trail_bounds.proofs.backing.back_item.Goals as goal

pub weakest-requires-clause-low : goal.weakest-requires-clause-low
weakest-requires-clause-low c =
    ends_low c.args.trail.now c.args.item c.range_on-range.result.low c.range_of_ends-ends.result.low c.range_on-range.ensures.low (c.range_of_ends-ends.ensures.low ∙ ap (λ (s : Shape). low_end s.ends c.args.item) c.shape.ensures.value)

pub weakest-requires-clause-high : goal.weakest-requires-clause-high
weakest-requires-clause-high c =
    ends_high c.args.trail.now c.args.item c.range_on-range.result.high c.range_of_ends-ends.result.high c.range_on-range.ensures.high (c.range_of_ends-ends.ensures.high ∙ ap (λ (s : Shape). high_end s.ends c.args.item) c.shape.ensures.value)

pub returns-in-Ends : goal.returns-in-Ends
returns-in-Ends c =
    let fc : FitsSigned w128 c.signed.result = search rules in
    let b = simp to_z-of_z at c.in-Ends.ensures in
    back_none c.args.trail.now c.args.side c.args.item c.args.lits.now.items c.signed.result c.range_on-range.result.low c.range_on-range.result.high c.range_of_ends-ends.result.low c.range_of_ends-ends.result.high c.args.slack c.in-Ends.left
    c.signed.ensures.value c.range_on-range.ensures.low c.range_on-range.ensures.high
    (c.range_of_ends-ends.ensures.low ∙ ap (λ (s : Shape). low_end s.ends c.args.item) c.shape.ensures.value) (c.range_of_ends-ends.ensures.high ∙ ap (λ (s : Shape). high_end s.ends c.args.item) c.shape.ensures.value) b

pub returns-in_ok-push-in-Bound : goal.returns-in_ok-push-in-Bound
returns-in_ok-push-in-Bound c =
    let fc : FitsSigned w128 c.signed.result = search rules in
    let b = simp to_z-of_z at c.in-Bound.ensures in
    back_some c.args.trail.now c.args.side c.args.item c.args.lits.now.items c.push.new.self.items c.signed.result c.range_on-range.result.low c.range_on-range.result.high c.range_of_ends-ends.result.low c.range_of_ends-ends.result.high c.args.slack c.in-Bound.left c.in-Bound.lit
    c.requires.assignment c.requires.named c.signed.ensures.value c.range_on-range.ensures.low c.range_on-range.ensures.high
    (c.range_of_ends-ends.ensures.low ∙ ap (λ (s : Shape). low_end s.ends c.args.item) c.shape.ensures.value) (c.range_of_ends-ends.ensures.high ∙ ap (λ (s : Shape). high_end s.ends c.args.item) c.shape.ensures.value) b c.in_ok-push-in-Bound.ensures.items
