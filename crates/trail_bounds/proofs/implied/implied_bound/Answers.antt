use Rattle.std.proofs.Common.{rules, FitsSigned}
use Rattle.std.specs.Int.{w128}
use Rattle.std.proofs.lemmas.Int.{to_z-of_z}
use Rattle.trail_bounds.proofs.Needing.{rests_from, need_from}
use Rattle.trail_bounds.proofs.implied.implied_bound.Goals as goal

pub returns-clause-none : goal.returns-clause-none
returns-clause-none c =
    let fc : FitsSigned w128 c.signed.result = search rules in
    let w = simp to_z-of_z at c.narrowed.ensures.none in
    rests_from c.args.trail.now c.args.side c.args.item c.args.slack c.signed.result c.range_on.result.low c.range_on.result.high c.narrowed.result c.signed.ensures.value c.range_on.ensures.low c.range_on.ensures.high w

pub returns-clause-some : goal.returns-clause-some
returns-clause-some c =
    let fc : FitsSigned w128 c.signed.result = search rules in
    let w = simp to_z-of_z at c.narrowed.ensures.some in
    need_from c.args.trail.now c.args.side c.args.item c.args.slack c.signed.result c.range_on.result.low c.range_on.result.high c.narrowed.result c.requires.assignment c.requires.named c.signed.ensures.value c.range_on.ensures.low c.range_on.ensures.high w
