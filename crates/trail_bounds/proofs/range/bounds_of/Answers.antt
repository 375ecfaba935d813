use Rattle.std.proofs.Common.{rules, FitsSigned, w32}
use Rattle.std.proofs.lemmas.Int.{to_z-of_z}
use Rattle.trail_bounds.proofs.Ranges.{bounds_order, lower_small, upper_small}
use Rattle.trail_bounds.proofs.range.bounds_of.Goals as goal

pub invariant_of-result : goal.invariant_of-result
invariant_of-result c =
    let t = c.args.trail.now in
    let fl : FitsSigned w32 c.lower.result = search rules in
    let fh : FitsSigned w32 c.upper.result = search rules in
    simp to_z-of_z (record {
      order = bounds_order c.args.trail.now c.args.x c.lower.result c.upper.result c.requires.assignment c.lower.ensures c.upper.ensures;
      low_small = lower_small c.args.trail.now c.args.x c.lower.result c.requires.assignment c.lower.ensures;
      high_small = upper_small c.args.trail.now c.args.x c.upper.result c.requires.assignment c.upper.ensures;
    })
