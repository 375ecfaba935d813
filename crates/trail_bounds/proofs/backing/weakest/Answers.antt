use Rattle.std.proofs.Common.{rules, FitsSigned}
use Rattle.std.specs.Int.{w128}
use Rattle.std.proofs.lemmas.Int.{to_z-of_z}
use Rattle.trail_bounds.proofs.Times.{backed, backing, near_low, near_high}
use Rattle.trail_bounds.proofs.backing.weakest.Goals as goal

pub weaker-requires-clause-low : goal.weaker-requires-clause-low
weaker-requires-clause-low c =
    let fc : FitsSigned w128 c.args.c = search rules in
    let e = simp to_z-of_z at c.distance_of-distance.ensures.low in
    simp to_z-of_z (near_low c.args.c c.args.range.low c.args.ends.low c.distance_of-distance.result c.in-Some.room e c.in-Some.ensures.room c.args.range.low_small c.args.ends.low_small)

pub weaker-requires-clause-high : goal.weaker-requires-clause-high
weaker-requires-clause-high c =
    let fc : FitsSigned w128 c.args.c = search rules in
    let e = simp to_z-of_z at c.distance_of-distance.ensures.high in
    simp to_z-of_z (near_high c.args.c c.args.range.high c.args.ends.high c.distance_of-distance.result c.in-Some.room e c.in-Some.ensures.room c.args.range.high_small c.args.ends.high_small)

pub returns-in-None : goal.returns-in-None
returns-in-None c =
    let fc : FitsSigned w128 c.args.c = search rules in
    let e = simp to_z-of_z at c.distance_of-distance.ensures.low in
    let f = simp to_z-of_z at c.distance_of-distance.ensures.high in
    backed c.args.c c.args.range.low c.args.range.high c.args.ends.low c.args.ends.high c.distance_of-distance.result c.unsigned_abs-weight.result c.args.slack c.left_after.result
    (search rules) e f c.left_after.ensures

pub returns-in-Some : goal.returns-in-Some
returns-in-Some c =
    let fc : FitsSigned w128 c.args.c = search rules in
    let e = simp to_z-of_z at c.distance_of-distance.ensures.low in
    let f = simp to_z-of_z at c.distance_of-distance.ensures.high in
    let up = simp to_z-of_z at c.weaker.ensures.low in
    let down = simp to_z-of_z at c.weaker.ensures.high in
    backing c.args.item c.args.c c.args.range.low c.args.range.high c.args.ends.low c.args.ends.high c.distance_of-distance.result c.in-Some.room c.unsigned_abs-weight.result c.args.slack c.left_after-in-Some.result c.weaker.result
    (search rules) e f c.in-Some.ensures.room c.left_after-in-Some.ensures up down
