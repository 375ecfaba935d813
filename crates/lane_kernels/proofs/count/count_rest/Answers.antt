use Rattle.std.proofs.Common.{rules, ◌+◌, w64, pos, SFits, get_or, arith}
use Rattle.std.proofs.lemmas.Int.{to_z-of_z}
use Rattle.lane_kernels.proofs.CountLemmas.{count_from_next, count_at-most}
use Rattle.lane_kernels.proofs.count.count_rest.Goals as goal

pub loop-place-preserved : goal.loop-place-preserved
loop-place-preserved c =
    let lows = c.args.lows.now in
    let highs = c.args.highs.now in
    let i = c.loop-place.place in
    let fits_a : SFits w64 c.args.a = c.ranges.a in
    let fits_b : SFits w64 c.args.b = c.ranges.b in
    let low : SFits w64 (get_or lows i (pos 0)) = search rules in
    let high : SFits w64 (get_or highs i (pos 0)) = search rules in
    let one = simp to_z-of_z at c.count_place-count.ensures in
    let held = simp to_z-of_z at c.loop-place.invariant in
    let next = count_from_next c.args.a c.args.b lows highs i (i + 1) (omega arith) (omega arith) (omega arith) in
    let most = count_at-most c.args.a c.args.b lows highs i in
    simp to_z-of_z (record {
      counted = omega (arith, one, held.counted, next);
      most = omega (arith, one, held.most, most);
    })
