use Rattle.std.proofs.Common.{rules, ◌+◌, w64, pos, SFits, get_or}
use Rattle.std.proofs.lemmas.Int.{to_z-of_z}
use Rattle.lane_kernels.proofs.LaneLemmas.{top-lanes, after_as_least}
use Rattle.lane_kernels.proofs.count.hits_of_two.Goals as goal

pub returns : goal.returns
returns c =
    let lows = c.args.lows.now in
    let highs = c.args.highs.now in
    let i = c.args.place in
    let fits_before : SFits w64 c.args.before = c.ranges.before in
    let fits_b : SFits w64 c.args.b = c.ranges.b in
    let low_0 : SFits w64 (get_or lows i (pos 0)) = search rules in
    let low_1 : SFits w64 (get_or lows (i + 1) (pos 0)) = search rules in
    let high_0 : SFits w64 (get_or highs i (pos 0)) = search rules in
    let high_1 : SFits w64 (get_or highs (i + 1) (pos 0)) = search rules in
    simp (to_z-of_z, top-lanes, after_as_least)
