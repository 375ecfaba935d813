use Rattle.std.proofs.Common.{rules, ◌+◌, w64, pos, SFits, get_or, arith, ◌+ℤ◌}
use Rattle.std.proofs.lemmas.Int.{to_z-of_z, ints}
use Rattle.lane_kernels.specs.Columns.{is_within}
use Rattle.lane_kernels.proofs.LaneLemmas.{top-lanes}
use Rattle.lane_kernels.proofs.LoadLemmas.{load_from_four, added, sum_four, picked-bounds}
use Rattle.lane_kernels.proofs.load.load_four.Goals as goal

pub returns : goal.returns
returns c =
    let lows = c.args.lows.now in
    let highs = c.args.highs.now in
    let durations = c.args.durations.now in
    let i = c.args.place in
    let a = c.args.a in
    let b = c.args.b in
    let fits_a : SFits w64 a = c.ranges.a in
    let fits_b : SFits w64 b = c.ranges.b in
    let low_0 : SFits w64 (get_or lows i (pos 0)) = search rules in
    let low_1 : SFits w64 (get_or lows (i + 1) (pos 0)) = search rules in
    let low_2 : SFits w64 (get_or lows (i + 2) (pos 0)) = search rules in
    let low_3 : SFits w64 (get_or lows (i + 3) (pos 0)) = search rules in
    let high_0 : SFits w64 (get_or highs i (pos 0)) = search rules in
    let high_1 : SFits w64 (get_or highs (i + 1) (pos 0)) = search rules in
    let high_2 : SFits w64 (get_or highs (i + 2) (pos 0)) = search rules in
    let high_3 : SFits w64 (get_or highs (i + 3) (pos 0)) = search rules in
    let long_0 : SFits w64 (get_or durations i (pos 0)) = search rules in
    let long_1 : SFits w64 (get_or durations (i + 1) (pos 0)) = search rules in
    let long_2 : SFits w64 (get_or durations (i + 2) (pos 0)) = search rules in
    let long_3 : SFits w64 (get_or durations (i + 3) (pos 0)) = search rules in
    let added_0 = added (get_or highs i (pos 0)) (get_or durations i (pos 0)) (c.requires.ends i (pos 0) (omega arith)) (c.requires.lengths i (pos 0) (omega arith)) in
    let added_1 = added (get_or highs (i + 1) (pos 0)) (get_or durations (i + 1) (pos 0)) (c.requires.ends (i + 1) (pos 0) (omega arith)) (c.requires.lengths (i + 1) (pos 0) (omega arith)) in
    let added_2 = added (get_or highs (i + 2) (pos 0)) (get_or durations (i + 2) (pos 0)) (c.requires.ends (i + 2) (pos 0) (omega arith)) (c.requires.lengths (i + 2) (pos 0) (omega arith)) in
    let added_3 = added (get_or highs (i + 3) (pos 0)) (get_or durations (i + 3) (pos 0)) (c.requires.ends (i + 3) (pos 0) (omega arith)) (c.requires.lengths (i + 3) (pos 0) (omega arith)) in
    let four = sum_four
    (is_within a b (get_or lows i (pos 0)) (get_or highs i (pos 0) +ℤ get_or durations i (pos 0)))
    (is_within a b (get_or lows (i + 1) (pos 0)) (get_or highs (i + 1) (pos 0) +ℤ get_or durations (i + 1) (pos 0)))
    (is_within a b (get_or lows (i + 2) (pos 0)) (get_or highs (i + 2) (pos 0) +ℤ get_or durations (i + 2) (pos 0)))
    (is_within a b (get_or lows (i + 3) (pos 0)) (get_or highs (i + 3) (pos 0) +ℤ get_or durations (i + 3) (pos 0)))
    (get_or durations i (pos 0)) (get_or durations (i + 1) (pos 0)) (get_or durations (i + 2) (pos 0)) (get_or durations (i + 3) (pos 0))
    (c.requires.lengths i (pos 0) (omega arith)) (c.requires.lengths (i + 1) (pos 0) (omega arith))
    (c.requires.lengths (i + 2) (pos 0) (omega arith)) (c.requires.lengths (i + 3) (pos 0) (omega arith)) in
    let bounds_0 = picked-bounds (is_within a b (get_or lows i (pos 0)) (get_or highs i (pos 0) +ℤ get_or durations i (pos 0))) (get_or durations i (pos 0)) (c.requires.lengths i (pos 0) (omega arith)) in
    let bounds_1 = picked-bounds (is_within a b (get_or lows (i + 1) (pos 0)) (get_or highs (i + 1) (pos 0) +ℤ get_or durations (i + 1) (pos 0))) (get_or durations (i + 1) (pos 0)) (c.requires.lengths (i + 1) (pos 0) (omega arith)) in
    let bounds_2 = picked-bounds (is_within a b (get_or lows (i + 2) (pos 0)) (get_or highs (i + 2) (pos 0) +ℤ get_or durations (i + 2) (pos 0))) (get_or durations (i + 2) (pos 0)) (c.requires.lengths (i + 2) (pos 0) (omega arith)) in
    let bounds_3 = picked-bounds (is_within a b (get_or lows (i + 3) (pos 0)) (get_or highs (i + 3) (pos 0) +ℤ get_or durations (i + 3) (pos 0))) (get_or durations (i + 3) (pos 0)) (c.requires.lengths (i + 3) (pos 0) (omega arith)) in
    let from_here = load_from_four a b lows highs durations i c.requires.lows c.requires.highs c.requires.durations in
    simp (to_z-of_z, top-lanes, added_0, added_1, added_2, added_3, four) (record {
      least = omega (arith, ints, bounds_0, bounds_1, bounds_2, bounds_3);
      most = omega (arith, ints, bounds_0, bounds_1, bounds_2, bounds_3);
      from_here = from_here;
    })
