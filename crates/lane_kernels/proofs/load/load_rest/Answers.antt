use Rattle.std.proofs.Common.{rules, ◌+◌, ◌+ℤ◌, SFits, w64, to_z, arith, pos, get_or}
use Rattle.std.proofs.lemmas.Int.{to_z-of_z, ints}
use Rattle.lane_kernels.specs.Columns.{is_within}
use Rattle.lane_kernels.proofs.LoadLemmas.{fits_between, picked-bounds, load_from_next}
use Rattle.lane_kernels.proofs.load.load_rest.Goals as goal

pub overflow_add-load : goal.overflow_add-load
overflow_add-load c =
    let lows = c.args.lows.now in
    let highs = c.args.highs.now in
    let durations = c.args.durations.now in
    let i = c.loop-place.place in
    let fits_a : SFits w64 c.args.a = c.ranges.a in
    let fits_b : SFits w64 c.args.b = c.ranges.b in
    let low : SFits w64 (get_or lows i (pos 0)) = search rules in
    let high : SFits w64 (get_or highs i (pos 0)) = search rules in
    let duration : SFits w64 (get_or durations i (pos 0)) = search rules in
    let one = simp to_z-of_z at c.load_place-load.ensures in
    let fits_one : SFits w64 c.load_place-load.result = search rules in
    let bounds = picked-bounds (is_within c.args.a c.args.b (get_or lows i (pos 0)) (get_or highs i (pos 0) +ℤ get_or durations i (pos 0)))
    (get_or durations i (pos 0)) (c.requires.lengths i (pos 0) (omega arith)) in
    let least = c.loop-place.invariant.least in
    let most = c.loop-place.invariant.most in
    simp to_z-of_z (fits_between (to_z w64 c.loop-place.load-bits +ℤ c.load_place-load.result) (omega (arith, ints, one, bounds, least)) (omega (arith, ints, one, bounds, most)))

pub loop-place-preserved : goal.loop-place-preserved
loop-place-preserved c =
    let lows = c.args.lows.now in
    let highs = c.args.highs.now in
    let durations = c.args.durations.now in
    let i = c.loop-place.place in
    let fits_a : SFits w64 c.args.a = c.ranges.a in
    let fits_b : SFits w64 c.args.b = c.ranges.b in
    let low : SFits w64 (get_or lows i (pos 0)) = search rules in
    let high : SFits w64 (get_or highs i (pos 0)) = search rules in
    let duration : SFits w64 (get_or durations i (pos 0)) = search rules in
    let one = simp to_z-of_z at c.load_place-load.ensures in
    let fits_one : SFits w64 c.load_place-load.result = search rules in
    let bounds = picked-bounds (is_within c.args.a c.args.b (get_or lows i (pos 0)) (get_or highs i (pos 0) +ℤ get_or durations i (pos 0)))
    (get_or durations i (pos 0)) (c.requires.lengths i (pos 0) (omega arith)) in
    let held = simp to_z-of_z at c.loop-place.invariant in
    let least = held.least in
    let most = held.most in
    let fits_sum : SFits w64 (to_z w64 c.loop-place.load-bits +ℤ c.load_place-load.result) =
    fits_between (to_z w64 c.loop-place.load-bits +ℤ c.load_place-load.result) (omega (arith, ints, one, bounds, least)) (omega (arith, ints, one, bounds, most)) in
    let next = load_from_next c.args.a c.args.b lows highs durations i (i + 1) (omega arith) (omega arith) (omega arith) (omega arith) in
    simp to_z-of_z (record {
      loaded = omega (arith, ints, one, held.loaded, next);
      least = omega (arith, ints, one, bounds, least);
      most = omega (arith, ints, one, bounds, most);
    })
