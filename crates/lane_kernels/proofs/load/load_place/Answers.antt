use Rattle.std.proofs.Common.{◌+ℤ◌, SFits, w64, arith}
use Rattle.std.specs.Prelude.{int_le}
use Rattle.std.proofs.lemmas.Int.{to_z-of_z, ints}
use Rattle.lane_kernels.proofs.LoadLemmas.{fits_between, picked_late, picked_early}
use Rattle.lane_kernels.proofs.load.load_place.Goals as goal
use Rattle.lane_kernels.proofs.load.load_place.Goals.{else-a-low-via-then-a-low+else-high-duration, else-a-low-via-else-a-low}

pub returns-else-a-low : goal.returns-else-a-low
returns-else-a-low c =
    let fits_low : SFits w64 c.args.low = c.ranges.low in
    let fits_high : SFits w64 c.args.high = c.ranges.high in
    let fits_duration : SFits w64 c.args.duration = c.ranges.duration in
    let fits_a : SFits w64 c.args.a = c.ranges.a in
    let fits_b : SFits w64 c.args.b = c.ranges.b in
    let fits_sum : SFits w64 (c.args.high +ℤ c.args.duration) = fits_between (c.args.high +ℤ c.args.duration) (omega (arith, ints)) (omega (arith, ints)) in
    elim c.else-a-low.branch [
      | else-a-low-via-then-a-low+else-high-duration w ↦
          let late = simp to_z-of_z at w.if-high-duration.false in
          picked_late (int_le c.args.a c.args.low) (int_le (c.args.high +ℤ c.args.duration) c.args.b) c.args.duration late
      | else-a-low-via-else-a-low w ↦
          let early = simp to_z-of_z at w.if-a-low.false in
          picked_early (int_le c.args.a c.args.low) (int_le (c.args.high +ℤ c.args.duration) c.args.b) c.args.duration early
    ]
