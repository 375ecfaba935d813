use Rattle.std.proofs.Common.{rules, ◌+◌, w64, pos, SFits, get_or, arith}
use Rattle.std.proofs.lemmas.Int.{to_z-of_z}
use Rattle.speed_trial.proofs.PlaceLemmas.{count_from, within_counts, early_counts, late_counts}
use Rattle.speed_trial.proofs.columns.plain_count.Goals as goal
use Rattle.speed_trial.proofs.columns.plain_count.Goals.{then-a-lows+then-highs-place, else-a-lows, else-a-lows-via-then-a-lows+else-highs-place, else-a-lows-via-else-a-lows}

pub loop-place-preserved : goal.loop-place-preserved
loop-place-preserved c =
    let lows = c.args.lows.now in
    let highs = c.args.highs.now in
    let i = c.loop-place.place in
    let fits_a : SFits w64 c.args.a = c.ranges.a in
    let fits_b : SFits w64 c.args.b = c.ranges.b in
    let low : SFits w64 (get_or lows i (pos 0)) = search rules in
    let held = simp to_z-of_z at c.loop-place.invariant in
    let next = count_from c.args.a c.args.b lows highs i (i + 1) (omega arith) (omega arith) (omega arith) in
    elim c.if-a-lows.branch [
      | then-a-lows+then-highs-place w ↦
          let is = w.count-is in
          let high : SFits w64 (get_or highs i (pos 0)) = search rules in
          let one = within_counts c.args.a c.args.b (get_or lows i (pos 0)) (get_or highs i (pos 0)) (simp to_z-of_z at w.if-a-lows.true) (simp to_z-of_z at w.if-highs-place.true) in
          simp to_z-of_z (record { counted = omega (arith, is, one, held.counted, next); most = omega (arith, is, held.most) })
      | else-a-lows w ↦
          let is = w.count-is in
          elim w.else-a-lows.branch [
            | else-a-lows-via-then-a-lows+else-highs-place v ↦
                let high : SFits w64 (get_or highs i (pos 0)) = search rules in
                let none = late_counts c.args.a c.args.b (get_or lows i (pos 0)) (get_or highs i (pos 0)) (simp to_z-of_z at v.if-a-lows.true) (simp to_z-of_z at v.if-highs-place.false) in
                simp to_z-of_z (record { counted = omega (arith, is, none, held.counted, next); most = omega (arith, is, held.most) })
            | else-a-lows-via-else-a-lows v ↦
                let none = early_counts c.args.a c.args.b (get_or lows i (pos 0)) (get_or highs i (pos 0)) (simp to_z-of_z at v.if-a-lows.false) in
                simp to_z-of_z (record { counted = omega (arith, is, none, held.counted, next); most = omega (arith, is, held.most) })
          ]
    ]
