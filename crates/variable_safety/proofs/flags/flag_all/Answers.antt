use Rattle.std.proofs.Common.{slice_index_or, length, ◌<◌, arith}
use Rattle.variable_safety.proofs.Notes.{any_default, flags_more}
use Rattle.variable_safety.proofs.flags.flag_all.Goals as goal

pub loop-number-preserved : goal.loop-number-preserved
loop-number-preserved c =
    let xs = c.args.numbers.now in
    let i = c.loop-number.number-index in
    let inside = c.loop-number-test.true in
    let room : slice_index_or xs i 0 < length c.args.flags.now = c.requires.room i 0 inside in
    flags_more xs i (slice_index_or xs i 0) c.loop-number.flags (any_default xs i 0 (slice_index_or xs i 0) inside) inside (omega arith) c.loop-number.invariant
