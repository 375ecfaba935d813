use Rattle.std.proofs.Common.{◌≡◌, map, take, vec_items}
use Rattle.std.specs.List.{range_with_len}
use Rattle.completion.specs.inner.Waits.{waits_of}
use Rattle.completion.proofs.tight.waits.Given as goal

abbrev pub invariant-loop-support : goal.invariant-loop-support
invariant-loop-support l = map vec_items l.rows.items ≡ map (waits_of l.bodies (take l.support-index l.supports)) (range_with_len 0 l.count)
