use Rattle.std.proofs.Common.{◌≡◌, ◌-◌, ◌≤◌, length, bit_and}
use Rattle.lane_kernels.proofs.RowLemmas.{joined_to}
use Rattle.lane_kernels.proofs.rows.and_into.Given as goal

abbrev pub invariant-loop-into : goal.invariant-loop-into
invariant-loop-into l = record {
  joined : l.into ≡ joined_to bit_and l.place l.initial.into l.other;
  in_range : l.place ≤ length l.into;
}

abbrev pub decreases-loop-into : goal.decreases-loop-into
decreases-loop-into l = length l.into - l.place

abbrev pub invariant-loop-rest : goal.invariant-loop-rest
invariant-loop-rest l = record {
  joined : l.into ≡ joined_to bit_and l.rest l.fn.into l.other;
}
