use Rattle.std.proofs.Common.{◌≡◌, ◌≤◌, length, drop}
use Rattle.std.specs.Cmp.Lexicographic.{slice_cmp}
use Rattle.program_meaning.specs.Said.{pair_order}
use Rattle.program_meaning.proofs.tuple_order.compare_pairs.Given as goal

abbrev pub invariant-loop-place : goal.invariant-loop-place
invariant-loop-place l = record {
  rest : slice_cmp (pair_order l.symbols) l.left l.right ≡ slice_cmp (pair_order l.symbols) (drop l.place l.left) (drop l.place l.right);
  within : l.place ≤ length l.right;
}
