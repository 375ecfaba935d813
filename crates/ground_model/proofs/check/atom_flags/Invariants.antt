use Rattle.std.proofs.Common.{◌≡◌, ◌≤◌, ◌+◌, ℕ, false, ◌||◌, drop, length, slice_index_or}
use Rattle.std.specs.List.{AllByRecursion}
use Rattle.ground_model.specs.Answers.{has_atom}
use Rattle.ground_model.proofs.check.atom_flags.Given as goal

abbrev pub invariant-loop-atom : goal.invariant-loop-atom
invariant-loop-atom l = record {
  size : length l.flags.items ≡ l.last + 1;
  left : AllByRecursion (λ a. a ≤ l.last) (drop l.atom-index l.atoms);
  so_far : (a : ℕ) → (slice_index_or l.flags.items a false || has_atom (drop l.atom-index l.atoms) a) ≡ has_atom l.atoms a;
}
