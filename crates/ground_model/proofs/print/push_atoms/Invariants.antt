use Rattle.std.proofs.Common.{◌≡◌, ◌++◌, map, reverse, length, vec_len}
use Rattle.std.specs.List.{AllByRecursion}
use Rattle.ground_model.specs.Answers.{IsNumbered}
use Rattle.ground_model.specs.inner.Ordered.{spaced}
use Rattle.ground_model.specs.Printed.{atom_entry}
use Rattle.ground_model.proofs.print.push_atoms.Given as goal

abbrev pub invariant-loop-atom : goal.invariant-loop-atom
invariant-loop-atom l = record {
  so_far : l.line ++ spaced (map (atom_entry l.program) (reverse l.left.items)) ≡ l.fn.line ++ spaced (map (atom_entry l.program) (reverse l.fn.atoms.items));
  left : AllByRecursion (IsNumbered (length l.program.atoms)) l.left.items;
}

abbrev pub decreases-loop-atom : goal.decreases-loop-atom
decreases-loop-atom l = vec_len l.left
