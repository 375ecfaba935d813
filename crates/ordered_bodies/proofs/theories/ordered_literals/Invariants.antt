use Rattle.std.proofs.Common.{map, length}
use Rattle.std.specs.List.{AllByRecursion}
use Rattle.program_meaning.specs.Read.{ReadRule, literal_read}
use Rattle.ordered_bodies.specs.inner.Parts.{AreOrderableIn, AreGlobal, IsOrderedLiteral}
use Rattle.ordered_bodies.proofs.Backward.{Backward}
use Rattle.ordered_bodies.proofs.theories.ordered_literals.Given as goal

abbrev pub invariant-loop-literal : goal.invariant-loop-literal
invariant-loop-literal l = record {
  rest : AllByRecursion (AreOrderableIn l.order l.given) (map literal_read l.left);
  goes : (rule : ReadRule) → AreGlobal rule l.order l.given → Backward (IsOrderedLiteral rule) (map literal_read l.fn.left) (map literal_read l.left) (map literal_read l.done);
}

abbrev pub decreases-loop-literal : goal.decreases-loop-literal
decreases-loop-literal l = length l.left
