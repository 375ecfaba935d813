use Rattle.std.proofs.Common.{map, length}
use Rattle.program_meaning.specs.Read.{ReadRule}
use Rattle.safety_meaning.specs.Ordered.{IsOrderedElement}
use Rattle.rule_variables.specs.Reading.{element_read}
use Rattle.ordered_bodies.specs.inner.Parts.{AreOrderable, AreGlobal}
use Rattle.ordered_bodies.proofs.Backward.{Backward}
use Rattle.ordered_bodies.proofs.theories.ordered_elements.Given as goal

abbrev pub invariant-loop-element : goal.invariant-loop-element
invariant-loop-element l = record {
  rest : AreOrderable l.order l.given (map element_read l.left);
  goes : (rule : ReadRule) → AreGlobal rule l.order l.given → Backward (IsOrderedElement rule) (map element_read l.fn.left) (map element_read l.left) (map element_read l.done);
}

abbrev pub decreases-loop-element : goal.decreases-loop-element
decreases-loop-element l = length l.left
