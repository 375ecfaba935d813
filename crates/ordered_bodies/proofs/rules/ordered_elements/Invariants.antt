use Rattle.std.proofs.Common.{map, length}
use Rattle.std.specs.List.{AllByRecursion}
use Rattle.program_meaning.specs.Read.{ReadRule, choice_read}
use Rattle.safety_meaning.specs.Ordered.{IsOrderedChoice}
use Rattle.ordered_bodies.specs.inner.Orderable.{IsOrderable}
use Rattle.ordered_bodies.specs.inner.Parts.{AreGlobal}
use Rattle.ordered_bodies.proofs.Backward.{Backward}
use Rattle.ordered_bodies.proofs.rules.ordered_elements.Given as goal

abbrev pub invariant-loop-element : goal.invariant-loop-element
invariant-loop-element l = record {
  rest : AllByRecursion (λ element. IsOrderable l.order l.given element.condition) (map choice_read l.left);
  goes : (rule : ReadRule) → AreGlobal rule l.order l.given → Backward (IsOrderedChoice rule) (map choice_read l.fn.left) (map choice_read l.left) (map choice_read l.done);
}

abbrev pub decreases-loop-element : goal.decreases-loop-element
decreases-loop-element l = length l.left
