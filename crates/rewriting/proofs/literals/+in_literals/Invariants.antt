use Rattle.std.proofs.Common.{[], map, take}
use Rattle.rewriting.specs.Made.{each}
use Rattle.rewriting.specs.Rewritten as spec
use Rattle.rewriting.specs.inner.Becoming.{Becomes}
use Rattle.rewriting.proofs.literals.+in_literals.Given as goal

abbrev pub invariant-elements-loop-one : goal.invariant-elements-loop-one
invariant-elements-loop-one l = Becomes (each (map spec.element_made (take l.one-index l.old)) l.fn.walk.next) l.fn.walk l.walk [] [] l.done

abbrev pub invariant-condition-loop-one : goal.invariant-condition-loop-one
invariant-condition-loop-one l = Becomes (each (map spec.literal_made (take l.one-index l.old)) l.fn.walk.next) l.fn.walk l.walk l.fn.added l.added l.done
