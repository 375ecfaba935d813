use Rattle.std.proofs.Common.{map, take}
use Rattle.rewriting.specs.Made.{each}
use Rattle.rewriting.specs.Rewritten as spec
use Rattle.rewriting.specs.inner.Becoming.{Becomes}
use Rattle.rewriting.proofs.literals.literals.Given as goal

abbrev pub invariant-loop-one : goal.invariant-loop-one
invariant-loop-one l = Becomes (each (map spec.literal_made (take l.one-index l.old)) l.fn.walk.next) l.fn.walk l.walk l.fn.added l.added l.done
