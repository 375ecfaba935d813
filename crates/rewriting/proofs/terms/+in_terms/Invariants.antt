use Rattle.std.proofs.Common.{map, take}
use Rattle.rewriting.specs.Rewritten as spec
use Rattle.rewriting.specs.inner.Becoming.{Becomes}
use Rattle.rewriting.proofs.terms.+in_terms.Given as goal

abbrev pub invariant-arguments-loop-arg : goal.invariant-arguments-loop-arg
invariant-arguments-loop-arg l = Becomes (spec.arguments_way (map spec.ways (take l.arg-index l.args)) l.fn.walk.next) l.fn.walk l.walk l.fn.added l.added l.done

abbrev pub invariant-parts_of-loop-one : goal.invariant-parts_of-loop-one
invariant-parts_of-loop-one l = Becomes (spec.parts_way (map spec.ways_in (take l.one-index l.parts)) l.fn.walk.next) l.fn.walk l.walk l.fn.added l.added l.done
