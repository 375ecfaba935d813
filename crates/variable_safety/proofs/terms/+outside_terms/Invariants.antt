use Rattle.std.proofs.Common.{◌≡◌, ◌++◌, map, take}
use Rattle.variable_safety.specs.inner.Occurring.{joined, outside_in}
use Rattle.variable_safety.proofs.terms.+outside_terms.Given as goal

abbrev pub invariant-outside_arguments-loop-arg : goal.invariant-outside_arguments-loop-arg
invariant-outside_arguments-loop-arg l = l.found ≡ l.fn.found ++ joined (map outside_in (take l.arg-index l.args))
