use Rattle.std.proofs.Common.{◌≡◌, ◌++◌, map, take}
use Rattle.variable_safety.specs.inner.Occurring.{joined, variables_in, variables_in_part}
use Rattle.variable_safety.proofs.terms.+in_terms.Given as goal

abbrev pub invariant-in_arguments-loop-arg : goal.invariant-in_arguments-loop-arg
invariant-in_arguments-loop-arg l = l.found ≡ l.fn.found ++ joined (map variables_in (take l.arg-index l.args))

abbrev pub invariant-in_parts-loop-part : goal.invariant-in_parts-loop-part
invariant-in_parts-loop-part l = l.found ≡ l.fn.found ++ joined (map variables_in_part (take l.part-index l.parts))
