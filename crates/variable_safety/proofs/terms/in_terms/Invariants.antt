use Rattle.std.proofs.Common.{◌≡◌, ◌++◌, take}
use Rattle.std.specs.List.{flat_map}
use Rattle.variable_safety.specs.inner.Occurring.{variables_in}
use Rattle.variable_safety.proofs.terms.in_terms.Given as goal

abbrev pub invariant-loop-one : goal.invariant-loop-one
invariant-loop-one l = l.found ≡ l.fn.found ++ flat_map variables_in (take l.one-index l.terms)
