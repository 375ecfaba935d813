use Rattle.std.proofs.Common.{◌≡◌, ◌++◌, take}
use Rattle.std.specs.List.{flat_map}
use Rattle.variable_safety.specs.inner.Occurring.{variables_of}
use Rattle.variable_safety.specs.inner.Binding.{plain_literals}
use Rattle.variable_safety.proofs.literals.in_condition.Given as goal

abbrev pub invariant-loop-literal : goal.invariant-loop-literal
invariant-loop-literal l = l.found ≡ l.fn.found ++ flat_map variables_of (plain_literals (take l.literal-index l.condition))
