use Rattle.std.proofs.Common.{◌≡◌, ◌++◌, take}
use Rattle.std.specs.List.{flat_map}
use Rattle.variable_safety.specs.inner.Binding.{binding_rules, plain_literals}
use Rattle.variable_safety.proofs.bound.push_literals.Given as goal

abbrev pub invariant-loop-literal : goal.invariant-loop-literal
invariant-loop-literal l = l.bindings.rules ≡ l.fn.bindings.rules ++ flat_map binding_rules (plain_literals (take l.literal-index l.literals))
