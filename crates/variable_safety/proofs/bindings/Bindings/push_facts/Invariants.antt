use Rattle.std.proofs.Common.{◌≡◌, ◌++◌, map, take}
use Rattle.variable_safety.specs.inner.Binding.{fact}
use Rattle.variable_safety.proofs.bindings.Bindings.push_facts.Given as goal

abbrev pub invariant-loop-number : goal.invariant-loop-number
invariant-loop-number l = l.self.rules ≡ l.fn.self.rules ++ map fact (take l.number-index l.numbers)
