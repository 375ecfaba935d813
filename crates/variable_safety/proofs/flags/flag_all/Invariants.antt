use Rattle.std.proofs.Common.{take}
use Rattle.variable_safety.specs.inner.Binding.{AreFlags}
use Rattle.variable_safety.proofs.flags.flag_all.Given as goal

abbrev pub invariant-loop-number : goal.invariant-loop-number
invariant-loop-number l = AreFlags (take l.number-index l.numbers) l.flags
