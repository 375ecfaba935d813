use Rattle.std.proofs.Common.{◌≡◌, ◌++◌, map, take}
use Rattle.std.specs.List.{flat_map}
use Rattle.program_meaning.specs.Read.{literal_read}
use Rattle.variable_safety.specs.inner.Occurring.{literal_variables}
use Rattle.variable_safety.proofs.literals.in_body.Given as goal

abbrev pub invariant-loop-literal : goal.invariant-loop-literal
invariant-loop-literal l = l.found ≡ l.fn.found ++ flat_map literal_variables (map literal_read (take l.literal-index l.body))
