use Rattle.std.proofs.Common.{◌≡◌, [], filter, take}
use Rattle.program_meaning.specs.Read.{rule_read}
use Rattle.program_meaning.specs.Variables as spec
use Rattle.rule_variables.proofs.variables.globals.Given as goal

abbrev pub invariant-loop-number : goal.invariant-loop-number
invariant-loop-number l = l.found ≡ filter (spec.is_global (rule_read l.rule [])) (take l.number-index l.order)
