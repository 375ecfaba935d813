use Rattle.std.proofs.Common.{◌≡◌, map, false, take}
use Rattle.std.specs.List.{list_any}
use Rattle.program_meaning.specs.Read.{literal_read}
use Rattle.program_meaning.specs.Variables as spec
use Rattle.rule_variables.proofs.literals.is_in_body.Given as goal

abbrev pub invariant-loop-literal : goal.invariant-loop-literal
invariant-loop-literal l = list_any (spec.occurs_in_literal l.number) (map literal_read (take l.literal-index l.body)) ≡ false
