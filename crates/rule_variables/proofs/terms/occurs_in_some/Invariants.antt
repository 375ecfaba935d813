use Rattle.std.proofs.Common.{◌≡◌, false, take}
use Rattle.std.specs.List.{list_any}
use Rattle.program_meaning.specs.Variables as spec
use Rattle.rule_variables.proofs.terms.occurs_in_some.Given as goal

abbrev pub invariant-loop-one : goal.invariant-loop-one
invariant-loop-one l = list_any (spec.occurs l.number) (take l.one-index l.terms) ≡ false
