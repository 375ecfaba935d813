use Rattle.std.proofs.Common.{◌≡◌, false, take}
use Rattle.std.specs.List.{list_any}
use Rattle.program_meaning.specs.Variables as spec
use Rattle.rule_variables.specs.Reading.{plain_literals}
use Rattle.rule_variables.proofs.literals.is_atom_bound.Given as goal

abbrev pub invariant-loop-literal : goal.invariant-loop-literal
invariant-loop-literal l = list_any (spec.atom_binds l.number) (plain_literals (take l.literal-index l.literals)) ≡ false
