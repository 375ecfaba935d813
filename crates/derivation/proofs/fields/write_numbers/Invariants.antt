use Rattle.std.proofs.Common.{◌≡◌, ◌++◌, drop, map, decimal}
use Rattle.derivation.specs.Fields.{behind}
use Rattle.derivation.proofs.fields.write_numbers.Given as goal

abbrev pub invariant-loop-number : goal.invariant-loop-number
invariant-loop-number l = l.out ++ behind (map decimal (drop l.number-index l.numbers)) ≡ l.initial.out ++ behind (map decimal l.numbers)
