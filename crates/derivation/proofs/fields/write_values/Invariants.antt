use Rattle.std.proofs.Common.{◌≡◌, ◌++◌, drop, map}
use Rattle.derivation.specs.Fields.{behind, value_field}
use Rattle.derivation.proofs.fields.write_values.Given as goal

abbrev pub invariant-loop-variable : goal.invariant-loop-variable
invariant-loop-variable l = l.out ++ behind (map value_field (drop l.variable-index l.values)) ≡ l.initial.out ++ behind (map value_field l.values)
