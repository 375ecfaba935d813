use Rattle.std.proofs.Common.{◌≡◌, ◌++◌, drop}
use Rattle.derivation.specs.Fields.{behind, pivot_fields}
use Rattle.derivation.proofs.fields.write_pivots.Given as goal

abbrev pub invariant-loop-lit : goal.invariant-loop-lit
invariant-loop-lit l = l.out ++ behind (pivot_fields (drop l.lit-index l.pivots)) ≡ l.initial.out ++ behind (pivot_fields l.pivots)
