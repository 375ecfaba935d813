use Rattle.std.proofs.Common.{◌≡◌, ◌++◌, drop, map}
use Rattle.derivation.specs.Fields.{behind, lit_field}
use Rattle.derivation.proofs.fields.write_lits.Given as goal

abbrev pub invariant-loop-lit : goal.invariant-loop-lit
invariant-loop-lit l = l.out ++ behind (map lit_field (drop l.lit-index l.lits)) ≡ l.initial.out ++ behind (map lit_field l.lits)
