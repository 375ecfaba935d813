use Rattle.std.proofs.Common.{◌≡◌, ◌++◌, drop, length, map}
use Rattle.std.specs.List.{AllByRecursion}
use Rattle.symbol_rules.specs.Reading.{HasRelation}
use Rattle.numbered_rules.specs.inner.ByNumber.{told_by}
use Rattle.numbered_rules.proofs.rules.push_told.Given as goal

abbrev pub invariant-loop-one : goal.invariant-loop-one
invariant-loop-one l = record {
  so_far : l.body ++ map (told_by l.variables) (drop l.one-index l.told) ≡ l.fn.body ++ map (told_by l.variables) l.told;
  left : AllByRecursion (λ one. HasRelation (length l.variables) one.0) (drop l.one-index l.told);
}
