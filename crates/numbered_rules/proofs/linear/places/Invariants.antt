use Rattle.std.proofs.Common.{◌≡◌, ◌++◌, drop, length, map}
use Rattle.std.specs.List.{AllByRecursion}
use Rattle.symbol_rules.specs.Reading.{HasPlace}
use Rattle.numbered_rules.specs.inner.ByNumber.{place_by}
use Rattle.numbered_rules.proofs.linear.places.Given as goal

abbrev pub invariant-loop-one : goal.invariant-loop-one
invariant-loop-one l = record {
  so_far : l.made ++ map (place_by l.numbers) (drop l.one-index l.places) ≡ map (place_by l.numbers) l.places;
  left : AllByRecursion (HasPlace (length l.numbers)) (drop l.one-index l.places);
}
