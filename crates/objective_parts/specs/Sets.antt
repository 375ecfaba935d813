-- The ids of sets of tuples.
use Rattle.std.specs.Prelude.{ℕ}
use Rattle.std.specs.List.{AllByRecursion}
use Rattle.symbol_rules.specs.Reading.{HasPlace}
use Rattle.objective_parts.specs.declared.sets.DirectedPlaces.{DirectedPlaces}

-- they are among so many symbols
pub record HaveIds (size : ℕ) (sets : DirectedPlaces) : Type 0 where
  pub smaller : AllByRecursion (HasPlace size) sets.smaller
  pub larger : AllByRecursion (HasPlace size) sets.larger
  pub shown : AllByRecursion (HasPlace size) sets.shown
