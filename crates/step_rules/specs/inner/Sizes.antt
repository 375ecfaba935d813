-- Sizes by which sums fit 128 bits, as the code passes them on.
use Rattle.std.specs.Prelude.{◌^◌, ◌<◌, List, length}
use Rattle.std.specs.List.{AllByRecursion}
use Rattle.ground_model.specs.declared.linear.Place.{Place}
use Rattle.linear_normal.specs.declared.constraint.Constraint.{Constraint}
use Rattle.linear_normal.specs.declared.constraint.Constraint.TheVariants as c
use Rattle.linear_normal.specs.declared.numbered.Numbered.{Numbered}

-- the first place has fewer than 2^32 terms
abbrev pub IsShort : Place → Type 0
IsShort place = length place.linear.pairs < 2 ^ 32

-- fewer than 2^32 places, each of them short
pub record AreFew (places : List Place) : Type 0 where
  pub short : AllByRecursion IsShort places
  pub number : length places < 2 ^ 32

-- each sum of the constraint has fewer than 2^32 terms
abbrev pub IsSized : Constraint → Type 0
IsSized (c.AtMost items k) = length items < 2 ^ 32
IsSized (c.Distinct places) = AllByRecursion IsShort places
IsSized (c.Disjoint places) = AreFew places
IsSized other = Unit {0}

-- so has each of these, and the objective
pub record AreSized (numbered : Numbered) : Type 0 where
  pub constraints : AllByRecursion IsSized numbered.constraints
  pub objective : length numbered.objective.pairs < 2 ^ 32
