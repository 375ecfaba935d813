-- Numberings by which an answer is judged, and the sizes that keep their sums within 128 bits.
use Rattle.std.specs.Prelude.{◌≡◌, ◌^◌, ◌≤◌, ℤ, length, unsigned_abs}
use Rattle.std.specs.List.{AllByRecursion}
use Rattle.ground_model.specs.declared.linear.Place.{Place}
use Rattle.ground_model.specs.declared.program.GroundProgram.{GroundProgram}
use Rattle.ground_model.specs.Sound.{most}
use Rattle.linear_normal.specs.declared.constraint.Constraint.{Constraint}
use Rattle.linear_normal.specs.declared.constraint.Constraint.TheVariants.{AtMost, Both, Either, Domain, Distinct, Disjoint, Tally}
use Rattle.linear_normal.specs.declared.numbered.Numbered.{Numbered}
use Rattle.linear_normal.specs.Numbering.{numbering}

-- the numbering is that of some ground program
abbrev pub IsNumbering : Numbered → Type 0
IsNumbering numbered = (program : GroundProgram) × (numbered ≡ numbering program)

-- at most 65,536 variables stand in the first place
abbrev pub HasFewPairs : Place → Type 0
HasFewPairs place = length place.linear.pairs ≤ most

-- the span starts between -2^111 and 2^111
abbrev pub StartsWithin : ℤ × ℤ → Type 0
StartsWithin span = unsigned_abs span.0 ≤ 2 ^ 111

-- a sum has at most 2^32 items, and a first place few variables
abbrev pub IsSized : Constraint → Type 0
IsSized (AtMost items k) = length items ≤ 2 ^ 32
IsSized (Both i j) = Unit {0}
IsSized (Either i j) = Unit {0}
IsSized (Domain x set) = Unit {0}
IsSized (Distinct places) = AllByRecursion HasFewPairs places
IsSized (Disjoint places) = AllByRecursion HasFewPairs places
IsSized (Tally bodies) = Unit {0}

-- so does each constraint
abbrev pub AreSized : Numbered → Type 0
AreSized numbered = AllByRecursion IsSized numbered.constraints
