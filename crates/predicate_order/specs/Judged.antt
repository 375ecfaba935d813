-- Predicates by number, and which of them are reached.
use Rattle.std.specs.Prelude.{◌≡◌, ◌↔◌, ℕ, Bool, true, List, [], ◌∷◌, ◌++◌, Some, slice_get}
use Rattle.std.specs.List.{AllZip}
use Rattle.syntax_tree.specs.declared.term.Term.{Term}
use Rattle.ground_model.specs.Members.{IsMember}
use Rattle.definite_rules.specs.Least.{flag_at}
use Rattle.predicate_order.specs.declared.predicate.Predicate.{Predicate}
use Rattle.predicate_order.specs.declared.ways.Ways.{Ways}
use Rattle.predicate_order.specs.declared.reading.Reads.{Reads}
use Rattle.predicate_order.specs.Ways.{NamedWay, at_once, IsReached, IsNumbered, named}

-- the numbers stand for these ways
abbrev pub AreWays : List NamedWay → Ways → Type 0
AreWays named ways = AllZip (IsNumbered ways.table.keys) ways.ways named

-- the predicates that are reached have their flag, and those with no number are not reached
pub record Judges (keys : List Predicate) (flags : List Bool) (named : List NamedWay) : Type 0 where
  pub flagged : (n : ℕ) (p : Predicate) → slice_get keys n ≡ Some p → (flag_at flags n ≡ true) ↔ IsReached named p
  pub heads : (way : NamedWay) → IsMember named way → (n : ℕ) × (slice_get keys n ≡ Some way.head)

-- some predicate among these is reached
abbrev pub AnyReached : List NamedWay → List Predicate → Type 0
AnyReached ways ps = (p : Predicate) × IsMember ps p × IsReached ways p

-- whether the atom's predicate is reached
abbrev pub Tells : List NamedWay → Term → Bool → Type 0
Tells ways atom answer = (answer ≡ true) ↔ AnyReached ways (named atom)

-- ways came to those that there were, and numbers stay
pub record Adds (number : ℕ) (more : Predicate → List NamedWay) (old new : Ways) : Type 0 where
  pub kept : (n : ℕ) (p : Predicate) → slice_get old.table.keys n ≡ Some p → slice_get new.table.keys n ≡ Some p
  pub added : (before : List NamedWay) (head : Predicate) → slice_get old.table.keys number ≡ Some head → AllZip (IsNumbered old.table.keys) old.ways before
      → AllZip (IsNumbered new.table.keys) new.ways (before ++ more head)

-- a head depends on itself through one of those that it reads
abbrev pub IsTurning : List NamedWay → Reads → Type 0
IsTurning ways reads = AnyReached (ways ++ at_once reads.head ∷ []) reads.others

abbrev pub AnyTurns : List NamedWay → List Reads → Type 0
AnyTurns ways all = (reads : Reads) × IsMember all reads × IsTurning ways reads
