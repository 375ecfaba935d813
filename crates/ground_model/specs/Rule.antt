-- Rules over any atoms and any integer variables.
use Rattle.std.specs.Prelude.{Bool, ℤ, List, Option}
use Rattle.symbols.specs.Symbol.{Symbol}
use Rattle.symbols.specs.declared.rel.Rel.{Rel}
use Rattle.ground_model.specs.declared.rule.Bound.{Bound}

-- variables with coefficients, and a constant
pub record LinearOf (V : Type 0) : Type 0 where
  pub pairs : List (V × ℤ)
  pub constant : ℤ

-- a tuple: its first place, its duration, its further places
pub record PlaceOf (V : Type 0) : Type 0 where
  pub linear : LinearOf V
  pub duration : ℤ
  pub rest : List Symbol

-- a sum of first places against a right side
pub record RelationOf (V : Type 0) : Type 0 where
  pub elements : List (PlaceOf V)
  pub rel : Rel
  pub right : LinearOf V

-- a theory atom as a head: a relation, a variable's numbers as closed intervals, tuples that differ, tuples that do not overlap
pub data TheoryOf (V : Type 0) : Type 0 where
  RelationHead : RelationOf V → TheoryOf V
  DomainHead : List (ℤ × ℤ) → V → TheoryOf V
  DistinctHead : List (PlaceOf V) → TheoryOf V
  DisjointHead : List (PlaceOf V) → TheoryOf V

-- a literal of a body: an atom or a relation, with a sign
pub data LitOf (A V : Type 0) : Type 0 where
  AtomLit : A → Bool → LitOf A V
  RelationLit : RelationOf V → Bool → LitOf A V

-- an element of a choice
pub record ItemOf (A V : Type 0) : Type 0 where
  pub atom : A
  pub condition : List (LitOf A V)

-- a head: none, an atom, a theory atom, or a choice with its bounds
pub data HeadOf (A V : Type 0) : Type 0 where
  NothingHead : HeadOf A V
  GivesHead : A → HeadOf A V
  HoldsHead : TheoryOf V → HeadOf A V
  ChoosesHead : List (ItemOf A V) → Option Bound → Option Bound → HeadOf A V

-- a rule
pub record RuleOf (A V : Type 0) : Type 0 where
  pub body : List (LitOf A V)
  pub head : HeadOf A V
