-- Sizes by which sums fit 128 bits, as the code passes them on.
use Rattle.std.specs.Prelude.{ℕ, ◌^◌, ◌<◌, ◌≤◌, ℤ, List, unsigned_abs, length}
use Rattle.std.specs.List.{AllByRecursion}
use Rattle.ground_model.specs.declared.linear.Linear.{Linear}
use Rattle.ground_model.specs.declared.linear.Place.{Place}
use Rattle.ground_model.specs.declared.linear.Relation.{Relation}
use Rattle.ground_model.specs.declared.rule.BodyLit.{BodyLit}
use Rattle.ground_model.specs.declared.rule.BodyLit.TheVariants as b
use Rattle.ground_model.specs.declared.rule.TheoryHead.{TheoryHead}
use Rattle.ground_model.specs.declared.rule.TheoryHead.TheVariants as t
use Rattle.ground_model.specs.declared.rule.ChoiceItem.{ChoiceItem}
use Rattle.ground_model.specs.declared.rule.GroundHead.{GroundHead}
use Rattle.ground_model.specs.declared.rule.GroundHead.TheVariants as h
use Rattle.ground_model.specs.declared.rule.GroundRule.{GroundRule}
use Rattle.ground_model.specs.Answers.{IsNumbered}
use Rattle.ground_model.specs.Sound.{most}

-- a value of a variable lies strictly between -2^30 and 2^30
abbrev pub IsModest : ℤ → Type 0
IsModest value = unsigned_abs value < 2 ^ 30

-- a pair names one of so many variables, and its coefficient lies strictly between -2^62 and 2^62
pub record IsSoundPair (variables : ℕ) (pair : ℕ × ℤ) : Type 0 where
  pub above : 0 < pair.0
  pub known : pair.0 ≤ variables
  pub small : unsigned_abs pair.1 < 2 ^ 62

-- a linear term has at most 65,536 sound pairs and a small constant
pub record IsSizedLinear (variables : ℕ) (linear : Linear) : Type 0 where
  pub pairs : AllByRecursion (IsSoundPair variables) linear.pairs
  pub few : length linear.pairs ≤ most
  pub small : unsigned_abs linear.constant < 2 ^ 62

-- at most 65,536 tuples, with sized first places
pub record AreSizedPlaces (variables : ℕ) (places : List Place) : Type 0 where
  pub each : AllByRecursion (λ place. IsSizedLinear variables place.linear) places
  pub few : length places ≤ most

-- sized tuples against a sized right side
pub record IsSizedRelation (variables : ℕ) (relation : Relation) : Type 0 where
  pub elements : AreSizedPlaces variables relation.elements
  pub right : IsSizedLinear variables relation.right

-- a literal names one of so many atoms, or a sized relation over so many variables
abbrev pub IsReadable : ℕ → ℕ → BodyLit → Type 0
IsReadable atoms variables (b.Atom a sign) = IsNumbered atoms a
IsReadable atoms variables (b.Theory relation sign) = IsSizedRelation variables relation

-- an atom that a literal names is at least 1
abbrev pub IsCounted : BodyLit → Type 0
IsCounted (b.Atom a sign) = 0 < a
IsCounted (b.Theory relation sign) = Unit {0}

-- so do the atom and the condition of an element
pub record IsReadableItem (atoms variables : ℕ) (item : ChoiceItem) : Type 0 where
  pub atom : IsNumbered atoms item.atom
  pub condition : AllByRecursion (IsReadable atoms variables) item.condition

-- a theory head is sized
abbrev pub IsReadableTheory : ℕ → TheoryHead → Type 0
IsReadableTheory variables (t.Relation relation) = IsSizedRelation variables relation
IsReadableTheory variables (t.Domain numbers x) = IsNumbered variables x
IsReadableTheory variables (t.Distinct places) = AreSizedPlaces variables places
IsReadableTheory variables (t.Disjoint places) = AreSizedPlaces variables places

-- a head names such atoms, elements or theory heads
abbrev pub IsReadableHead : ℕ → ℕ → GroundHead → Type 0
IsReadableHead atoms variables h.Nothing = Unit {0}
IsReadableHead atoms variables (h.Atom a) = IsNumbered atoms a
IsReadableHead atoms variables (h.Theory theory) = IsReadableTheory variables theory
IsReadableHead atoms variables (h.Choice choice) = AllByRecursion (IsReadableItem atoms variables) choice.items

-- so does a rule
pub record IsReadableRule (atoms variables : ℕ) (rule : GroundRule) : Type 0 where
  pub body : AllByRecursion (IsReadable atoms variables) rule.body
  pub head : IsReadableHead atoms variables rule.head
