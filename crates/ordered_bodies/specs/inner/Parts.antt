-- Literals and elements of which conditions can be put in order, and are.
use Rattle.std.specs.Prelude.{◌≡◌, ℕ, true, List, map, ◌++◌}
use Rattle.std.specs.List.{AllByRecursion, AllZip, flat_map}
use Rattle.ground_model.specs.Members.{IsMember}
use Rattle.program_meaning.specs.Read.{PlainLiteral, ReadElement, ReadLiteral, ReadPlain, ReadTold, ReadHead, ReadDuty, ReadChoose, ReadRule, plains}
use Rattle.program_meaning.specs.Variables.{is_global}
use Rattle.program_meaning.specs.Search.{is_listed}
use Rattle.safety_meaning.specs.Ordered.{AreOrdered, IsOrderedTold, told_of}
use Rattle.ordered_bodies.specs.inner.Orderable.{IsOrderable}

-- the conditions of these elements can be put in order
abbrev pub AreOrderable : List ℕ → List ℕ → List ReadElement → Type 0
AreOrderable order given elements = AllByRecursion (λ element. IsOrderable order given element.condition) elements

abbrev pub AreOrderableIn : List ℕ → List ℕ → ReadLiteral → Type 0
AreOrderableIn order given (ReadPlain literal) = Unit {0}
AreOrderableIn order given (ReadTold theory sign) = AreOrderable order given theory.elements

abbrev pub AreOrderableInHead : List ℕ → List ℕ → ReadHead → Type 0
AreOrderableInHead order given (ReadDuty theory) = AreOrderable order given theory.elements
AreOrderableInHead order given (ReadChoose left elements right) = AllByRecursion (λ element. IsOrderable order given element.condition) elements
AreOrderableInHead order given head = Unit {0}

-- these are the rule's global variables in the order
abbrev pub AreGlobal : ReadRule → List ℕ → List ℕ → Type 0
AreGlobal rule order given = (n : ℕ) → IsMember order n → (is_listed given n ≡ true → is_global rule n ≡ true) × (is_global rule n ≡ true → is_listed given n ≡ true)

-- a literal of a body in order, that is, with its conditions in order
abbrev pub IsOrderedLiteral : ReadRule → ReadLiteral → ReadLiteral → Type 0
IsOrderedLiteral rule (ReadPlain one) (ReadPlain ordered) = one ≡ ordered
IsOrderedLiteral rule one ordered = IsOrderedTold rule one ordered

-- a body in order, with its conditions in order
pub record IsOrderedWhole (rule : ReadRule) (body ordered : List ReadLiteral) : Type 0 where
  pub plain : List PlainLiteral
  pub told : List ReadLiteral
  pub in_order : AreOrdered (λ n. ⊥) (plains body) plain
  pub each : AllZip (IsOrderedTold rule) (flat_map told_of body) told
  pub whole : ordered ≡ map (λ literal. ReadPlain literal) plain ++ told
