-- Bodies in an order in which they bind. There is no order of `q(V,U+1), U = V+1` in which each variable is bound where its literal is
-- reached: so an atom may come early, but only where no literal that is left is ready.
use Rattle.std.specs.Prelude.{◌≡◌, ◌⊎◌, ℕ, true, false, List, [], ◌∷◌, ◌++◌, map}
use Rattle.std.specs.List.{AllByRecursion, AllZip, flat_map}
use Rattle.program_meaning.specs.Read.{PlainLiteral, PlainAtom, PlainCompare, ReadElement, ReadTheory, ReadLiteral, ReadPlain, ReadTold, ReadChoice, ReadHead, ReadNothing, ReadAtom, ReadDuty, ReadChoose, ReadRule, plains}
use Rattle.program_meaning.specs.Variables.{is_global}
use Rattle.program_meaning.specs.Safety.{Binds, IsReady}

abbrev pub IsPositive : PlainLiteral → Type 0
IsPositive (PlainAtom term true) = Unit {0}
IsPositive (PlainAtom term false) = ⊥
IsPositive (PlainCompare left rel right) = ⊥

abbrev pub NoneIs : {X : Type 0} → (X → Type 0) → List X → Type 0
NoneIs P xs = AllByRecursion (λ y. P y → ⊥) xs

-- the first that has the property comes out, and the others stay in their order
pub record TakesFirst {X : Type 0} (P : X → Type 0) (xs : List X) (x : X) (left : List X) : Type 0 where
  pub front : List X
  pub behind : List X
  pub before : NoneIs P front
  pub is : P x
  pub whole : xs ≡ front ++ x ∷ behind
  pub rest : left ≡ front ++ behind

-- the literal that comes next: the first that is ready, that is, each of whose variables is bound before or bound by it; or where none is,
-- the first positive atom
pub data Next (P : ℕ → Type 0) (literals : List PlainLiteral) (literal : PlainLiteral) (left : List PlainLiteral) : Type 0 where
  TakesReady : TakesFirst (IsReady P) literals literal left → Next P literals literal left
  TakesAtom : NoneIs (IsReady P) literals → TakesFirst IsPositive literals literal left → Next P literals literal left

-- the literals in order, where these variables are bound before
abbrev pub AreOrdered : (ℕ → Type 0) → List PlainLiteral → List PlainLiteral → Type 0
AreOrdered P literals [] = literals ≡ []
AreOrdered P literals (literal ∷ rest) =
    (left : List PlainLiteral) × Next P literals literal left × AreOrdered (λ n. P n ⊎ Binds P literal n) left rest

abbrev pub told_of : ReadLiteral → List ReadLiteral
told_of (ReadPlain literal) = []
told_of (ReadTold theory sign) = ReadTold theory sign ∷ []

-- a body in order: its atoms and comparisons, and then its theory literals as they stand in the text
pub record IsOrderedBody (body ordered : List ReadLiteral) : Type 0 where
  pub plain : List PlainLiteral
  pub in_order : AreOrdered (λ n. ⊥) (plains body) plain
  pub whole : ordered ≡ map (λ literal. ReadPlain literal) plain ++ flat_map told_of body

-- a condition in order, where the rule's global variables are bound before
abbrev pub IsOrderedCondition : ReadRule → List PlainLiteral → List PlainLiteral → Type 0
IsOrderedCondition rule condition ordered = AreOrdered (λ n. is_global rule n ≡ true) condition ordered

pub record IsOrderedElement (rule : ReadRule) (one ordered : ReadElement) : Type 0 where
  pub first : one.first ≡ ordered.first
  pub duration : one.duration ≡ ordered.duration
  pub rest : one.rest ≡ ordered.rest
  pub condition : IsOrderedCondition rule one.condition ordered.condition

pub record IsOrderedTheory (rule : ReadRule) (one ordered : ReadTheory) : Type 0 where
  pub name : one.name ≡ ordered.name
  pub elements : AllZip (IsOrderedElement rule) one.elements ordered.elements
  pub guard : one.guard ≡ ordered.guard

abbrev pub IsOrderedTold : ReadRule → ReadLiteral → ReadLiteral → Type 0
IsOrderedTold rule (ReadTold one sign) (ReadTold ordered facing) = IsOrderedTheory rule one ordered × (sign ≡ facing)
IsOrderedTold rule one ordered = ⊥

pub record IsOrderedChoice (rule : ReadRule) (one ordered : ReadChoice) : Type 0 where
  pub atom : one.atom ≡ ordered.atom
  pub condition : IsOrderedCondition rule one.condition ordered.condition

abbrev pub IsOrderedHead : ReadRule → ReadHead → ReadHead → Type 0
IsOrderedHead rule ReadNothing ReadNothing = Unit {0}
IsOrderedHead rule (ReadAtom one) (ReadAtom ordered) = one ≡ ordered
IsOrderedHead rule (ReadDuty one) (ReadDuty ordered) = IsOrderedTheory rule one ordered
IsOrderedHead rule (ReadChoose left elements right) (ReadChoose low others high) = (left ≡ low) × AllZip (IsOrderedChoice rule) elements others × (right ≡ high)
IsOrderedHead rule one ordered = ⊥

-- a rule with its body and each condition in order
pub record IsOrderedRule (rule ordered : ReadRule) : Type 0 where
  pub order : rule.order ≡ ordered.order
  pub head : IsOrderedHead rule rule.head ordered.head
  pub plain : List PlainLiteral
  pub told : List ReadLiteral
  pub in_order : AreOrdered (λ n. ⊥) (plains rule.body) plain
  pub each : AllZip (IsOrderedTold rule) (flat_map told_of rule.body) told
  pub whole : ordered.body ≡ map (λ literal. ReadPlain literal) plain ++ told
