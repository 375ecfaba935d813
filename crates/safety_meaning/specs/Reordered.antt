-- Rules that differ in the order of their bodies and conditions alone.
use Rattle.std.specs.Prelude.{◌≡◌, List}
use Rattle.std.specs.List.{AllZip, flat_map}
use Rattle.ground_model.specs.Members.{IsMember}
use Rattle.program_meaning.specs.Read.{ReadElement, ReadTheory, ReadLiteral, ReadPlain, ReadTold, ReadChoice, ReadHead, ReadNothing, ReadAtom, ReadDuty, ReadChoose, ReadRule, plains}
use Rattle.safety_meaning.specs.Ordered.{told_of}

-- each list has what the other has
pub record HaveSameMembers {X : Type 0} (xs ys : List X) : Type 0 where
  pub forth : (x : X) → IsMember xs x → IsMember ys x
  pub back : (x : X) → IsMember ys x → IsMember xs x

pub record IsSameElement (one other : ReadElement) : Type 0 where
  pub first : one.first ≡ other.first
  pub duration : one.duration ≡ other.duration
  pub rest : one.rest ≡ other.rest
  pub condition : HaveSameMembers one.condition other.condition

pub record IsSameTheory (one other : ReadTheory) : Type 0 where
  pub name : one.name ≡ other.name
  pub elements : AllZip IsSameElement one.elements other.elements
  pub guard : one.guard ≡ other.guard

abbrev pub IsSameLiteral : ReadLiteral → ReadLiteral → Type 0
IsSameLiteral (ReadPlain one) (ReadPlain other) = one ≡ other
IsSameLiteral (ReadPlain one) (ReadTold other sign) = ⊥
IsSameLiteral (ReadTold one sign) (ReadPlain other) = ⊥
IsSameLiteral (ReadTold one sign) (ReadTold other facing) = IsSameTheory one other × (sign ≡ facing)

pub record IsSameChoice (one other : ReadChoice) : Type 0 where
  pub atom : one.atom ≡ other.atom
  pub condition : HaveSameMembers one.condition other.condition

abbrev pub IsSameHead : ReadHead → ReadHead → Type 0
IsSameHead ReadNothing ReadNothing = Unit {0}
IsSameHead (ReadAtom one) (ReadAtom other) = one ≡ other
IsSameHead (ReadDuty one) (ReadDuty other) = IsSameTheory one other
IsSameHead (ReadChoose left elements right) (ReadChoose low others high) = (left ≡ low) × AllZip IsSameChoice elements others × (right ≡ high)
IsSameHead one other = ⊥

-- the rules have the same variables, the same head, and bodies with the same atoms and comparisons, and with the same theory literals in
-- their order, where conditions have the same literals
pub record IsReordered (rule other : ReadRule) : Type 0 where
  pub order : rule.order ≡ other.order
  pub head : IsSameHead rule.head other.head
  pub plain : HaveSameMembers (plains rule.body) (plains other.body)
  pub told : AllZip IsSameLiteral (flat_map told_of rule.body) (flat_map told_of other.body)
