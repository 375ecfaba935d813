-- Stable models of rules over any atoms and variables, where the variables have values.
use Rattle.std.specs.Prelude.{ℕ, Bool, true, ◌&&◌, ℤ, pos, List, [], map, Option, None, Some}
use Rattle.ground_model.specs.declared.rule.Bound.{Bound}
use Rattle.ground_model.specs.Members.{IsMember}
use Rattle.ground_model.specs.Rules.{Literal, AtomLiteral, TheoryLiteral, Head, NoHead, AtomHead, TheoryHead, ChoiceHead, Rules, signed}
use Rattle.ground_model.specs.Stable.{IsStable}
use Rattle.ground_model.specs.Rule.{LitOf, AtomLit, RelationLit, ItemOf, HeadOf, NothingHead, GivesHead, HoldsHead, ChoosesHead, RuleOf}
use Rattle.ground_model.specs.Truth.{compares, relation_truth, theory_truth}

-- a body literal, its relation read as its truth
abbrev pub read : {A V : Type 0} → (V → ℤ) → LitOf A V → Literal A
read values (AtomLit a sign) = AtomLiteral a sign
read values (RelationLit relation sign) = TheoryLiteral (signed sign (relation_truth values relation))

-- a bound allows the count; no bound allows every one
abbrev pub allows : Option Bound → ℕ → Bool
allows None count = true
allows (Some bound) count = compares bound.rel (pos count) bound.value

-- a head, its theory atom read as its truth and its bounds as the counts that both allow
abbrev pub read_head : {A V : Type 0} → (V → ℤ) → HeadOf A V → Head A
read_head values NothingHead = NoHead
read_head values (GivesHead a) = AtomHead a
read_head values (HoldsHead theory) = TheoryHead (theory_truth values theory)
read_head values (ChoosesHead items left right) = ChoiceHead (λ count. allows left count && allows right count)

-- the elements of a choice; other heads have none
abbrev pub items_of : {A V : Type 0} → HeadOf A V → List (ItemOf A V)
items_of (ChoosesHead items left right) = items
items_of head = []

-- the family of all rules with a property, where the variables have these values
abbrev pub rules_with : {A V : Type 0} → (RuleOf A V → Type 0) → (V → ℤ) → Rules A
rules_with {A} {V} IsRule values = record {
  Name = (rule : RuleOf A V) × IsRule rule;
  body = λ name. map (read values) name.0.body;
  head = λ name. read_head values name.0.head;
  Element = λ name. (item : ItemOf A V) × IsMember (items_of name.0.head) item;
  item = λ name element. record { atom = element.0.atom; condition = map (read values) element.0.condition };
}

-- a set of atoms with these values is a stable model of the rules with a property
abbrev pub IsModel : {A V : Type 0} → (RuleOf A V → Type 0) → (V → ℤ) → (A → Bool) → Type 0
IsModel IsRule values model = IsStable (rules_with IsRule values) model
