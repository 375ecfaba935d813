-- A program's rules as rules over numbers, its further places as symbols.
use Rattle.std.specs.Prelude.{ℕ, List, map}
use Rattle.symbols.specs.Symbol.{Symbol}
use Rattle.symbols.specs.Table.{symbol_at}
use Rattle.ground_model.specs.declared.linear.Linear.{Linear}
use Rattle.ground_model.specs.declared.linear.Place.{Place}
use Rattle.ground_model.specs.declared.linear.Relation.{Relation}
use Rattle.ground_model.specs.declared.rule.BodyLit.{BodyLit}
use Rattle.ground_model.specs.declared.rule.BodyLit.TheVariants as b
use Rattle.ground_model.specs.declared.rule.TheoryHead.{TheoryHead}
use Rattle.ground_model.specs.declared.rule.TheoryHead.TheVariants as t
use Rattle.ground_model.specs.declared.rule.ChoiceItem.{ChoiceItem}
use Rattle.ground_model.specs.declared.rule.GroundHead.{GroundHead}
use Rattle.ground_model.specs.declared.rule.GroundHead.TheVariants as h
use Rattle.ground_model.specs.declared.rule.GroundRule.{GroundRule}
use Rattle.ground_model.specs.Rule.{LinearOf, PlaceOf, RelationOf, TheoryOf, RelationHead, DomainHead, DistinctHead, DisjointHead, LitOf, AtomLit, RelationLit, ItemOf, HeadOf, NothingHead, GivesHead, HoldsHead, ChoosesHead, RuleOf}

-- a linear term over the variables' numbers
abbrev pub linear_of : Linear → LinearOf ℕ
linear_of linear = record { pairs = linear.pairs; constant = linear.constant }

-- a tuple, each of its further places read in the table
abbrev pub place_of : List Symbol → Place → PlaceOf ℕ
place_of symbols place = record {
  linear = linear_of place.linear;
  duration = place.duration;
  rest = map (symbol_at symbols) place.rest;
}

-- a relation
abbrev pub relation_of : List Symbol → Relation → RelationOf ℕ
relation_of symbols relation = record {
  elements = map (place_of symbols) relation.elements;
  rel = relation.rel;
  right = linear_of relation.right;
}

-- a theory head
abbrev pub theory_of : List Symbol → TheoryHead → TheoryOf ℕ
theory_of symbols (t.Relation relation) = RelationHead (relation_of symbols relation)
theory_of symbols (t.Domain numbers x) = DomainHead numbers.intervals x
theory_of symbols (t.Distinct places) = DistinctHead (map (place_of symbols) places)
theory_of symbols (t.Disjoint places) = DisjointHead (map (place_of symbols) places)

-- a body literal
abbrev pub literal_of : List Symbol → BodyLit → LitOf ℕ ℕ
literal_of symbols (b.Atom a sign) = AtomLit a sign
literal_of symbols (b.Theory relation sign) = RelationLit (relation_of symbols relation) sign

-- an element of a choice
abbrev pub item_of : List Symbol → ChoiceItem → ItemOf ℕ ℕ
item_of symbols item = record { atom = item.atom; condition = map (literal_of symbols) item.condition }

-- a head
abbrev pub head_of : List Symbol → GroundHead → HeadOf ℕ ℕ
head_of symbols h.Nothing = NothingHead
head_of symbols (h.Atom a) = GivesHead a
head_of symbols (h.Theory theory) = HoldsHead (theory_of symbols theory)
head_of symbols (h.Choice choice) = ChoosesHead (map (item_of symbols) choice.items) choice.left choice.right

-- a rule
abbrev pub rule_of : List Symbol → GroundRule → RuleOf ℕ ℕ
rule_of symbols rule = record { body = map (literal_of symbols) rule.body; head = head_of symbols rule.head }
