-- Rules over numbers, as the code makes them from numbers by id.
use Rattle.std.specs.Prelude.{ℕ, zero, suc, ◌==◌, Bool, if◌then◌else◌, ℤ, List, [], ◌∷◌, ◌++◌, map, slice_index}
use Rattle.std.specs.List.{flat_map}
use Rattle.ground_model.specs.declared.linear.Linear.{Linear}
use Rattle.ground_model.specs.declared.linear.Place.{Place}
use Rattle.ground_model.specs.declared.linear.Relation.{Relation}
use Rattle.ground_model.specs.declared.rule.BodyLit.{BodyLit}
use Rattle.ground_model.specs.declared.rule.BodyLit.TheVariants as b
use Rattle.ground_model.specs.declared.rule.TheoryHead.{TheoryHead}
use Rattle.ground_model.specs.declared.rule.TheoryHead.TheVariants as held
use Rattle.ground_model.specs.declared.rule.ChoiceItem.{ChoiceItem}
use Rattle.ground_model.specs.declared.rule.GroundHead.{GroundHead}
use Rattle.ground_model.specs.declared.rule.GroundHead.TheVariants as g
use Rattle.ground_model.specs.declared.rule.GroundRule.{GroundRule}
use Rattle.program_meaning.specs.declared.collected.CollectedPlace.{CollectedPlace}
use Rattle.program_meaning.specs.declared.collected.SymbolLinear.{SymbolLinear}
use Rattle.symbol_rules.specs.declared.rule.SymbolRelation.{SymbolRelation}
use Rattle.symbol_rules.specs.declared.rule.SymbolTheory.{SymbolTheory}
use Rattle.symbol_rules.specs.declared.rule.SymbolTheory.TheVariants as t
use Rattle.symbol_rules.specs.declared.rule.SymbolItem.{SymbolItem}
use Rattle.symbol_rules.specs.declared.rule.SymbolHead.{SymbolHead}
use Rattle.symbol_rules.specs.declared.rule.SymbolHead.TheVariants as h
use Rattle.symbol_rules.specs.declared.rule.SymbolRule.{SymbolRule}

-- the place of an id in a list, counted from this number; 0 where it isn't there
abbrev pub number_among : ℕ → List ℕ → ℕ → ℕ
number_among n [] id = 0
number_among n (other ∷ ids) id = (if other == id then n else number_among (suc n) ids id)

abbrev pub pair_by : List ℕ → ℕ × ℤ → ℕ × ℤ
pair_by numbers pair = (slice_index numbers pair.0, pair.1)

abbrev pub linear_by : List ℕ → SymbolLinear → Linear
linear_by numbers linear = record { pairs = map (pair_by numbers) linear.pairs; constant = linear.constant }

abbrev pub place_by : List ℕ → CollectedPlace → Place
place_by numbers place = record { linear = linear_by numbers place.linear; duration = place.duration; rest = place.rest }

abbrev pub relation_by : List ℕ → SymbolRelation → Relation
relation_by numbers relation = record {
  elements = map (place_by numbers) relation.elements;
  rel = relation.rel;
  right = linear_by numbers relation.right;
}

abbrev pub theory_by : List ℕ → SymbolTheory → TheoryHead
theory_by numbers (t.Relation relation) = held.Relation (relation_by numbers relation)
theory_by numbers (t.Domain intervals x) = held.Domain intervals (slice_index numbers x)
theory_by numbers (t.Distinct places) = held.Distinct (map (place_by numbers) places)
theory_by numbers (t.Disjoint places) = held.Disjoint (map (place_by numbers) places)

-- an atom with the number 0 has none
abbrev pub literal_from : ℕ → Bool → List BodyLit
literal_from zero sign = []
literal_from (suc n) sign = b.Atom (suc n) sign ∷ []

abbrev pub literal_by : List ℕ → ℕ × Bool → List BodyLit
literal_by atoms literal = literal_from (slice_index atoms literal.0) literal.1

abbrev pub atoms_by : List ℕ → List (ℕ × Bool) → List BodyLit
atoms_by atoms literals = flat_map (literal_by atoms) literals

abbrev pub told_by : List ℕ → SymbolRelation × Bool → BodyLit
told_by variables told = b.Theory (relation_by variables told.0) told.1

abbrev pub item_from : ℕ → List BodyLit → List ChoiceItem
item_from zero condition = []
item_from (suc n) condition = record { atom = suc n; condition = condition } ∷ []

abbrev pub item_by : List ℕ → SymbolItem → List ChoiceItem
item_by atoms item = item_from (slice_index atoms item.atom) (atoms_by atoms item.condition)

abbrev pub items_by : List ℕ → List SymbolItem → List ChoiceItem
items_by atoms items = flat_map (item_by atoms) items

abbrev pub head_from : ℕ → GroundHead
head_from zero = g.Nothing
head_from (suc n) = g.Atom (suc n)

abbrev pub head_by : List ℕ → List ℕ → SymbolHead → GroundHead
head_by atoms variables h.Nothing = g.Nothing
head_by atoms variables (h.Atom id) = head_from (slice_index atoms id)
head_by atoms variables (h.Theory theory) = g.Theory (theory_by variables theory)
head_by atoms variables (h.Choice choice) = g.Choice (record { items = items_by atoms choice.items; left = choice.left; right = choice.right })

abbrev pub rule_by : List ℕ → List ℕ → SymbolRule → GroundRule
rule_by atoms variables rule = record {
  body = atoms_by atoms rule.atoms ++ map (told_by variables) rule.told;
  head = head_by atoms variables rule.head;
}
