-- Rules over symbols, each id read in a table.
use Rattle.std.specs.Prelude.{◌<◌, ℕ, Bool, List, ◌++◌, map}
use Rattle.std.specs.List.{AllByRecursion}
use Rattle.symbols.specs.Symbol.{Symbol}
use Rattle.symbols.specs.Table.{symbol_at}
use Rattle.ground_model.specs.Rule.{RelationOf, TheoryOf, RelationHead, DomainHead, DistinctHead, DisjointHead, LitOf, AtomLit, RelationLit, ItemOf, HeadOf, NothingHead, GivesHead, HoldsHead, ChoosesHead, RuleOf}
use Rattle.program_meaning.specs.declared.collected.CollectedPlace.{CollectedPlace}
use Rattle.program_meaning.specs.declared.collected.SymbolLinear.{SymbolLinear}
use Rattle.program_meaning.specs.Said.{linear_in, place_in}
use Rattle.symbol_rules.specs.declared.rule.SymbolRelation.{SymbolRelation}
use Rattle.symbol_rules.specs.declared.rule.SymbolTheory.{SymbolTheory}
use Rattle.symbol_rules.specs.declared.rule.SymbolTheory.TheVariants as t
use Rattle.symbol_rules.specs.declared.rule.SymbolItem.{SymbolItem}
use Rattle.symbol_rules.specs.declared.rule.SymbolHead.{SymbolHead}
use Rattle.symbol_rules.specs.declared.rule.SymbolHead.TheVariants as h
use Rattle.symbol_rules.specs.declared.rule.SymbolRule.{SymbolRule}

-- READING

abbrev pub relation_in : List Symbol → SymbolRelation → RelationOf Symbol
relation_in symbols relation = record {
  elements = map (place_in symbols) relation.elements;
  rel = relation.rel;
  right = linear_in symbols relation.right;
}

abbrev pub theory_in : List Symbol → SymbolTheory → TheoryOf Symbol
theory_in symbols (t.Relation relation) = RelationHead (relation_in symbols relation)
theory_in symbols (t.Domain numbers x) = DomainHead numbers.intervals (symbol_at symbols x)
theory_in symbols (t.Distinct places) = DistinctHead (map (place_in symbols) places)
theory_in symbols (t.Disjoint places) = DisjointHead (map (place_in symbols) places)

abbrev pub literal_in : List Symbol → ℕ × Bool → LitOf Symbol Symbol
literal_in symbols literal = AtomLit (symbol_at symbols literal.0) literal.1

abbrev pub told_in : List Symbol → SymbolRelation × Bool → LitOf Symbol Symbol
told_in symbols told = RelationLit (relation_in symbols told.0) told.1

abbrev pub item_in : List Symbol → SymbolItem → ItemOf Symbol Symbol
item_in symbols item = record { atom = symbol_at symbols item.atom; condition = map (literal_in symbols) item.condition }

abbrev pub head_in : List Symbol → SymbolHead → HeadOf Symbol Symbol
head_in symbols h.Nothing = NothingHead
head_in symbols (h.Atom id) = GivesHead (symbol_at symbols id)
head_in symbols (h.Theory theory) = HoldsHead (theory_in symbols theory)
head_in symbols (h.Choice choice) = ChoosesHead (map (item_in symbols) choice.items) choice.left choice.right

-- a rule: its atoms, and then its relations
abbrev pub rule_in : List Symbol → SymbolRule → RuleOf Symbol Symbol
rule_in symbols rule = record { body = map (literal_in symbols) rule.atoms ++ map (told_in symbols) rule.told; head = head_in symbols rule.head }

-- IDS OF A TABLE

-- the variables are among so many symbols
abbrev pub HasLinear : ℕ → SymbolLinear → Type 0
HasLinear size linear = AllByRecursion (λ pair. pair.0 < size) linear.pairs

-- so are those of a tuple, and its further places
pub record HasPlace (size : ℕ) (place : CollectedPlace) : Type 0 where
  pub linear : HasLinear size place.linear
  pub rest : AllByRecursion (λ id. id < size) place.rest

pub record HasRelation (size : ℕ) (relation : SymbolRelation) : Type 0 where
  pub elements : AllByRecursion (HasPlace size) relation.elements
  pub right : HasLinear size relation.right

abbrev pub HasTheory : ℕ → SymbolTheory → Type 0
HasTheory size (t.Relation relation) = HasRelation size relation
HasTheory size (t.Domain numbers x) = x < size
HasTheory size (t.Distinct places) = AllByRecursion (HasPlace size) places
HasTheory size (t.Disjoint places) = AllByRecursion (HasPlace size) places

abbrev pub HasLiterals : ℕ → List (ℕ × Bool) → Type 0
HasLiterals size literals = AllByRecursion (λ literal. literal.0 < size) literals

pub record HasItem (size : ℕ) (item : SymbolItem) : Type 0 where
  pub atom : item.atom < size
  pub condition : HasLiterals size item.condition

-- a head's atoms are among so many symbols, and its variables and further places among so many
abbrev pub HasHead : ℕ → ℕ → SymbolHead → Type 0
HasHead atoms size h.Nothing = Unit {0}
HasHead atoms size (h.Atom id) = id < atoms
HasHead atoms size (h.Theory theory) = HasTheory size theory
HasHead atoms size (h.Choice choice) = AllByRecursion (HasItem atoms) choice.items

pub record HasRule (atoms_size size : ℕ) (rule : SymbolRule) : Type 0 where
  pub literals : HasLiterals atoms_size rule.atoms
  pub relations : AllByRecursion (λ one. HasRelation size one.0) rule.told
  pub heads : HasHead atoms_size size rule.head
