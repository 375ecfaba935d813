-- Rules by number are the rules over the numbers of their symbols.
use Rattle.std.proofs.Common.{◌≡◌, ◌<◌, ℕ, zero, suc, Bool, true, ℤ, List, [], ◌∷◌, ◌++◌, length, map, append_assoc, refl, sym, ◌∙◌, ap, subst, arith}
use Rattle.std.specs.Prelude.{slice_index, nat_lt}
use Rattle.std.specs.List.{AllByRecursion, flat_map, list_all}
use Rattle.std.proofs.lemmas.Bool.Decides.{nat_tests}
use Rattle.std.proofs.lemmas.List.{map-append}
use Rattle.symbols.specs.Symbol.{Symbol}
use Rattle.symbols.specs.Table.{symbol_at}
use Rattle.ground_model.specs.declared.linear.Place.{Place}
use Rattle.ground_model.specs.declared.rule.BodyLit.{BodyLit}
use Rattle.ground_model.specs.declared.rule.GroundRule.{GroundRule}
use Rattle.ground_model.specs.Rule.{RelationHead, DomainHead, DistinctHead, DisjointHead, RelationLit, HoldsHead, ChoosesHead, RuleOf}
use Rattle.ground_model.specs.Sound.{are_known}
use Rattle.ground_model.specs.View.{linear_of, place_of, relation_of, theory_of, literal_of, item_of, head_of, rule_of}
use Rattle.ground_model.proofs.Bools.{and_intro}
use Rattle.program_meaning.specs.declared.collected.CollectedPlace.{CollectedPlace}
use Rattle.program_meaning.specs.declared.collected.SymbolLinear.{SymbolLinear}
use Rattle.program_meaning.specs.Said.{pair_in, linear_in, place_in}
use Rattle.program_meaning.specs.Canonical.{number_of, variable_number, linear_numbered, place_numbered, relation_numbered, theory_numbered, literal_at, literal_numbered, body_numbered, item_at, item_numbered, head_at, head_numbered, rule_numbered}
use Rattle.program_meaning.specs.Substitution.{Key}
use Rattle.program_meaning.proofs.Lists.{all_append}
use Rattle.ground_rule_laws.specs.Laws.{AreKnownPlaces, IsKnownLiteral, IsKnownTheory, IsKnownHead, IsKnownRule}
use Rattle.symbol_rules.specs.declared.rule.SymbolRelation.{SymbolRelation}
use Rattle.symbol_rules.specs.declared.rule.SymbolTheory.{SymbolTheory}
use Rattle.symbol_rules.specs.declared.rule.SymbolTheory.TheVariants as t
use Rattle.symbol_rules.specs.declared.rule.SymbolItem.{SymbolItem}
use Rattle.symbol_rules.specs.declared.rule.SymbolHead.{SymbolHead}
use Rattle.symbol_rules.specs.declared.rule.SymbolHead.TheVariants as h
use Rattle.symbol_rules.specs.declared.rule.SymbolRule.{SymbolRule}
use Rattle.symbol_rules.specs.Reading.{relation_in, theory_in, literal_in, told_in, item_in, head_in, rule_in, HasLinear, HasPlace, HasRelation, HasTheory, HasLiterals, HasItem, HasHead, HasRule}
use Rattle.numbered_rules.specs.inner.ByNumber.{pair_by, linear_by, place_by, relation_by, theory_by, literal_from, literal_by, atoms_by, told_by, item_from, item_by, items_by, head_from, head_by, rule_by}
use Rattle.numbered_rules.specs.Numbers.{or_none, AreNumbers, HaveNumbers}
use Rattle.numbered_rules.proofs.TableLemmas.{variable_same}

-- ---- linear terms

module _ (symbols variables : List Symbol) (numbers : List ℕ) (are : AreNumbers symbols variables numbers) where
  pairs_same : (ps : List (ℕ × ℤ)) → AllByRecursion (λ pair. pair.0 < length symbols) ps
      → map (pair_by numbers) ps ≡ map (λ (pair : Symbol × ℤ). (variable_number variables pair.0, pair.1)) (map (pair_in symbols) ps)
  pairs_same [] known = refl
  pairs_same (p ∷ ps) known = λ i. (variable_same symbols variables numbers are p.0 known.0 i, p.1) ∷ pairs_same ps known.1 i

  linear_same : (linear : SymbolLinear) → HasLinear (length symbols) linear → linear_of (linear_by numbers linear) ≡ linear_numbered variables (linear_in symbols linear)
  linear_same linear known = λ i. record { pairs = pairs_same linear.pairs known i; constant = linear.constant }

  place_same : (place : CollectedPlace) → HasPlace (length symbols) place → place_of symbols (place_by numbers place) ≡ place_numbered variables (place_in symbols place)
  place_same place known = λ i. record { linear = linear_same place.linear known.linear i; duration = place.duration; rest = map (symbol_at symbols) place.rest }

  pub places_same : (places : List CollectedPlace) → AllByRecursion (HasPlace (length symbols)) places
      → map (place_of symbols) (map (place_by numbers) places) ≡ map (place_numbered variables) (map (place_in symbols) places)
  places_same [] known = refl
  places_same (place ∷ places) known = λ i. place_same place known.0 i ∷ places_same places known.1 i

  relation_same : (relation : SymbolRelation) → HasRelation (length symbols) relation
      → relation_of symbols (relation_by numbers relation) ≡ relation_numbered variables (relation_in symbols relation)
  relation_same relation known = λ i. record {
    elements = places_same relation.elements known.elements i;
    rel = relation.rel;
    right = linear_same relation.right known.right i;
  }

  theory_same : (theory : SymbolTheory) → HasTheory (length symbols) theory
      → theory_of symbols (theory_by numbers theory) ≡ theory_numbered variables (theory_in symbols theory)
  theory_same (t.Relation relation) known = ap RelationHead (relation_same relation known)
  theory_same (t.Domain intervals x) known = ap (DomainHead intervals.intervals) (variable_same symbols variables numbers are x known)
  theory_same (t.Distinct places) known = ap DistinctHead (places_same places known)
  theory_same (t.Disjoint places) known = ap DisjointHead (places_same places known)

  told_same : (atoms : List Symbol) (told : List (SymbolRelation × Bool)) → AllByRecursion (λ one. HasRelation (length symbols) one.0) told
      → map (literal_of symbols) (map (told_by numbers) told) ≡ body_numbered atoms variables (map (told_in symbols) told)
  told_same atoms [] known = refl
  told_same atoms (one ∷ told) known = λ i. RelationLit (relation_same one.0 known.0 i) one.1 ∷ told_same atoms told known.1 i

-- ---- bodies and heads

module _ (symbols atoms variables : List Symbol) (atom_numbers numbers : List ℕ) (are_atoms : AreNumbers symbols atoms atom_numbers) (are : AreNumbers symbols variables numbers) where
  literal_cases : (n : ℕ) (sign : Bool) → map (literal_of symbols) (literal_from n sign) ≡ literal_at (or_none n) sign
  literal_cases zero sign = refl
  literal_cases (suc n) sign = refl

  -- what the atoms of a list give in front of other literals
  before_same : (literals : List (ℕ × Bool)) → HasLiterals (length symbols) literals → (rest : List BodyLit)
      → map (literal_of symbols) (atoms_by atom_numbers literals ++ rest) ≡ body_numbered atoms variables (map (literal_in symbols) literals) ++ map (literal_of symbols) rest
  before_same [] known rest = refl
  before_same (l ∷ literals) known rest =
      ap (map (literal_of symbols)) (append_assoc (literal_by atom_numbers l) (atoms_by atom_numbers literals) rest)
      ∙ map-append (literal_of symbols) (literal_by atom_numbers l) (atoms_by atom_numbers literals ++ rest)
      ∙ (λ i. (literal_cases (slice_index atom_numbers l.0) l.1 ∙ ap (λ o. literal_at o l.1) (are_atoms l.0 known.0)) i ++ before_same literals known.1 rest i)
      ∙ sym (append_assoc (literal_at (number_of atoms (symbol_at symbols l.0)) l.1) (body_numbered atoms variables (map (literal_in symbols) literals)) (map (literal_of symbols) rest))

  no_rest : {X : Type 0} (xs : List X) → xs ++ [] ≡ xs
  no_rest [] = refl
  no_rest (x ∷ xs) = ap (λ z. x ∷ z) (no_rest xs)

  atoms_same : (literals : List (ℕ × Bool)) → HasLiterals (length symbols) literals
      → map (literal_of symbols) (atoms_by atom_numbers literals) ≡ body_numbered atoms variables (map (literal_in symbols) literals)
  atoms_same literals known =
      ap (map (literal_of symbols)) (sym (no_rest (atoms_by atom_numbers literals))) ∙ before_same literals known []
      ∙ no_rest (body_numbered atoms variables (map (literal_in symbols) literals))

  body_append : (xs ys : List _) → body_numbered atoms variables (xs ++ ys) ≡ body_numbered atoms variables xs ++ body_numbered atoms variables ys
  body_append [] ys = refl
  body_append (x ∷ xs) ys =
      ap (λ z. literal_numbered atoms variables x ++ z) (body_append xs ys)
      ∙ sym (append_assoc (literal_numbered atoms variables x) (body_numbered atoms variables xs) (body_numbered atoms variables ys))

  item_cases : (n : ℕ) (condition : List BodyLit) → map (item_of symbols) (item_from n condition) ≡ item_at (or_none n) (map (literal_of symbols) condition)
  item_cases zero condition = refl
  item_cases (suc n) condition = refl

  item_same : (item : SymbolItem) → HasItem (length symbols) item → map (item_of symbols) (item_by atom_numbers item) ≡ item_numbered atoms variables (item_in symbols item)
  item_same item known =
      item_cases (slice_index atom_numbers item.atom) (atoms_by atom_numbers item.condition)
      ∙ (λ i. item_at (are_atoms item.atom known.atom i) (atoms_same item.condition known.condition i))

  items_same : (items : List SymbolItem) → AllByRecursion (HasItem (length symbols)) items
      → map (item_of symbols) (items_by atom_numbers items) ≡ flat_map (item_numbered atoms variables) (map (item_in symbols) items)
  items_same [] known = refl
  items_same (item ∷ items) known =
      map-append (item_of symbols) (item_by atom_numbers item) (items_by atom_numbers items) ∙ (λ i. item_same item known.0 i ++ items_same items known.1 i)

  head_cases : (n : ℕ) → head_of symbols (head_from n) ≡ head_at (or_none n)
  head_cases zero = refl
  head_cases (suc n) = refl

  head_same : (head : SymbolHead) → HasHead (length symbols) (length symbols) head
      → head_of symbols (head_by atom_numbers numbers head) ≡ head_numbered atoms variables (head_in symbols head)
  head_same h.Nothing known = refl
  head_same (h.Atom id) known = head_cases (slice_index atom_numbers id) ∙ ap head_at (are_atoms id known)
  head_same (h.Theory theory) known = ap HoldsHead (theory_same symbols variables numbers are theory known)
  head_same (h.Choice choice) known = ap (λ items. ChoosesHead items choice.left choice.right) (items_same choice.items known)

  rule_same : (rule : SymbolRule) → HasRule (length symbols) (length symbols) rule
      → rule_of symbols (rule_by atom_numbers numbers rule) ≡ rule_numbered atoms variables (rule_in symbols rule)
  rule_same rule known =
      let body =
      before_same rule.atoms known.literals (map (told_by numbers) rule.told)
      ∙ ap (λ z. body_numbered atoms variables (map (literal_in symbols) rule.atoms) ++ z) (told_same symbols variables numbers are atoms rule.told known.relations)
      ∙ sym (body_append (map (literal_in symbols) rule.atoms) (map (told_in symbols) rule.told)) in
      let head = head_same rule.head known.heads in
      λ i. record { body = body i; head = head i }

  pub rules_same : (rules : List SymbolRule) → AllByRecursion (HasRule (length symbols) (length symbols)) rules
      → map (rule_of symbols) (map (rule_by atom_numbers numbers) rules) ≡ map (rule_numbered atoms variables) (map (rule_in symbols) rules)
  rules_same [] known = refl
  rules_same (rule ∷ rules) known = λ i. rule_same rule known.0 i ∷ rules_same rules known.1 i

-- the rules of instances
pub instances_same : (atoms variables : List Symbol) (instances : List (Key × RuleOf Symbol Symbol))
    → map (rule_numbered atoms variables) (map (λ instance. instance.1) instances) ≡ map (λ instance. rule_numbered atoms variables instance.1) instances
instances_same atoms variables [] = refl
instances_same atoms variables (i ∷ is) = ap (λ z. rule_numbered atoms variables i.1 ∷ z) (instances_same atoms variables is)

-- ---- ids

below : (a b : ℕ) → a < b → nat_lt a b ≡ true
below a b l = grind (arith, nat_tests)

pub ids_known : (size : ℕ) (ids : List ℕ) → AllByRecursion (λ id. id < size) ids → are_known size ids ≡ true
ids_known size [] known = refl
ids_known size (id ∷ ids) known = and_intro (nat_lt id size) (list_all (λ id. nat_lt id size) ids) (below id size known.0) (ids_known size ids known.1)

module _ (size : ℕ) (atom_numbers numbers : List ℕ) where
  pub places_known : (places : List CollectedPlace) → AllByRecursion (HasPlace size) places → AreKnownPlaces size (map (place_by numbers) places)
  places_known [] known = tt
  places_known (place ∷ places) known = (ids_known size place.rest known.0.rest, places_known places known.1)

  theory_known : (theory : SymbolTheory) → HasTheory size theory → IsKnownTheory size (theory_by numbers theory)
  theory_known (t.Relation relation) known = places_known relation.elements known.elements
  theory_known (t.Domain intervals x) known = tt
  theory_known (t.Distinct places) known = places_known places known
  theory_known (t.Disjoint places) known = places_known places known

  literal_known : (n : ℕ) (sign : Bool) → AllByRecursion (IsKnownLiteral size) (literal_from n sign)
  literal_known zero sign = tt
  literal_known (suc n) sign = (tt, tt)

  atoms_known : (literals : List (ℕ × Bool)) → AllByRecursion (IsKnownLiteral size) (atoms_by atom_numbers literals)
  atoms_known [] = tt
  atoms_known (l ∷ literals) =
      all_append (IsKnownLiteral size) (literal_by atom_numbers l) (atoms_by atom_numbers literals) (literal_known (slice_index atom_numbers l.0) l.1) (atoms_known literals)

  told_known : (told : List (SymbolRelation × Bool)) → AllByRecursion (λ one. HasRelation size one.0) told → AllByRecursion (IsKnownLiteral size) (map (told_by numbers) told)
  told_known [] known = tt
  told_known (one ∷ told) known = (places_known one.0.elements known.0.elements, told_known told known.1)

  atom_head_known : (n : ℕ) → IsKnownHead size (head_from n)
  atom_head_known zero = tt
  atom_head_known (suc n) = tt

  head_known : (head : SymbolHead) → HasHead size size head → IsKnownHead size (head_by atom_numbers numbers head)
  head_known h.Nothing known = tt
  head_known (h.Atom id) known = atom_head_known (slice_index atom_numbers id)
  head_known (h.Theory theory) known = theory_known theory known
  head_known (h.Choice choice) known = tt

  pub rules_known : (rules : List SymbolRule) → AllByRecursion (HasRule size size) rules → AllByRecursion (IsKnownRule size) (map (rule_by atom_numbers numbers) rules)
  rules_known [] known = tt
  rules_known (rule ∷ rules) known = (
    record {
      body = all_append (IsKnownLiteral size) (atoms_by atom_numbers rule.atoms) (map (told_by numbers) rule.told) (atoms_known rule.atoms) (told_known rule.told known.0.relations);
      head = head_known rule.head known.0.heads;
    },
    rules_known rules known.1,
  )

-- ---- what is made over numbers

pub places_over : (symbols variables : List Symbol) (numbers : List ℕ) → HaveNumbers symbols variables numbers → (places : List CollectedPlace)
    → AllByRecursion (HasPlace (length numbers)) places → (made : List Place) → made ≡ map (place_by numbers) places
    → map (place_of symbols) made ≡ map (place_numbered variables) (map (place_in symbols) places)
places_over symbols variables numbers have places known made e =
    ap (map (place_of symbols)) e ∙ places_same symbols variables numbers have.each places (subst (λ n. AllByRecursion (HasPlace n) places) have.size known)

pub places_known_by : (size : ℕ) (numbers : List ℕ) (places : List CollectedPlace) → AllByRecursion (HasPlace size) places → (made : List Place) → made ≡ map (place_by numbers) places
    → AreKnownPlaces size made
places_known_by size numbers places known made e = subst (AreKnownPlaces size) (sym e) (places_known size numbers numbers places known)

pub rules_over : (symbols atoms variables : List Symbol) (atom_numbers numbers : List ℕ) → HaveNumbers symbols atoms atom_numbers → HaveNumbers symbols variables numbers
    → (rules : List SymbolRule) → AllByRecursion (HasRule (length numbers) (length numbers)) rules → (made : List GroundRule) → made ≡ map (rule_by atom_numbers numbers) rules
    → map (rule_of symbols) made ≡ map (rule_numbered atoms variables) (map (rule_in symbols) rules)
rules_over symbols atoms variables atom_numbers numbers first second rules known made e =
    ap (map (rule_of symbols)) e
    ∙ rules_same symbols atoms variables atom_numbers numbers first.each second.each rules (subst (λ n. AllByRecursion (HasRule n n) rules) second.size known)

pub rules_known_by : (size : ℕ) (atom_numbers numbers : List ℕ) (rules : List SymbolRule) → AllByRecursion (HasRule size size) rules
    → (made : List GroundRule) → made ≡ map (rule_by atom_numbers numbers) rules → AllByRecursion (IsKnownRule size) made
rules_known_by size atom_numbers numbers rules known made e = subst (AllByRecursion (IsKnownRule size)) (sym e) (rules_known size atom_numbers numbers rules known)
