-- Ground rules over numbers are sound.
use Rattle.std.specs.Prelude.{◌≡◌, ◌≤◌, ℕ, true, List, length, map}
use Rattle.std.specs.List.{AllByRecursion}
use Rattle.symbols.specs.declared.ends.Ends.{Ends}
use Rattle.symbols.specs.Symbol.{Symbol}
use Rattle.symbols.specs.Order.{symbol_cmp}
use Rattle.syntax_tree.specs.declared.literal.TheoryName.TheVariants as name
use Rattle.ground_model.specs.declared.linear.Place.{Place}
use Rattle.ground_model.specs.declared.rule.BodyLit.{BodyLit}
use Rattle.ground_model.specs.declared.rule.BodyLit.TheVariants as b
use Rattle.ground_model.specs.declared.rule.TheoryHead.{TheoryHead}
use Rattle.ground_model.specs.declared.rule.TheoryHead.TheVariants as t
use Rattle.ground_model.specs.declared.rule.GroundHead.{GroundHead}
use Rattle.ground_model.specs.declared.rule.GroundHead.TheVariants as h
use Rattle.ground_model.specs.declared.rule.GroundRule.{GroundRule}
use Rattle.ground_model.specs.Rule.{RuleOf}
use Rattle.ground_model.specs.Sound.{are_known, is_sound_rule, are_sound_rules, is_sound_objective}
use Rattle.ground_model.specs.View.{place_of, rule_of}
use Rattle.program_meaning.specs.Read.{ReadRule}
use Rattle.program_meaning.specs.Ascending.{IsOrderedListOf}
use Rattle.program_meaning.specs.Substitution.{Key}
use Rattle.program_meaning.specs.Instance.{IsPossible}
use Rattle.program_meaning.specs.Ground.{IsInstanceAs}
use Rattle.program_meaning.specs.Canonical.{rule_numbered, IsVariable, InstancesAs, PlacesAs}
use Rattle.program_meaning.specs.Count.{ExceedsLimit}
use Rattle.program_meaning.specs.Outside.{IsSomehowOutside, HasLargeObjective}

-- IDS

-- the further places of tuples are among so many symbols
abbrev pub AreKnownPlaces : ℕ → List Place → Type 0
AreKnownPlaces size places = AllByRecursion (λ place. are_known size place.rest ≡ true) places

-- those of a body literal
abbrev pub IsKnownLiteral : ℕ → BodyLit → Type 0
IsKnownLiteral size (b.Atom a sign) = Unit {0}
IsKnownLiteral size (b.Theory relation sign) = AreKnownPlaces size relation.elements

-- those of a theory head
abbrev pub IsKnownTheory : ℕ → TheoryHead → Type 0
IsKnownTheory size (t.Relation relation) = AreKnownPlaces size relation.elements
IsKnownTheory size (t.Domain numbers x) = Unit {0}
IsKnownTheory size (t.Distinct places) = AreKnownPlaces size places
IsKnownTheory size (t.Disjoint places) = AreKnownPlaces size places

-- those of a head
abbrev pub IsKnownHead : ℕ → GroundHead → Type 0
IsKnownHead size (h.Theory theory) = IsKnownTheory size theory
IsKnownHead size head = Unit {0}

-- those of a rule
pub record IsKnownRule (size : ℕ) (rule : GroundRule) : Type 0 where
  pub body : AllByRecursion (IsKnownLiteral size) rule.body
  pub head : IsKnownHead size rule.head

-- LAWS

-- the atoms are the possible ones and the variables the program's, both in symbol order
pub record AreNumbered (rules : List ReadRule) (atoms variables : List Symbol) : Type 0 where
  pub possible : IsOrderedListOf symbol_cmp (IsPossible rules) atoms
  pub integers : IsOrderedListOf symbol_cmp (IsVariable rules) variables

-- the rule of an instance that is not outside is sound over their numbers
abbrev pub SoundRuleLaw : Type 0
SoundRuleLaw =
    (rules : List ReadRule) (ends : Ends) (atoms variables : List Symbol) → AreNumbered rules atoms variables
    → (key : Key) → (IsSomehowOutside rules ends key → ⊥) → (made : RuleOf Symbol Symbol) → IsInstanceAs rules key made
    → (symbols : List Symbol) (held : GroundRule) → rule_of symbols held ≡ rule_numbered atoms variables made → IsKnownRule (length symbols) held
    → is_sound_rule (length symbols) (length atoms) (length variables) ends held ≡ true

-- where no instance is outside, all rules are
abbrev pub SoundRulesLaw : Type 0
SoundRulesLaw =
    (rules : List ReadRule) (ends : Ends) (atoms variables : List Symbol) → AreNumbered rules atoms variables
    → ((key : Key) → IsSomehowOutside rules ends key → ⊥) → (instances : List (Key × RuleOf Symbol Symbol)) → InstancesAs rules instances
    → (symbols : List Symbol) (held : List GroundRule) → map (rule_of symbols) held ≡ map (λ instance. rule_numbered atoms variables instance.1) instances
    → AllByRecursion (IsKnownRule (length symbols)) held
    → are_sound_rules (length symbols) (length atoms) (length variables) ends held ≡ true

-- an objective that is not too large is sound
abbrev pub SoundObjectiveLaw : Type 0
SoundObjectiveLaw =
    (rules : List ReadRule) (variables : List Symbol) → IsOrderedListOf symbol_cmp (IsVariable rules) variables → (HasLargeObjective rules → ⊥)
    → (symbols : List Symbol) (smaller larger : List Place)
    → PlacesAs rules name.Minimize variables (map (place_of symbols) smaller) → PlacesAs rules name.Maximize variables (map (place_of symbols) larger)
    → AreKnownPlaces (length symbols) smaller → AreKnownPlaces (length symbols) larger
    → is_sound_objective (length symbols) (length variables) smaller larger ≡ true

-- a program whose ground count is within the limit has no more possible atoms than the limit
abbrev pub FewAtomsLaw : Type 0
FewAtomsLaw =
    (rules : List ReadRule) (limit : ℕ) (atoms : List Symbol) → IsOrderedListOf symbol_cmp (IsPossible rules) atoms → (ExceedsLimit rules limit → ⊥)
    → length atoms ≤ limit
