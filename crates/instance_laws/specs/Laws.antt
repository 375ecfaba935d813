-- The parts of ground programs.
use Rattle.std.specs.Prelude.{◌≡◌, true, ℤ, List, ◌++◌, map, Option, None, Some}
use Rattle.std.specs.List.{AllZip}
use Rattle.symbols.specs.declared.rel.Rel.{Rel}
use Rattle.symbols.specs.Symbol.{Symbol}
use Rattle.syntax_tree.specs.declared.literal.TheoryName.{TheoryName}
use Rattle.syntax_tree.specs.declared.literal.TheoryName.TheVariants as name
use Rattle.ground_model.specs.Members.{IsListOf}
use Rattle.ground_model.specs.Rule.{LinearOf, PlaceOf, LitOf, HeadOf, RuleOf}
use Rattle.program_meaning.specs.Read.{ReadTheory, ReadLiteral, ReadRule}
use Rattle.program_meaning.specs.Ascending.{IsOrderedListOf}
use Rattle.program_meaning.specs.Canonical.{IsVariable, IsDirected, InstancesAs}
use Rattle.program_meaning.specs.Ground.{is_relation, RelationAs, ToldAs, DutyAs, is_directive}
use Rattle.program_meaning.specs.Instance.{IsPossible, IsRelevant}
use Rattle.program_meaning.specs.Substitution.{Value, Key, key_cmp}
use Rattle.program_meaning.specs.Tuples.{theories, duty_in}
use Rattle.theory_laws.specs.Collecting.{IsCollected}
use Rattle.groundable_rules.specs.Groundable.{is_guarded}
use Rattle.instance_laws.specs.Making.{IsPartOf, joined, told_in_order, IsToldAs, IsDutyFrom, Form, IsForm, form_variables, all_variables, OccursIn, OccursInSome, AreVariablesAt, Named, IsDirectivePart, named_places}

-- what all relevant instances give, in their order, are the instances of the ground program
abbrev pub InstancesLaw : Type 0
InstancesLaw =
    (rules : List ReadRule) (keys : List Key) (parts : List (List (Key × RuleOf Symbol Symbol))) → IsOrderedListOf key_cmp (IsRelevant rules) keys
    → AllZip (IsPartOf rules) keys parts → InstancesAs rules (joined parts)

-- the theory atoms of a rule are those of its theory literals and that of its head
abbrev pub TheoriesLaw : Type 0
TheoriesLaw = (rule : ReadRule) → theories rule ≡ map (λ told. told.0) (told_in_order rule.body) ++ duty_in rule.head

-- the relations of theory literals are those of a ground body
abbrev pub ToldLaw : Type 0
ToldLaw =
    (rules : List ReadRule) (rule : ReadRule) (values : List Value) (literals : List ReadLiteral) (lits : List (LitOf Symbol Symbol))
    → AllZip (IsToldAs rules rule values) (told_in_order literals) lits → ToldAs (IsPossible rules) rule values literals lits

-- a theory atom with a guard has it in collected form
abbrev pub GuardedLaw : Type 0
GuardedLaw =
    (rules : List ReadRule) (rule : ReadRule) (values : List Value) (theory : ReadTheory) (places : List (PlaceOf Symbol)) (intervals : List (ℤ × ℤ))
    → IsCollected (IsPossible rules) rule values theory places intervals None → is_guarded theory.guard ≡ true → ⊥

-- `&sum` and `&diff` are relations
abbrev pub RelationLaw : Type 0
RelationLaw =
    (rules : List ReadRule) (rule : ReadRule) (values : List Value) (theory : ReadTheory) (places : List (PlaceOf Symbol)) (intervals : List (ℤ × ℤ)) (rel : Rel) (right : LinearOf Symbol)
    → IsCollected (IsPossible rules) rule values theory places intervals (Some (rel, right)) → is_relation theory.name ≡ true
    → RelationAs (IsPossible rules) rule values theory (record { elements = places; rel = rel; right = right })

-- a theory atom as a head
abbrev pub DutyLaw : Type 0
DutyLaw =
    (rules : List ReadRule) (rule : ReadRule) (values : List Value) (theory : ReadTheory) (places : List (PlaceOf Symbol)) (intervals : List (ℤ × ℤ)) (guard : Option (Rel × LinearOf Symbol)) (head : HeadOf Symbol Symbol)
    → IsCollected (IsPossible rules) rule values theory places intervals guard → IsDutyFrom theory.name places intervals guard head
    → DutyAs (IsPossible rules) rule values theory theory.name head

-- the integer variables of a theory atom are those of its form
abbrev pub AtomVariablesLaw : Type 0
AtomVariablesLaw =
    (rules : List ReadRule) (rule : ReadRule) (values : List Value) (theory : ReadTheory) (form : Form) → IsForm rules rule values theory form → (theory.name ≡ name.Show → ⊥)
    → IsListOf (OccursIn rules rule values theory) (form_variables theory.name form)

-- those of an instance are those of its theory atoms
abbrev pub InstanceVariablesLaw : Type 0
InstanceVariablesLaw =
    (rules : List ReadRule) (rule : ReadRule) (values : List Value) (all : List ReadTheory) (forms : List Form) → AllZip (IsForm rules rule values) all forms
    → IsListOf (OccursInSome rules rule values all) (all_variables all forms)

-- those of a program are those of its relevant instances
abbrev pub ProgramVariablesLaw : Type 0
ProgramVariablesLaw =
    (rules : List ReadRule) (keys : List Key) (parts : List (List Symbol)) → IsListOf (IsRelevant rules) keys → AllZip (AreVariablesAt rules) keys parts
    → IsListOf (IsVariable rules) (joined parts)

-- the tuples of a directive are those of the directives of relevant instances
abbrev pub DirectedLaw : Type 0
DirectedLaw =
    (rules : List ReadRule) (keys : List Key) (parts : List (List Named)) → IsListOf (IsRelevant rules) keys → AllZip (IsDirectivePart rules) keys parts
    → (directive : TheoryName) → is_directive directive ≡ true → IsListOf (IsDirected rules directive) (named_places directive (joined parts))
