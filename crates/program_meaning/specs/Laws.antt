-- Laws above the definitions.
use Rattle.std.specs.List.{AllByRecursion, list_all}
use Rattle.std.specs.Prelude.{◌≡◌, ◌⊎◌, ◌↔◌, ◌≤◌, ◌<◌, ℕ, Bool, true, false, ℤ, List, ◌++◌, length, map, nat_le, Some}
use Rattle.symbols.specs.declared.ends.Ends.{Ends}
use Rattle.symbols.specs.Symbol.{Symbol}
use Rattle.syntax_tree.specs.declared.literal.TheoryName.TheVariants as name
use Rattle.syntax_tree.specs.declared.term.Term.{Term}
use Rattle.syntax_tree.specs.Outcome.{Outcome}
use Rattle.syntax_tree.specs.Value as ordinary
use Rattle.ground_model.specs.declared.answer.Answer.{Answer}
use Rattle.ground_model.specs.declared.linear.Linear.{Linear}
use Rattle.ground_model.specs.declared.linear.Place.{Place}
use Rattle.ground_model.specs.declared.linear.Relation.{Relation}
use Rattle.ground_model.specs.declared.program.GroundProgram.{GroundProgram}
use Rattle.ground_model.specs.Answers.{IsAnswerOf}
use Rattle.ground_model.specs.Model.{IsModel}
use Rattle.ground_model.specs.Objective.{objective_of}
use Rattle.ground_model.specs.Members.{IsMember, IsApart, IsListOf}
use Rattle.ground_model.specs.Rule.{LinearOf, PlaceOf, RelationOf}
use Rattle.ground_model.specs.Sound.{most, first_places, has_few_variables, are_known, are_different, is_sound_linear, is_sound_place, is_sound_relation, are_sound_values}
use Rattle.ground_model.specs.Truth.{value_of}
use Rattle.ground_model.specs.View.{linear_of, place_of, relation_of}
use Rattle.symbols.specs.Order.{symbol_cmp}
use Rattle.program_meaning.specs.Read.{PlainLiteral, ReadElement, ReadTheory, ReadChoice, ReadRule, ReadProgram, plains}
use Rattle.program_meaning.specs.Ascending.{Ascends, IsOrderedListOf, Exceeds}
use Rattle.program_meaning.specs.Substitution.{Value, Key, substituted}
use Rattle.program_meaning.specs.Collected.{is_small_form, collected}
use Rattle.program_meaning.specs.Exact.{exact}
use Rattle.program_meaning.specs.Theory.{HasForm, place_cmp}
use Rattle.program_meaning.specs.Instance.{IsInstance, PositiveHas, CanGive, bound_in, bound_in_element, bound_in_choice, IsPossible, IsRelevantOf, IsRelevantChoice, IsRelevantElement}
use Rattle.program_meaning.specs.Tuples.{IsTuple, OccursInForm}
use Rattle.program_meaning.specs.Ground.{RelationAs, IsRuleOfProgram}
use Rattle.program_meaning.specs.Canonical.{linear_numbered, place_numbered, relation_numbered, IsVariable, GroundView, view_of, IsCanonical}
use Rattle.program_meaning.specs.Count.{Counted, IsCounted, ExceedsLimit}
use Rattle.program_meaning.specs.Outside.{IsVariableIn, HasLargeTotal, HasLargeValue}
use Rattle.program_meaning.specs.Predicates.{Predicate, HasStep, GivesStep, IsRecursive}
use Rattle.program_meaning.specs.Levels.{DecidesDependence, level, IsIn, IsClosedUnder, ReadsAtom}
use Rattle.program_meaning.specs.Safety.{IsBoundInBody, IsBoundInCondition}
use Rattle.program_meaning.specs.Search.{Node, Step, IsOf, IsPrepared, AreReady, searched, Finds, start, none_bound, bound_after_all, AreNumbered, IsHeld, IsStepOf, HasListed, HasItsVariables, is_listed, globals_bound, start_with, Meets}
use Rattle.program_meaning.specs.Variables.{globals, element_locals, choice_locals}
use Rattle.program_meaning.specs.Models.{IsModelOf, IsSameWorld, IsShaped, IsObjective}

-- there is one canonical ground program: two that a program has are equal, each id read as its symbol
abbrev pub OneLaw : Type 0
OneLaw = (program : ReadProgram) (one other : GroundView) → IsCanonical program one → IsCanonical program other → one ≡ other

-- a model of the program has possible atoms alone
abbrev pub PossibleLaw : Type 0
PossibleLaw =
    (rules : List ReadRule) (model : Symbol → Bool) (values : Symbol → ℤ) → IsModel (IsRuleOfProgram rules) values model
    → (a : Symbol) → model a ≡ true → IsPossible rules a

-- an answer of the ground program's shape is one of its constraint stable models exactly where it says what one of the program's says
abbrev pub SameModelsLaw : Type 0
SameModelsLaw =
    (program : ReadProgram) (ground_program : GroundProgram) → IsCanonical program (view_of ground_program)
    → (model : Symbol → Bool) (values : Symbol → ℤ) (answer : Answer) → IsShaped ground_program answer → IsSameWorld (view_of ground_program) model values answer
    → IsAnswerOf ground_program answer ↔ IsModelOf program.rules ground_program.ends model values

-- each constraint stable model of the program is said by one of the ground program
abbrev pub DownLaw : Type 0
DownLaw =
    (program : ReadProgram) (ground_program : GroundProgram) → IsCanonical program (view_of ground_program)
    → (model : Symbol → Bool) (values : Symbol → ℤ) → IsModelOf program.rules ground_program.ends model values
    → (answer : Answer) × IsSameWorld (view_of ground_program) model values answer × IsAnswerOf ground_program answer

-- each constraint stable model of the ground program says one of the program
abbrev pub UpLaw : Type 0
UpLaw =
    (program : ReadProgram) (ground_program : GroundProgram) → IsCanonical program (view_of ground_program)
    → (answer : Answer) → IsAnswerOf ground_program answer
    → (model : Symbol → Bool) × (values : Symbol → ℤ) × IsSameWorld (view_of ground_program) model values answer × IsModelOf program.rules ground_program.ends model values

-- two that say the same have the same objective
abbrev pub ObjectiveLaw : Type 0
ObjectiveLaw =
    (program : ReadProgram) (ground_program : GroundProgram) → IsCanonical program (view_of ground_program)
    → (model : Symbol → Bool) (values : Symbol → ℤ) (answer : Answer) → IsSameWorld (view_of ground_program) model values answer
    → (objective : ℤ) → IsObjective program.rules values objective ↔ (objective ≡ objective_of ground_program answer)

-- where all that is counted is listed once, the ground count exceeds the limit exactly where the list is longer
abbrev pub CountLaw : Type 0
CountLaw =
    (rules : List ReadRule) (limit : ℕ) (all : List Counted) → IsApart all → IsListOf (IsCounted rules) all → ExceedsLimit rules limit ↔ (limit < length all)

-- where all tuples of a theory atom are listed in order, there are more than the limit exactly where the list is longer
abbrev pub TuplesLaw : Type 0
TuplesLaw =
    (rules : List ReadRule) (rule : ReadRule) (values : List Value) (theory : ReadTheory) (limit : ℕ) (all : List (PlaceOf Symbol))
    → IsOrderedListOf place_cmp (IsTuple (IsPossible rules) rule values theory) all
    → Exceeds (IsTuple (IsPossible rules) rule values theory) limit ↔ (limit < length all)

-- where all integer variables are listed in order, there are more than the limit exactly where the list is longer
abbrev pub VariablesLaw : Type 0
VariablesLaw =
    (rules : List ReadRule) (limit : ℕ) (all : List Symbol) → IsOrderedListOf symbol_cmp (IsVariable rules) all
    → Exceeds (IsVariable rules) limit ↔ (limit < length all)

-- a set that is closed under all rules has all possible atoms
abbrev pub ClosedLaw : Type 0
ClosedLaw =
    (rules : List ReadRule) (set : Symbol → Bool) → ((rule : ReadRule) → IsMember rules rule → IsClosedUnder set rule)
    → (a : Symbol) → IsPossible rules a → IsIn set a

-- what an instance can give whose positive atoms are possible is possible
abbrev pub GivesLaw : Type 0
GivesLaw =
    (rules : List ReadRule) (rule : ReadRule) → IsMember rules rule → (values : List Value) → IsInstance rule values
    → AllByRecursion (PositiveHas (IsPossible rules) (bound_in rule values)) (plains rule.body)
    → (a : Symbol) → CanGive (IsPossible rules) rule values rule.head a → IsPossible rules a

-- a set that grows stays closed under a rule that reads none of the atoms that it gets
abbrev pub GrowsLaw : Type 0
GrowsLaw =
    (rule : ReadRule) (less more : Symbol → Bool) → ((a : Symbol) → IsIn less a → IsIn more a)
    → ((a : Symbol) → ReadsAtom rule a → IsIn more a → IsIn less a) → IsClosedUnder less rule → IsClosedUnder more rule

-- levels do not rise from a predicate to one on which it depends
abbrev pub LevelLaw : Type 0
LevelLaw =
    (rules : List ReadRule) (reaches : Predicate → Predicate → Bool) (predicates : List Predicate) → DecidesDependence rules reaches
    → (p q : Predicate) → HasStep rules p q → level reaches predicates q ≤ level reaches predicates p

-- levels fall at each step of a rule that is not recursive
abbrev pub FallLaw : Type 0
FallLaw =
    (rules : List ReadRule) (reaches : Predicate → Predicate → Bool) (predicates : List Predicate) → DecidesDependence rules reaches
    → (rule : ReadRule) → IsMember rules rule → (IsRecursive rules rule → ⊥)
    → (p q : Predicate) → IsMember predicates p → GivesStep rule p q → level reaches predicates q < level reaches predicates p

-- a search whose steps are ready in their order finds exactly the values that meet all steps, each once
abbrev pub SearchLaw : Type 0
SearchLaw =
    (literals : List PlainLiteral) (atoms : List Symbol) (count : ℕ) (before : ℕ → Bool) (steps : List Step) (node : Node) → IsApart atoms
    → IsPrepared count before node → AreReady literals count before steps → Finds literals atoms before steps node (searched atoms steps node)

-- at each node that it finds, what its steps bind is bound, and nothing else
abbrev pub PreparedLaw : Type 0
PreparedLaw =
    (literals : List PlainLiteral) (atoms : List Symbol) (count : ℕ) (before : ℕ → Bool) (steps : List Step) (node : Node) → IsApart atoms
    → IsPrepared count before node → AreReady literals count before steps
    → (leaf : Node) → IsMember (searched atoms steps node) leaf → IsPrepared count (bound_after_all steps before) leaf

-- a search may start where nothing is bound
abbrev pub StartLaw : Type 0
StartLaw = (count : ℕ) → IsPrepared count none_bound (start count)

-- a node at which all of a substitution's variables are bound stands for one substitution
abbrev pub LeafLaw : Type 0
LeafLaw =
    (count : ℕ) (variables : List ℕ) (node : Node) (one other : List Value) → AreNumbered count variables
    → length one ≡ length variables → length other ≡ length variables → AllByRecursion (IsHeld node.binding) variables
    → IsOf node (substituted count variables one) → IsOf node (substituted count variables other) → one ≡ other

-- a rule whose body binds its global variables has steps for a search that are its own, ready in their order, and bind these variables
abbrev pub SafeLaw : Type 0
SafeLaw =
    (rule : ReadRule) → HasItsVariables rule → AllByRecursion (IsBoundInBody rule) (globals rule)
    → (steps : List Step) × AllByRecursion (IsStepOf (plains rule.body)) steps × AreReady (plains rule.body) (length rule.order) none_bound steps
    × ((n : ℕ) → IsMember (globals rule) n → bound_after_all steps none_bound n ≡ true)

-- a relevant instance meets all steps that are its rule's own, over the possible atoms
abbrev pub MeetsLaw : Type 0
MeetsLaw =
    (rules : List ReadRule) (key : Key) (rule : ReadRule) → IsRelevantOf rules key rule → (atoms : List Symbol) → IsListOf (IsPossible rules) atoms
    → (steps : List Step) → AllByRecursion (IsStepOf (plains rule.body)) steps
    → AllByRecursion (Meets (plains rule.body) atoms (bound_in rule key.values)) steps

-- a condition that binds these variables has steps for a search that are its own, ready in their order where the global variables are
-- bound, and bind these variables, too
abbrev pub SafeConditionLaw : Type 0
SafeConditionLaw =
    (rule : ReadRule) (condition : List PlainLiteral) (locals : List ℕ) → HasItsVariables rule → HasListed rule.order condition
    → ((n : ℕ) → IsMember locals n → IsMember rule.order n) → AllByRecursion (IsBoundInCondition rule condition) locals
    → (steps : List Step) × AllByRecursion (IsStepOf condition) steps × AreReady (plains rule.body ++ condition) (length rule.order) (globals_bound rule) steps
    × ((n : ℕ) → (IsMember locals n ⊎ (globals_bound rule n ≡ true)) → bound_after_all steps (globals_bound rule) n ≡ true)

-- a search may start where some variables have values, as those of an element do where the global ones have those of an instance of its rule
abbrev pub StartWithLaw : Type 0
StartWithLaw =
    (count : ℕ) (variables : List ℕ) (values : List Value) → AreNumbered count variables → length values ≡ length variables
    → IsPrepared count (is_listed variables) (start_with count variables values)

-- the start stands for what the variables are worth in each instance of an element
abbrev pub StartsLaw : Type 0
StartsLaw =
    (count : ℕ) (variables locals : List ℕ) (values more : List Value) → IsOf (start_with count variables values) (substituted count (variables ++ locals) (values ++ more))

-- a rule's global variables and an element's local ones are different variables, each once
abbrev pub LocalsLaw : Type 0
LocalsLaw =
    (rule : ReadRule) → AreNumbered (length rule.order) rule.order
    → ((element : ReadElement) → AreNumbered (length rule.order) (globals rule ++ element_locals rule element))
    × ((element : ReadChoice) → AreNumbered (length rule.order) (globals rule ++ choice_locals rule element))

-- a node at which they are all bound stands for one instance of the element under the values of the global ones
abbrev pub LeafElementLaw : Type 0
LeafElementLaw =
    (count : ℕ) (variables locals : List ℕ) (node : Node) (values one other : List Value) → AreNumbered count (variables ++ locals)
    → length values ≡ length variables → length one ≡ length locals → length other ≡ length locals → AllByRecursion (IsHeld node.binding) (variables ++ locals)
    → IsOf node (substituted count (variables ++ locals) (values ++ one)) → IsOf node (substituted count (variables ++ locals) (values ++ other)) → one ≡ other

-- a relevant instance of an element of a theory atom meets all steps that are its condition's own, over the possible atoms
abbrev pub MeetsElementLaw : Type 0
MeetsElementLaw =
    (rules : List ReadRule) (rule : ReadRule) (values : List Value) (theory : ReadTheory) (key : Key) (element : ReadElement)
    → IsRelevantElement (IsPossible rules) rule values theory key element → (atoms : List Symbol) → IsListOf (IsPossible rules) atoms
    → (steps : List Step) → AllByRecursion (IsStepOf element.condition) steps
    → AllByRecursion (Meets (plains rule.body ++ element.condition) atoms (bound_in_element rule values element key.values)) steps

-- so does one of an element of a choice
abbrev pub MeetsChoiceLaw : Type 0
MeetsChoiceLaw =
    (rules : List ReadRule) (rule : ReadRule) (values : List Value) (elements : List ReadChoice) (key : Key) (element : ReadChoice)
    → IsRelevantChoice (IsPossible rules) rule values elements key element → (atoms : List Symbol) → IsListOf (IsPossible rules) atoms
    → (steps : List Step) → AllByRecursion (IsStepOf element.condition) steps
    → AllByRecursion (Meets (plains rule.body ++ element.condition) atoms (bound_in_choice rule values element key.values)) steps

-- a term that has a collected form comes to the form's value, whatever values the integer variables have
abbrev pub CollectedLaw : Type 0
CollectedLaw =
    (bound : List Outcome) (term : Term) (form : LinearOf Symbol) → (collected bound term).undefined ≡ false → HasForm (collected bound term) form
    → (values : Symbol → ℤ) → (exact values bound term).integer ≡ Some (value_of values form)

-- the value that is collected with a term is its value as an ordinary term
abbrev pub OrdinaryLaw : Type 0
OrdinaryLaw = (bound : List Outcome) (term : Term) → (collected bound term).value ≡ ordinary.value_of bound term

-- a collected form has each variable once, in the order of symbols, and where no part is too large all its numbers are small
abbrev pub FormLaw : Type 0
FormLaw =
    (bound : List Outcome) (term : Term)
    → Ascends (λ a b. symbol_cmp a.0 b.0) (collected bound term).form.pairs
    × ((collected bound term).large ≡ false → is_small_form (collected bound term).form ≡ true)

-- over the numbers of listed variables a collected form is a sound linear term of a ground program
abbrev pub SoundTermLaw : Type 0
SoundTermLaw =
    (variables : List Symbol) → Ascends symbol_cmp variables
    → (bound : List Outcome) (term : Term) (form : LinearOf Symbol) → HasForm (collected bound term) form → ((x : Symbol) → OccursInForm x form → IsMember variables x)
    → (linear : Linear) → linear_of linear ≡ linear_numbered variables form → is_sound_linear (length variables) linear ≡ true

-- the tuples of a theory atom within the limit, in order and over numbers, are sound tuples of a ground program: each of them, all
-- different, and not too many
abbrev pub SoundTuplesLaw : Type 0
SoundTuplesLaw =
    (rules : List ReadRule) (rule : ReadRule) (values : List Value) (theory : ReadTheory) (variables : List Symbol) (places : List (PlaceOf Symbol))
    (symbols : List Symbol) (held : List Place) → Ascends symbol_cmp variables
    → IsOrderedListOf place_cmp (IsTuple (IsPossible rules) rule values theory) places → (Exceeds (IsTuple (IsPossible rules) rule values theory) most → ⊥)
    → ((place : PlaceOf Symbol) → IsMember places place → (x : Symbol) → OccursInForm x place.linear → IsMember variables x)
    → map (place_of symbols) held ≡ map (place_numbered variables) places → AllByRecursion (λ place. are_known (length symbols) place.rest ≡ true) held
    → (list_all (is_sound_place (length symbols) (length variables)) held ≡ true) × (are_different held ≡ true) × (nat_le (length held) most ≡ true)

-- and where it has few variables, few occur in them
abbrev pub FewVariablesLaw : Type 0
FewVariablesLaw =
    (rules : List ReadRule) (rule : ReadRule) (values : List Value) (theory : ReadTheory) (variables : List Symbol) (places : List (PlaceOf Symbol))
    (symbols : List Symbol) (held : List Place) → IsOrderedListOf place_cmp (IsTuple (IsPossible rules) rule values theory) places
    → (theory.name ≡ name.Dom → ⊥) → (Exceeds (IsVariableIn (IsPossible rules) rule values theory) most → ⊥)
    → map (place_of symbols) held ≡ map (place_numbered variables) places → has_few_variables (length variables) (first_places held) ≡ true

-- a relation of a theory atom within its limits, over numbers, is a sound relation of a ground program
abbrev pub SoundRelationLaw : Type 0
SoundRelationLaw =
    (rules : List ReadRule) (rule : ReadRule) (values : List Value) (theory : ReadTheory) (variables : List Symbol) (symbols : List Symbol)
    (relation : RelationOf Symbol) (held : Relation) → Ascends symbol_cmp variables → RelationAs (IsPossible rules) rule values theory relation
    → (Exceeds (IsTuple (IsPossible rules) rule values theory) most → ⊥) → (Exceeds (IsVariableIn (IsPossible rules) rule values theory) most → ⊥)
    → (HasLargeTotal (IsPossible rules) rule values theory → ⊥)
    → ((place : PlaceOf Symbol) → IsMember relation.elements place → (x : Symbol) → OccursInForm x place.linear → IsMember variables x)
    → ((x : Symbol) → OccursInForm x relation.right → IsMember variables x)
    → relation_of symbols held ≡ relation_numbered variables relation → AllByRecursion (λ place. are_known (length symbols) place.rest ≡ true) held.elements
    → is_sound_relation (length symbols) (length variables) held ≡ true

-- the tuples of `&distinct` or `&disjoint` within the limits, over numbers, are sound with their values over the ends
abbrev pub SoundValuesLaw : Type 0
SoundValuesLaw =
    (rules : List ReadRule) (ends : Ends) (rule : ReadRule) (values : List Value) (theory : ReadTheory) (variables : List Symbol) (places : List (PlaceOf Symbol))
    (symbols : List Symbol) (held : List Place) → Ascends symbol_cmp variables
    → IsOrderedListOf place_cmp (IsTuple (IsPossible rules) rule values theory) places → (theory.name ≡ name.Distinct) ⊎ (theory.name ≡ name.Disjoint)
    → (Exceeds (IsTuple (IsPossible rules) rule values theory) most → ⊥) → (Exceeds (IsVariableIn (IsPossible rules) rule values theory) most → ⊥)
    → (HasLargeValue (IsPossible rules) ends rule values theory → ⊥)
    → ((place : PlaceOf Symbol) → IsMember places place → (x : Symbol) → OccursInForm x place.linear → IsMember variables x)
    → map (place_of symbols) held ≡ map (place_numbered variables) places → AllByRecursion (λ place. are_known (length symbols) place.rest ≡ true) held
    → are_sound_values (length symbols) (length variables) ends held ≡ true
