-- What holds of theory atoms under instances.
use Rattle.std.specs.Prelude.{◌≡◌, ◌⊎◌, ◌↔◌, ℕ, true, ℤ, List, Option}
use Rattle.symbols.specs.Symbol.{Symbol}
use Rattle.symbols.specs.declared.ends.Ends.{Ends}
use Rattle.symbols.specs.declared.rel.Rel.{Rel}
use Rattle.ground_model.specs.Members.{IsMember, IsListOf, Counts}
use Rattle.ground_model.specs.Rule.{LinearOf, PlaceOf}
use Rattle.program_meaning.specs.Read.{ReadTheory, ReadChoice, ReadRule}
use Rattle.program_meaning.specs.Ascending.{Exceeds}
use Rattle.program_meaning.specs.Substitution.{Value, Key}
use Rattle.program_meaning.specs.Instance.{IsPossible, IsRelevantChoice}
use Rattle.program_meaning.specs.Count.{choices_in}
use Rattle.program_meaning.specs.Tuples.{theories}
use Rattle.program_meaning.specs.Outside.{is_rule_over, is_choice_over, HasLargeValue, HasCause, Cause, Overflow, NotLinear, TooManyElements, TooLarge}
use Rattle.theory_laws.specs.Collecting.{IsElementKey, AtomHas, IsFirstOf, IsCollected}

-- a cause of an instance that lies outside its theory atoms, or that only the ends of the integer variables show
abbrev pub HasBeside : (Symbol → Type 0) → Ends → ReadRule → List Value → Cause → Type 0
HasBeside P ends rule values Overflow =
    (is_rule_over rule values ≡ true)
    ⊎ ((key : Key) × (element : ReadChoice) × IsRelevantChoice P rule values (choices_in rule.head) key element × (is_choice_over rule values element key.values ≡ true))
HasBeside P ends rule values NotLinear = ⊥
HasBeside P ends rule values TooManyElements = ⊥
HasBeside P ends rule values TooLarge = (theory : ReadTheory) × IsMember (theories rule) theory × HasLargeValue P ends rule values theory

-- the causes of an instance are those of its theory atoms, and those beside them
abbrev pub CausesLaw : Type 0
CausesLaw =
    (rules : List ReadRule) (ends : Ends) (rule : ReadRule) (values : List Value) (cause : Cause)
    → HasCause (IsPossible rules) ends rule values cause
    ↔ (HasBeside (IsPossible rules) ends rule values cause
    ⊎ ((theory : ReadTheory) × IsMember (theories rule) theory × AtomHas (IsPossible rules) rule values theory cause))

-- over a list of all possible atoms there are as many element instances as over the possible atoms, and more than a limit where there are there
abbrev pub CountsAlikeLaw : Type 0
CountsAlikeLaw =
    (rules : List ReadRule) (atoms : List Symbol) → IsListOf (IsPossible rules) atoms → (rule : ReadRule) (values : List Value) (theory : ReadTheory) (number : ℕ)
    → (Counts (IsElementKey (IsMember atoms) rule values theory) number ↔ Counts (IsElementKey (IsPossible rules) rule values theory) number)
    × (Exceeds (IsElementKey (IsMember atoms) rule values theory) number ↔ Exceeds (IsElementKey (IsPossible rules) rule values theory) number)

-- it has the same causes, and so the same first cause
abbrev pub CausesAlikeLaw : Type 0
CausesAlikeLaw =
    (rules : List ReadRule) (atoms : List Symbol) → IsListOf (IsPossible rules) atoms → (rule : ReadRule) (values : List Value) (theory : ReadTheory) (cause : Cause)
    → (AtomHas (IsMember atoms) rule values theory cause ↔ AtomHas (IsPossible rules) rule values theory cause)
    × (IsFirstOf (IsMember atoms) rule values theory cause ↔ IsFirstOf (IsPossible rules) rule values theory cause)

-- and the same collected form
abbrev pub CollectedAlikeLaw : Type 0
CollectedAlikeLaw =
    (rules : List ReadRule) (atoms : List Symbol) → IsListOf (IsPossible rules) atoms → (rule : ReadRule) (values : List Value) (theory : ReadTheory)
    (places : List (PlaceOf Symbol)) (intervals : List (ℤ × ℤ)) (guard : Option (Rel × LinearOf Symbol))
    → IsCollected (IsMember atoms) rule values theory places intervals guard ↔ IsCollected (IsPossible rules) rule values theory places intervals guard
