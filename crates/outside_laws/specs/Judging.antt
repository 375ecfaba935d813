-- The first cause of an instance, from those of its theory atoms.
use Rattle.std.specs.Prelude.{◌≡◌, ◌⊎◌, true, false, List, [], ◌∷◌, Option, None, Some}
use Rattle.symbols.specs.declared.ends.Ends.{Ends}
use Rattle.symbols.specs.Symbol.{Symbol}
use Rattle.ground_model.specs.Members.{IsMember}
use Rattle.program_meaning.specs.Read.{ReadTheory, ReadChoice, ReadRule}
use Rattle.program_meaning.specs.Count.{choices_in}
use Rattle.program_meaning.specs.Instance.{IsRelevantChoice}
use Rattle.program_meaning.specs.Outside.{is_rule_over, is_choice_over, HasCause, Cause, Overflow, NotLinear, TooManyElements, TooLarge, causes_before}
use Rattle.program_meaning.specs.Substitution.{Value, Key}
use Rattle.theory_laws.specs.Collecting.{AtomHas, IsFirstOf}

-- the first cause for which an instance is outside
pub record IsFirstCause (P : Symbol → Type 0) (ends : Ends) (rule : ReadRule) (values : List Value) (cause : Cause) : Type 0 where
  pub has : HasCause P ends rule values cause
  pub first : (other : Cause) → IsMember (causes_before cause) other → HasCause P ends rule values other → ⊥

-- a term or a comparison outside theory atoms is over
abbrev pub IsOverBeside : (Symbol → Type 0) → ReadRule → List Value → Type 0
IsOverBeside P rule values =
    (is_rule_over rule values ≡ true)
    ⊎ ((key : Key) × (element : ReadChoice) × IsRelevantChoice P rule values (choices_in rule.head) key element × (is_choice_over rule values element key.values ≡ true))

-- none is
pub record IsNotOver (P : Symbol → Type 0) (rule : ReadRule) (values : List Value) : Type 0 where
  pub rule_inside : is_rule_over rule values ≡ false
  pub choice_inside : (key : Key) (element : ReadChoice) → IsRelevantChoice P rule values (choices_in rule.head) key element
      → is_choice_over rule values element key.values ≡ false

-- the first cause of a theory atom, if it has one
abbrev pub IsJudgedAs : (Symbol → Type 0) → ReadRule → List Value → ReadTheory → Option Cause → Type 0
IsJudgedAs P rule values theory None = (cause : Cause) → AtomHas P rule values theory cause → ⊥
IsJudgedAs P rule values theory (Some cause) = IsFirstOf P rule values theory cause

-- the earlier of two causes
abbrev pub earlier : Cause → Cause → Cause
earlier Overflow other = Overflow
earlier NotLinear Overflow = Overflow
earlier NotLinear NotLinear = NotLinear
earlier NotLinear TooManyElements = NotLinear
earlier NotLinear TooLarge = NotLinear
earlier TooManyElements Overflow = Overflow
earlier TooManyElements NotLinear = NotLinear
earlier TooManyElements TooManyElements = TooManyElements
earlier TooManyElements TooLarge = TooManyElements
earlier TooLarge other = other

abbrev pub earlier_of : Option Cause → Option Cause → Option Cause
earlier_of None other = other
earlier_of (Some cause) None = Some cause
earlier_of (Some cause) (Some other) = Some (earlier cause other)

-- the first of some causes, if there is one
abbrev pub first_in : List (Option Cause) → Option Cause
first_in [] = None
first_in (found ∷ rest) = earlier_of found (first_in rest)
