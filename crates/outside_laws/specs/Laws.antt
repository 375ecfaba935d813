-- First causes, and the first instance that is outside.
use Rattle.std.specs.Prelude.{◌≡◌, List, ◌∷◌, ◌++◌, Option, None, Some}
use Rattle.std.specs.List.{AllByRecursion, AllZip}
use Rattle.symbols.specs.declared.ends.Ends.{Ends}
use Rattle.ground_model.specs.Members.{IsMember, IsListOf}
use Rattle.program_meaning.specs.Read.{ReadTheory, ReadRule}
use Rattle.program_meaning.specs.Ascending.{IsOrderedListOf}
use Rattle.program_meaning.specs.Instance.{IsPossible, IsRelevant, IsRelevantOf}
use Rattle.program_meaning.specs.Outside.{HasLargeValue, HasCause, Cause, Overflow, TooLarge, IsSomehowOutside, IsFirstOutside}
use Rattle.program_meaning.specs.Substitution.{Value, Key, key_cmp}
use Rattle.program_meaning.specs.Tuples.{theories}
use Rattle.outside_laws.specs.Judging.{IsFirstCause, IsOverBeside, IsNotOver, IsJudgedAs, first_in}

-- something over outside theory atoms is the first cause
abbrev pub OverLaw : Type 0
OverLaw =
    (rules : List ReadRule) (ends : Ends) (rule : ReadRule) (values : List Value) → IsOverBeside (IsPossible rules) rule values
    → IsFirstCause (IsPossible rules) ends rule values Overflow

-- else the first of those of its theory atoms
abbrev pub FirstLaw : Type 0
FirstLaw =
    (rules : List ReadRule) (ends : Ends) (rule : ReadRule) (values : List Value) (found : List (Option Cause)) (cause : Cause) → IsNotOver (IsPossible rules) rule values
    → AllZip (IsJudgedAs (IsPossible rules) rule values) (theories rule) found → first_in found ≡ Some cause → IsFirstCause (IsPossible rules) ends rule values cause

-- else a value over the ends that is too large
abbrev pub LargeLaw : Type 0
LargeLaw =
    (rules : List ReadRule) (ends : Ends) (rule : ReadRule) (values : List Value) (found : List (Option Cause)) (theory : ReadTheory) → IsNotOver (IsPossible rules) rule values
    → AllZip (IsJudgedAs (IsPossible rules) rule values) (theories rule) found → first_in found ≡ None
    → IsMember (theories rule) theory → HasLargeValue (IsPossible rules) ends rule values theory → IsFirstCause (IsPossible rules) ends rule values TooLarge

-- else there is no cause
abbrev pub InsideLaw : Type 0
InsideLaw =
    (rules : List ReadRule) (ends : Ends) (rule : ReadRule) (values : List Value) (found : List (Option Cause)) → IsNotOver (IsPossible rules) rule values
    → AllZip (IsJudgedAs (IsPossible rules) rule values) (theories rule) found → first_in found ≡ None
    → ((theory : ReadTheory) → IsMember (theories rule) theory → HasLargeValue (IsPossible rules) ends rule values theory → ⊥)
    → (cause : Cause) → HasCause (IsPossible rules) ends rule values cause → ⊥

-- the first relevant instance that has a cause is the first that is outside
abbrev pub FirstOutsideLaw : Type 0
FirstOutsideLaw =
    (rules : List ReadRule) (ends : Ends) (before after : List Key) (key : Key) (rule : ReadRule) (cause : Cause) → IsOrderedListOf key_cmp (IsRelevant rules) (before ++ key ∷ after)
    → AllByRecursion (λ other. IsSomehowOutside rules ends other → ⊥) before → IsRelevantOf rules key rule → IsFirstCause (IsPossible rules) ends rule key.values cause
    → IsFirstOutside rules ends key cause

-- where no relevant instance is, none is outside
abbrev pub NoneOutsideLaw : Type 0
NoneOutsideLaw =
    (rules : List ReadRule) (ends : Ends) (keys : List Key) → IsListOf (IsRelevant rules) keys → AllByRecursion (λ key. IsSomehowOutside rules ends key → ⊥) keys
    → (key : Key) → IsSomehowOutside rules ends key → ⊥
