-- Instances that are outside, and what a program is refused for.
use Rattle.std.specs.Prelude.{◌≡◌, ◌⊎◌, ℕ, Bool, true, false, ◌&&◌, ◌||◌, ℤ, pos, negsuc, ◌+ℤ◌, List, [], ◌∷◌, ◌++◌, Option, None, Some}
use Rattle.std.specs.List.{list_any}
use Rattle.std.specs.declared.cmp.Ordering.TheVariants.{Less}
use Rattle.symbols.specs.declared.ends.Ends.{Ends}
use Rattle.symbols.specs.Symbol.{Symbol}
use Rattle.syntax_tree.specs.declared.literal.Guard.{Guard}
use Rattle.syntax_tree.specs.declared.literal.TheoryName.{TheoryName}
use Rattle.syntax_tree.specs.declared.literal.TheoryName.TheVariants as name
use Rattle.syntax_tree.specs.Outcome.{Outcome}
use Rattle.syntax_tree.specs.Value.{value_of}
use Rattle.ground_model.specs.Members.{IsMember}
use Rattle.ground_model.specs.Rule.{LinearOf, PlaceOf}
use Rattle.ground_model.specs.Sound.{is_small, most, least_product, greatest_product}
use Rattle.program_meaning.specs.Read.{PlainLiteral, PlainAtom, PlainCompare, ReadElement, ReadTheory, ReadLiteral, ReadPlain, ReadTold, ReadChoice, ReadHead, ReadNothing, ReadAtom, ReadDuty, ReadChoose, ReadRule, plains}
use Rattle.program_meaning.specs.Ascending.{Exceeds, IsOrderedListOf}
use Rattle.program_meaning.specs.Substitution.{Value, Key, key_cmp}
use Rattle.program_meaning.specs.Comparison.{comparison, is_truth_over}
use Rattle.program_meaning.specs.Collected.{collected, added, scaled, constant_form, is_small_form}
use Rattle.program_meaning.specs.Theory.{is_over, element_over, guard_over, element_not_linear, guard_not_linear, first_large, guard_large, HasForm, place_cmp}
use Rattle.program_meaning.specs.Instance.{bound_in, bound_in_element, bound_in_choice, IsPossible, IsRelevantOf, IsRelevantChoice, IsRelevantElement}
use Rattle.program_meaning.specs.Tuples.{theories, IsTuple, IsRange, OccursInForm, OccursInGuard, IsTupleVariable}
use Rattle.program_meaning.specs.Canonical.{IsVariable, IsDirected}
use Rattle.program_meaning.specs.Count.{choices_in, ExceedsLimit}

-- OVERFLOW

-- an atom or a comparison is over
abbrev pub plain_over : List PlainLiteral → List Outcome → PlainLiteral → Bool
plain_over literals bound (PlainAtom term sign) = is_over (value_of bound term)
plain_over literals bound (PlainCompare left rel right) = is_truth_over (comparison literals bound left rel right)

abbrev pub literal_over : List PlainLiteral → List Outcome → ReadLiteral → Bool
literal_over literals bound (ReadPlain literal) = plain_over literals bound literal
literal_over literals bound (ReadTold theory sign) = guard_over bound theory.guard

abbrev pub bound_over : List Outcome → Option Guard → Bool
bound_over bound None = false
bound_over bound (Some guard) = is_over (value_of bound guard.right)

abbrev pub head_over : List Outcome → ReadHead → Bool
head_over bound ReadNothing = false
head_over bound (ReadAtom term) = is_over (value_of bound term)
head_over bound (ReadDuty theory) = guard_over bound theory.guard
head_over bound (ReadChoose left elements right) = bound_over bound left || bound_over bound right

-- a term or a comparison outside elements is over
abbrev pub is_rule_over : ReadRule → List Value → Bool
is_rule_over rule values = head_over (bound_in rule values) rule.head || list_any (literal_over (plains rule.body) (bound_in rule values)) rule.body

-- the atom or the condition of a choice's element is over
abbrev pub is_choice_over : ReadRule → List Value → ReadChoice → List Value → Bool
is_choice_over rule values element locals =
    is_over (value_of (bound_in_choice rule values element locals) element.atom)
    || list_any (plain_over (plains rule.body ++ element.condition) (bound_in_choice rule values element locals)) element.condition

-- a place or the condition of a theory atom's element is over
abbrev pub is_element_over : ReadRule → List Value → ReadTheory → ReadElement → List Value → Bool
is_element_over rule values theory element locals =
    element_over theory.name (bound_in_element rule values element locals) element
    || list_any (plain_over (plains rule.body ++ element.condition) (bound_in_element rule values element locals)) element.condition

-- a term or a comparison of the instance, or of one of its relevant element instances, is over
pub data HasOverflow (P : Symbol → Type 0) (rule : ReadRule) (values : List Value) : Type 0 where
  RuleOver : is_rule_over rule values ≡ true → HasOverflow P rule values
  ChoiceOver : (key : Key) (element : ReadChoice) → IsRelevantChoice P rule values (choices_in rule.head) key element
      → is_choice_over rule values element key.values ≡ true → HasOverflow P rule values
  ElementOver : (theory : ReadTheory) → IsMember (theories rule) theory → (key : Key) (element : ReadElement)
      → IsRelevantElement P rule values theory key element → is_element_over rule values theory element key.values ≡ true → HasOverflow P rule values

-- NOT LINEAR

-- a guard, or an element of a relevant instance, is not linear
pub data HasNotLinear (P : Symbol → Type 0) (rule : ReadRule) (values : List Value) : Type 0 where
  GuardNotLinear : (theory : ReadTheory) → IsMember (theories rule) theory
      → guard_not_linear theory.name (bound_in rule values) theory.guard ≡ true → HasNotLinear P rule values
  ElementNotLinear : (theory : ReadTheory) → IsMember (theories rule) theory → (key : Key) (element : ReadElement)
      → IsRelevantElement P rule values theory key element
      → element_not_linear theory.name (bound_in_element rule values element key.values) element ≡ true → HasNotLinear P rule values

-- TOO MANY ELEMENTS

-- more tuples than 65,536; those of `&dom` are its pairs of ends
abbrev pub HasManyTuples : (Symbol → Type 0) → ReadRule → List Value → ReadTheory → TheoryName → Type 0
HasManyTuples P rule values theory name.Dom = Exceeds (IsRange P rule values theory) most
HasManyTuples P rule values theory other = Exceeds (IsTuple P rule values theory) most

-- an integer variable of the theory atom
abbrev pub IsVariableIn : (Symbol → Type 0) → ReadRule → List Value → ReadTheory → Symbol → Type 0
IsVariableIn P rule values theory x = IsTupleVariable P rule values theory x ⊎ OccursInGuard (bound_in rule values) theory.guard x

-- a theory atom has more tuples or more variables than 65,536
abbrev pub HasTooMany : (Symbol → Type 0) → ReadRule → List Value → Type 0
HasTooMany P rule values =
    (theory : ReadTheory) × IsMember (theories rule) theory
    × (HasManyTuples P rule values theory theory.name ⊎ Exceeds (IsVariableIn P rule values theory) most)

-- TOO LARGE

-- the sum of the first places
abbrev pub total : List (PlaceOf Symbol) → LinearOf Symbol
total [] = constant_form (pos 0)
total (place ∷ rest) = added place.linear (total rest)

-- the total minus another linear term
abbrev pub difference : List (PlaceOf Symbol) → LinearOf Symbol → LinearOf Symbol
difference places right = added (total places) (scaled (negsuc 0) right)

-- the least and the greatest value of pairs over the ends
abbrev pub least_of : Ends → List (Symbol × ℤ) → ℤ
least_of ends [] = pos 0
least_of ends (pair ∷ rest) = least_product ends pair.1 +ℤ least_of ends rest

abbrev pub greatest_of : Ends → List (Symbol × ℤ) → ℤ
greatest_of ends [] = pos 0
greatest_of ends (pair ∷ rest) = greatest_product ends pair.1 +ℤ greatest_of ends rest

-- the least and the greatest value of a linear term over the ends lie strictly between -2^62 and 2^62
abbrev pub is_small_within : Ends → LinearOf Symbol → Bool
is_small_within ends form = is_small (least_of ends form.pairs +ℤ form.constant) && is_small (greatest_of ends form.pairs +ℤ form.constant)

-- the total of `&sum` or `&diff` minus its right side is too large
pub record HasLargeTotal (P : Symbol → Type 0) (rule : ReadRule) (values : List Value) (theory : ReadTheory) : Type 0 where
  pub name : (theory.name ≡ name.Sum) ⊎ (theory.name ≡ name.Diff)
  pub places : List (PlaceOf Symbol)
  pub tuples : IsOrderedListOf place_cmp (IsTuple P rule values theory) places
  pub guard : Guard
  pub written : theory.guard ≡ Some guard
  pub right : LinearOf Symbol
  pub form : HasForm (collected (bound_in rule values) guard.right) right
  pub large : is_small_form (difference places right) ≡ false

-- a value of a first place of `&distinct` or `&disjoint` over the ends is too large
pub record HasLargeValue (P : Symbol → Type 0) (ends : Ends) (rule : ReadRule) (values : List Value) (theory : ReadTheory) : Type 0 where
  pub name : (theory.name ≡ name.Distinct) ⊎ (theory.name ≡ name.Disjoint)
  pub place : PlaceOf Symbol
  pub tuple : IsTuple P rule values theory place
  pub large : is_small_within ends place.linear ≡ false

-- a part of a guard or a first place, a total, or a value over the ends is too large
pub data HasLarge (P : Symbol → Type 0) (ends : Ends) (rule : ReadRule) (values : List Value) : Type 0 where
  GuardLarge : (theory : ReadTheory) → IsMember (theories rule) theory → guard_large (bound_in rule values) theory.guard ≡ true → HasLarge P ends rule values
  ElementLarge : (theory : ReadTheory) → IsMember (theories rule) theory → (key : Key) (element : ReadElement)
      → IsRelevantElement P rule values theory key element
      → first_large theory.name (bound_in_element rule values element key.values) element.first ≡ true → HasLarge P ends rule values
  TotalLarge : (theory : ReadTheory) → IsMember (theories rule) theory → HasLargeTotal P rule values theory → HasLarge P ends rule values
  ValueLarge : (theory : ReadTheory) → IsMember (theories rule) theory → HasLargeValue P ends rule values theory → HasLarge P ends rule values

-- OUTSIDE

-- the four causes, in the order in which they are looked for
pub data Cause : Type 0 where
  Overflow : Cause
  NotLinear : Cause
  TooManyElements : Cause
  TooLarge : Cause

-- the instance is outside by the cause
abbrev pub HasCause : (Symbol → Type 0) → Ends → ReadRule → List Value → Cause → Type 0
HasCause P ends rule values Overflow = HasOverflow P rule values
HasCause P ends rule values NotLinear = HasNotLinear P rule values
HasCause P ends rule values TooManyElements = HasTooMany P rule values
HasCause P ends rule values TooLarge = HasLarge P ends rule values

-- the causes before a cause
abbrev pub causes_before : Cause → List Cause
causes_before Overflow = []
causes_before NotLinear = Overflow ∷ []
causes_before TooManyElements = Overflow ∷ NotLinear ∷ []
causes_before TooLarge = Overflow ∷ NotLinear ∷ TooManyElements ∷ []

-- a relevant instance that is outside by the cause, and the first such cause
pub record IsOutsideBy (rules : List ReadRule) (ends : Ends) (key : Key) (cause : Cause) (rule : ReadRule) : Type 0 where
  pub relevant : IsRelevantOf rules key rule
  pub has : HasCause (IsPossible rules) ends rule key.values cause
  pub first : (other : Cause) → IsMember (causes_before cause) other → HasCause (IsPossible rules) ends rule key.values other → ⊥

abbrev pub IsOutside : List ReadRule → Ends → Key → Cause → Type 0
IsOutside rules ends key cause = (rule : ReadRule) × IsOutsideBy rules ends key cause rule

-- some relevant instance at the key is outside
abbrev pub IsSomehowOutside : List ReadRule → Ends → Key → Type 0
IsSomehowOutside rules ends key =
    (rule : ReadRule) × IsRelevantOf rules key rule × ((cause : Cause) × HasCause (IsPossible rules) ends rule key.values cause)

-- the first instance that is outside, with its first cause
pub record IsFirstOutside (rules : List ReadRule) (ends : Ends) (key : Key) (cause : Cause) : Type 0 where
  pub outside : IsOutside rules ends key cause
  pub before : (other : Key) → IsSomehowOutside rules ends other → (other ≡ key) ⊎ (key_cmp key other ≡ Less)

-- THE WHOLE PROGRAM

-- the most integer variables of a program
abbrev pub most_variables : ℕ
most_variables = 1048576

abbrev pub HasTooManyVariables : List ReadRule → Type 0
HasTooManyVariables rules = Exceeds (IsVariable rules) most_variables

-- an integer variable of the tuples of a directive
abbrev pub IsDirectedVariable : List ReadRule → TheoryName → Symbol → Type 0
IsDirectedVariable rules directive x = (place : PlaceOf Symbol) × IsDirected rules directive place × OccursInForm x place.linear

-- the tuples to minimise minus those to maximise have a coefficient or a constant that is too large
pub record HasLargeDifference (rules : List ReadRule) : Type 0 where
  pub smaller : List (PlaceOf Symbol)
  pub larger : List (PlaceOf Symbol)
  pub minimised : IsOrderedListOf place_cmp (IsDirected rules name.Minimize) smaller
  pub maximised : IsOrderedListOf place_cmp (IsDirected rules name.Maximize) larger
  pub large : is_small_form (difference smaller (total larger)) ≡ false

-- a set of the objective has more than 65,536 tuples or variables, or their difference is too large
pub data HasLargeObjective (rules : List ReadRule) : Type 0 where
  ManyTuples : (directive : TheoryName) → (directive ≡ name.Minimize) ⊎ (directive ≡ name.Maximize) → Exceeds (IsDirected rules directive) most → HasLargeObjective rules
  ManyVariables : (directive : TheoryName) → (directive ≡ name.Minimize) ⊎ (directive ≡ name.Maximize) → Exceeds (IsDirectedVariable rules directive) most → HasLargeObjective rules
  LargeDifference : HasLargeDifference rules → HasLargeObjective rules

-- a program that is not refused: its ground count is within the limit, no instance is outside, and variables and objective are within theirs
pub record IsWithinLimits (rules : List ReadRule) (ends : Ends) (limit : ℕ) : Type 0 where
  pub count : ExceedsLimit rules limit → ⊥
  pub inside : (key : Key) → IsSomehowOutside rules ends key → ⊥
  pub variables : HasTooManyVariables rules → ⊥
  pub objective : HasLargeObjective rules → ⊥
