-- Theory atoms over the same atoms are collected alike.
use Rattle.std.proofs.Common.{inl, inr, ℕ, ℤ, true, false, List, ◌++◌, Option}
use Rattle.symbols.specs.Symbol.{Symbol}
use Rattle.syntax_tree.specs.declared.literal.TheoryName.{TheoryName}
use Rattle.syntax_tree.specs.declared.literal.TheoryName.TheVariants as name
use Rattle.syntax_tree.specs.Outcome.{Outcome}
use Rattle.ground_model.specs.Members.{IsMember, IsListOf, Counts}
use Rattle.symbols.specs.declared.rel.Rel.{Rel}
use Rattle.ground_model.specs.Rule.{LinearOf, PlaceOf}
use Rattle.ground_model.proofs.MemberLemmas.{property_map}
use Rattle.program_meaning.specs.Read.{PlainLiteral, PlainAtom, PlainCompare, ReadElement, ReadTheory, ReadRule, plains}
use Rattle.program_meaning.specs.Ascending.{Exceeds, IsOrderedListOf}
use Rattle.program_meaning.specs.Substitution.{Value, Key}
use Rattle.program_meaning.specs.Theory.{place_cmp}
use Rattle.program_meaning.specs.Instance.{ConditionHolds, IsRelevantElement, bound_in_element, IsPossible}
use Rattle.program_meaning.specs.Tuples.{IsTuple, IsRange, IsInDomain}
use Rattle.program_meaning.specs.Outside.{HasManyTuples, IsVariableIn, HasLargeTotal, Cause, Overflow, NotLinear, TooManyElements, TooLarge}
use Rattle.theory_laws.specs.Collecting.{IsElementKey, IsAtomOver, GuardIsOver, ElementIsOver, IsAtomNotLinear, GuardIsNotLinear, ElementIsNotLinear, HasManyElements, IsAtomLarge, GuardIsLarge, ElementIsLarge, TotalIsLarge, AtomHas, IsFirstOf, IsCollected}
use Rattle.theory_laws.specs.Laws.{CountsAlikeLaw, CausesAlikeLaw, CollectedAlikeLaw}

exceeds_more : {X : Type 0} (P Q : X → Type 0) (limit : ℕ) → ((x : X) → P x → Q x) → Exceeds P limit → Exceeds Q limit
exceeds_more P Q limit f e = record { shown = e.shown; apart = e.apart; each = property_map P Q f e.shown e.each; more = e.more }

listed_alike : {X : Type 0} (P Q : X → Type 0) (xs : List X) → ((x : X) → P x → Q x) → ((x : X) → Q x → P x) → IsListOf P xs → IsListOf Q xs
listed_alike P Q xs f g all x = (λ m. f x ((all x).0 m), λ q. (all x).1 (g x q))

ordered_alike : (P Q : PlaceOf Symbol → Type 0) (xs : List (PlaceOf Symbol)) → ((x : PlaceOf Symbol) → P x → Q x) → ((x : PlaceOf Symbol) → Q x → P x)
    → IsOrderedListOf place_cmp P xs → IsOrderedListOf place_cmp Q xs
ordered_alike P Q xs f g o = record { ascend = o.ascend; all = listed_alike P Q xs f g o.all }

module _ (P Q : Symbol → Type 0) (f : (a : Symbol) → P a → Q a) (g : (a : Symbol) → Q a → P a) where
  condition_alike : (literals : List PlainLiteral) (bound : List Outcome) (literal : PlainLiteral) → ConditionHolds P literals bound literal → ConditionHolds Q literals bound literal
  condition_alike literals bound (PlainAtom term true) (a, e, p) = (a, e, f a p)
  condition_alike literals bound (PlainAtom term false) (inl e) = inl e
  condition_alike literals bound (PlainAtom term false) (inr (a, e, n)) = inr (a, e, λ q. n (g a q))
  condition_alike literals bound (PlainCompare left rel right) e = e

  relevant_alike : (rule : ReadRule) (values : List Value) (theory : ReadTheory) (key : Key) (element : ReadElement)
      → IsRelevantElement P rule values theory key element → IsRelevantElement Q rule values theory key element
  relevant_alike rule values theory key element r = record {
    place = r.place;
    each = r.each;
    there = r.there;
    condition = property_map (ConditionHolds P (plains rule.body ++ element.condition) (bound_in_element rule values element key.values))
        (ConditionHolds Q (plains rule.body ++ element.condition) (bound_in_element rule values element key.values))
        (condition_alike (plains rule.body ++ element.condition) (bound_in_element rule values element key.values)) element.condition r.condition;
  }

  module _ (rule : ReadRule) (values : List Value) (theory : ReadTheory) where
    pub key_alike : (key : Key) → IsElementKey P rule values theory key → IsElementKey Q rule values theory key
    key_alike key (element, r) = (element, relevant_alike rule values theory key element r)

    pub tuple_alike : (place : PlaceOf Symbol) → IsTuple P rule values theory place → IsTuple Q rule values theory place
    tuple_alike place (key, element, r, tuple) = (key, element, relevant_alike rule values theory key element r, tuple)

    range_alike : (range : ℤ × ℤ) → IsRange P rule values theory range → IsRange Q rule values theory range
    range_alike range (key, element, r, e) = (key, element, relevant_alike rule values theory key element r, e)

    pub domain_alike : (n : ℤ) → IsInDomain P rule values theory n → IsInDomain Q rule values theory n
    domain_alike n (range, is, low, high) = (range, range_alike range is, low, high)

    variable_alike : (x : Symbol) → IsVariableIn P rule values theory x → IsVariableIn Q rule values theory x
    variable_alike x (inl v) = inl (v.0, (v.1.0, tuple_alike v.1.0 v.1.1, v.1.2))
    variable_alike x (inr occurs) = inr occurs

    over_alike : IsAtomOver P rule values theory → IsAtomOver Q rule values theory
    over_alike (GuardIsOver e) = GuardIsOver e
    over_alike (ElementIsOver key element r e) = ElementIsOver key element (relevant_alike rule values theory key element r) e

    linear_alike : IsAtomNotLinear P rule values theory → IsAtomNotLinear Q rule values theory
    linear_alike (GuardIsNotLinear e) = GuardIsNotLinear e
    linear_alike (ElementIsNotLinear key element r e) = ElementIsNotLinear key element (relevant_alike rule values theory key element r) e

    tuples_alike : (kind : TheoryName) → HasManyTuples P rule values theory kind → HasManyTuples Q rule values theory kind
    tuples_alike name.Dom e = exceeds_more (IsRange P rule values theory) (IsRange Q rule values theory) _ range_alike e
    tuples_alike name.Sum e = exceeds_more (IsTuple P rule values theory) (IsTuple Q rule values theory) _ tuple_alike e
    tuples_alike name.Diff e = exceeds_more (IsTuple P rule values theory) (IsTuple Q rule values theory) _ tuple_alike e
    tuples_alike name.Distinct e = exceeds_more (IsTuple P rule values theory) (IsTuple Q rule values theory) _ tuple_alike e
    tuples_alike name.Disjoint e = exceeds_more (IsTuple P rule values theory) (IsTuple Q rule values theory) _ tuple_alike e
    tuples_alike name.Minimize e = exceeds_more (IsTuple P rule values theory) (IsTuple Q rule values theory) _ tuple_alike e
    tuples_alike name.Maximize e = exceeds_more (IsTuple P rule values theory) (IsTuple Q rule values theory) _ tuple_alike e
    tuples_alike name.Show e = exceeds_more (IsTuple P rule values theory) (IsTuple Q rule values theory) _ tuple_alike e
    tuples_alike name.Unknown e = exceeds_more (IsTuple P rule values theory) (IsTuple Q rule values theory) _ tuple_alike e

    many_alike : HasManyElements P rule values theory → HasManyElements Q rule values theory
    many_alike (inl e) = inl (tuples_alike theory.name e)
    many_alike (inr e) = inr (exceeds_more (IsVariableIn P rule values theory) (IsVariableIn Q rule values theory) _ variable_alike e)

module _ (P Q : Symbol → Type 0) (f : (a : Symbol) → P a → Q a) (g : (a : Symbol) → Q a → P a) (rule : ReadRule) (values : List Value) (theory : ReadTheory) where
  total_alike : HasLargeTotal P rule values theory → HasLargeTotal Q rule values theory
  total_alike t = record {
    name = t.name;
    places = t.places;
    tuples = ordered_alike (IsTuple P rule values theory) (IsTuple Q rule values theory) t.places (tuple_alike P Q f g rule values theory) (tuple_alike Q P g f rule values theory) t.tuples;
    guard = t.guard;
    written = t.written;
    right = t.right;
    form = t.form;
    large = t.large;
  }

  large_alike : IsAtomLarge P rule values theory → IsAtomLarge Q rule values theory
  large_alike (GuardIsLarge e) = GuardIsLarge e
  large_alike (ElementIsLarge key element r e) = ElementIsLarge key element (relevant_alike P Q f g rule values theory key element r) e
  large_alike (TotalIsLarge t) = TotalIsLarge (total_alike t)

  pub has_alike : (cause : Cause) → AtomHas P rule values theory cause → AtomHas Q rule values theory cause
  has_alike Overflow h = over_alike P Q f g rule values theory h
  has_alike NotLinear h = linear_alike P Q f g rule values theory h
  has_alike TooManyElements h = many_alike P Q f g rule values theory h
  has_alike TooLarge h = large_alike h

  pub counts_alike : (count : ℕ) → Counts (IsElementKey P rule values theory) count → Counts (IsElementKey Q rule values theory) count
  counts_alike count (keys, e, apart, all) =
      (keys, e, apart, listed_alike (IsElementKey P rule values theory) (IsElementKey Q rule values theory) keys (key_alike P Q f g rule values theory) (key_alike Q P g f rule values theory) all)

  pub more_alike : (limit : ℕ) → Exceeds (IsElementKey P rule values theory) limit → Exceeds (IsElementKey Q rule values theory) limit
  more_alike limit e = exceeds_more (IsElementKey P rule values theory) (IsElementKey Q rule values theory) limit (key_alike P Q f g rule values theory) e

module _ (P Q : Symbol → Type 0) (f : (a : Symbol) → P a → Q a) (g : (a : Symbol) → Q a → P a) (rule : ReadRule) (values : List Value) (theory : ReadTheory) where
  pub first_alike : (cause : Cause) → IsFirstOf P rule values theory cause → IsFirstOf Q rule values theory cause
  first_alike cause first = record {
    has = has_alike P Q f g rule values theory cause first.has;
    first = λ other m h. first.first other m (has_alike Q P g f rule values theory other h);
  }

  pub collected_alike : (places : List (PlaceOf Symbol)) (intervals : List (ℤ × ℤ)) (guard : Option (Rel × LinearOf Symbol))
      → IsCollected P rule values theory places intervals guard → IsCollected Q rule values theory places intervals guard
  collected_alike places intervals guard c = record {
    inside = λ cause h. c.inside cause (has_alike Q P g f rule values theory cause h);
    tuples = λ n. ordered_alike (IsTuple P rule values theory) (IsTuple Q rule values theory) places (tuple_alike P Q f g rule values theory) (tuple_alike Q P g f rule values theory) (c.tuples n);
    domain = λ n. let d = c.domain n in record {
      parted = d.parted;
      integers = λ k. (λ e. domain_alike P Q f g rule values theory k ((d.integers k).0 e), λ is. (d.integers k).1 (domain_alike Q P g f rule values theory k is));
      few = d.few;
    };
    guard = c.guard;
    variable = c.variable;
  }

pub counts_alike_law : CountsAlikeLaw
counts_alike_law rules atoms all rule values theory number = (
  (
    counts_alike (IsMember atoms) (IsPossible rules) (λ a. (all a).0) (λ a. (all a).1) rule values theory number,
    counts_alike (IsPossible rules) (IsMember atoms) (λ a. (all a).1) (λ a. (all a).0) rule values theory number,
  ),
  (
    more_alike (IsMember atoms) (IsPossible rules) (λ a. (all a).0) (λ a. (all a).1) rule values theory number,
    more_alike (IsPossible rules) (IsMember atoms) (λ a. (all a).1) (λ a. (all a).0) rule values theory number,
  ),
)

pub causes_alike_law : CausesAlikeLaw
causes_alike_law rules atoms all rule values theory cause = (
  (
    has_alike (IsMember atoms) (IsPossible rules) (λ a. (all a).0) (λ a. (all a).1) rule values theory cause,
    has_alike (IsPossible rules) (IsMember atoms) (λ a. (all a).1) (λ a. (all a).0) rule values theory cause,
  ),
  (
    first_alike (IsMember atoms) (IsPossible rules) (λ a. (all a).0) (λ a. (all a).1) rule values theory cause,
    first_alike (IsPossible rules) (IsMember atoms) (λ a. (all a).1) (λ a. (all a).0) rule values theory cause,
  ),
)

pub collected_alike_law : CollectedAlikeLaw
collected_alike_law rules atoms all rule values theory places intervals guard = (
  collected_alike (IsMember atoms) (IsPossible rules) (λ a. (all a).0) (λ a. (all a).1) rule values theory places intervals guard,
  collected_alike (IsPossible rules) (IsMember atoms) (λ a. (all a).1) (λ a. (all a).0) rule values theory places intervals guard,
)
