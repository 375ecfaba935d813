-- What the tests of an element say of what is over.
use Rattle.std.proofs.Common.{◌≡◌, ◌⊎◌, inl, inr, Bool, true, false, ◌||◌, List, [], ◌∷◌, ◌++◌, map, Option, None, Some, refl, sym, ◌∙◌, ap, true≢false}
use Rattle.std.specs.List.{list_any}
use Rattle.std.proofs.lemmas.List.Folds.{list_any-append}
use Rattle.symbols.specs.Symbol.{Symbol}
use Rattle.syntax_tree.specs.declared.literal.TheoryName.{TheoryName}
use Rattle.syntax_tree.specs.declared.literal.TheoryName.TheVariants as name
use Rattle.syntax_tree.specs.declared.term.Term.{Term}
use Rattle.syntax_tree.specs.Outcome.{Outcome}
use Rattle.syntax_tree.specs.Value.{value_of}
use Rattle.program_meaning.specs.Read.{ReadElement, ReadTheory, ReadRule, plains}
use Rattle.program_meaning.specs.Substitution.{Value}
use Rattle.program_meaning.specs.Collected.{collected}
use Rattle.program_meaning.specs.Theory.{is_over, first_over, duration_over, element_over}
use Rattle.program_meaning.specs.Instance.{bound_in_element}
use Rattle.program_meaning.specs.Outside.{plain_over, is_element_over}
use Rattle.instance_rows.specs.Tests.{IsDefined, HasNoUndefined, is_test_over, are_over, option_tests, place_tests, condition_tests, element_tests}
use Rattle.instance_rows.proofs.TestLemmas.{condition_over_law}
use Rattle.collected_elements.specs.declared.judged.JudgedElement.{JudgedElement}
use Rattle.collected_elements.specs.declared.judged.JudgedElement.TheVariants as element
use Rattle.collected_elements.specs.Judged.{IsJudged}

or_split : (a b : Bool) → (a || b) ≡ true → (a ≡ true) ⊎ (b ≡ true)
or_split true b e = inl refl
or_split false b e = inr e

or_left : (a b : Bool) → a ≡ true → (a || b) ≡ true
or_left true b e = refl
or_left false b e = absurd (true≢false (sym e))

or_right : (a b : Bool) → b ≡ true → (a || b) ≡ true
or_right true b e = refl
or_right false b e = e

none_of : (a b : Bool) → (a || b) ≡ false → b ≡ false
none_of true b e = absurd (true≢false e)
none_of false b e = e

or_one : (a b c : Bool) → a ≡ true → (a || b || c) ≡ true
or_one true b c e = refl
or_one false b c e = absurd (true≢false (sym e))

or_two : (a b c : Bool) → b ≡ true → (a || b || c) ≡ true
or_two true b c e = refl
or_two false true c e = refl
or_two false false c e = absurd (true≢false (sym e))

or_three : (a b c : Bool) → c ≡ true → (a || b || c) ≡ true
or_three true b c e = refl
or_three false true c e = refl
or_three false false c e = e

first_from : (kind : TheoryName) (bound : List Outcome) (t : Term) → (collected bound t).over ≡ true → first_over kind bound t ≡ true
first_from name.Sum bound t e = e
first_from name.Diff bound t e = e
first_from name.Distinct bound t e = e
first_from name.Disjoint bound t e = e
first_from name.Dom bound t e = or_left (collected bound t).over _ e
first_from name.Minimize bound t e = e
first_from name.Maximize bound t e = e
first_from name.Show bound t e = e
first_from name.Unknown bound t e = e

duration_from : (bound : List Outcome) (d : Option Term) → are_over bound (option_tests HasNoUndefined d) ≡ true → duration_over bound d ≡ true
duration_from bound None e = absurd (true≢false (sym e))
duration_from bound (Some t) e = go (or_split (collected bound t).over false e)
  where
    go : ((collected bound t).over ≡ true) ⊎ (false ≡ true) → duration_over bound (Some t) ≡ true
    go (inl f) = or_left (collected bound t).over (is_over (value_of bound t)) f
    go (inr f) = absurd (true≢false (sym f))

rest_is : (bound : List Outcome) (terms : List Term) → are_over bound (map IsDefined terms) ≡ list_any (λ t. is_over (value_of bound t)) terms
rest_is bound [] = refl
rest_is bound (t ∷ terms) = ap (λ b. is_over (value_of bound t) || b) (rest_is bound terms)

places_over : (kind : TheoryName) (bound : List Outcome) (read : ReadElement) → are_over bound (place_tests read) ≡ true → element_over kind bound read ≡ true
places_over kind bound read e = go (or_split (collected bound read.first).over (are_over bound (option_tests HasNoUndefined read.duration ++ map IsDefined read.rest)) e)
  where
    rest : list_any (λ t. is_over (value_of bound t)) read.rest ≡ true → element_over kind bound read ≡ true
    rest f = or_three (first_over kind bound read.first) (duration_over bound read.duration) (list_any (λ t. is_over (value_of bound t)) read.rest) f

    behind : (are_over bound (option_tests HasNoUndefined read.duration) ≡ true) ⊎ (are_over bound (map IsDefined read.rest) ≡ true) → element_over kind bound read ≡ true
    behind (inl f) =
        or_two (first_over kind bound read.first) (duration_over bound read.duration) (list_any (λ t. is_over (value_of bound t)) read.rest) (duration_from bound read.duration f)
    behind (inr f) = rest (sym (rest_is bound read.rest) ∙ f)

    go : ((collected bound read.first).over ≡ true) ⊎ (are_over bound (option_tests HasNoUndefined read.duration ++ map IsDefined read.rest) ≡ true) → element_over kind bound read ≡ true
    go (inl f) =
        or_one (first_over kind bound read.first) (duration_over bound read.duration) (list_any (λ t. is_over (value_of bound t)) read.rest) (first_from kind bound read.first f)
    go (inr f) =
        behind (or_split (are_over bound (option_tests HasNoUndefined read.duration)) (are_over bound (map IsDefined read.rest))
        (sym (list_any-append (is_test_over bound) (option_tests HasNoUndefined read.duration) (map IsDefined read.rest)) ∙ f))

module _ (rule : ReadRule) (values : List Value) (theory : ReadTheory) (read : ReadElement) (locals : List Value) where
  abbrev bound : List Outcome
  bound = bound_in_element rule values read locals

  condition : Bool
  condition = list_any (plain_over (plains rule.body ++ read.condition) bound) read.condition

  parts : are_over bound (element_tests rule read) ≡ (are_over bound (place_tests read) || are_over bound (condition_tests rule read))
  parts = list_any-append (is_test_over bound) (place_tests read) (condition_tests rule read)

  -- a place that is over
  pub element_is_over : element_over theory.name bound read ≡ true → is_element_over rule values theory read locals ≡ true
  element_is_over e = or_left (element_over theory.name bound read) (list_any (plain_over (plains rule.body ++ read.condition) bound) read.condition) e

  -- a test that asks about something over
  pub tests_are_over : are_over bound (element_tests rule read) ≡ true → is_element_over rule values theory read locals ≡ true
  tests_are_over e = go (or_split (are_over bound (place_tests read)) (are_over bound (condition_tests rule read)) (sym parts ∙ e))
    where
      go : (are_over bound (place_tests read) ≡ true) ⊎ (are_over bound (condition_tests rule read) ≡ true) → is_element_over rule values theory read locals ≡ true
      go (inl f) = element_is_over (places_over theory.name bound read f)
      go (inr f) =
          or_right (element_over theory.name bound read) (list_any (plain_over (plains rule.body ++ read.condition) bound) read.condition)
          (condition_over_law rule values read locals ∙ f)

  -- nothing is over
  pub nothing_over : are_over bound (element_tests rule read) ≡ false → element_over theory.name bound read ≡ false → is_element_over rule values theory read locals ≡ false
  nothing_over e f =
      let none = condition_over_law rule values read locals ∙ none_of (are_over bound (place_tests read)) (are_over bound (condition_tests rule read)) (sym parts ∙ e) in
      λ i. f i || none i

-- an element that is judged has no place that is over
pub judged_settled : (symbols : List Symbol) (kind : TheoryName) (bound : List Outcome) (read : ReadElement) (judged : JudgedElement) → IsJudged symbols kind bound read judged
    → element_over kind bound read ≡ false
judged_settled symbols kind bound read element.NotLinear h = h.0
judged_settled symbols kind bound read element.Large h = h.0.settled
judged_settled symbols kind bound read element.Nothing h = h.0.settled
judged_settled symbols kind bound read (element.Tuple place) h = h.0.settled
judged_settled symbols kind bound read (element.Range low high) h = h.0.settled
