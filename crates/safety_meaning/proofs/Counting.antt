-- Rules in another order have the same ground count.
use Rattle.std.proofs.Common.{◌≡◌, inl, inr, ℕ, true, false, ◌&&◌, ◌||◌, not, List, [], ◌∷◌, ◌++◌, length, filter, refl, sym, ap, ◌∙◌, subst}
use Rattle.std.specs.List.{list_any, list_all, AllZip, flat_map}
use Rattle.symbols.specs.Symbol.{Symbol}
use Rattle.syntax_tree.specs.Outcome.{Outcome}
use Rattle.syntax_tree.specs.Value.{value_of}
use Rattle.program_meaning.specs.Read.{PlainLiteral, PlainAtom, PlainCompare, ReadElement, ReadTheory, ReadLiteral, ReadPlain, ReadTold, ReadChoice, ReadHead, ReadNothing, ReadAtom, ReadDuty, ReadChoose, ReadRule, plains}
use Rattle.program_meaning.specs.Variables.{occurs, occurs_in, occurs_in_option, element_locals}
use Rattle.program_meaning.specs.Substitution.{Value, substituted, Key}
use Rattle.program_meaning.specs.Comparison.{comparison, may_hold}
use Rattle.program_meaning.specs.Collected.{collected}
use Rattle.program_meaning.specs.Theory.{is_defined, option_undefined}
use Rattle.program_meaning.specs.Instance.{bound_in_choice, bound_in_element, IsPossible, IsRelevantChoice, ConditionHolds, IsRelevantElement}
use Rattle.program_meaning.specs.Tuples.{told_in, duty_in, theories}
use Rattle.program_meaning.specs.Count.{Counted, CountedRule, CountedChoice, CountedTheory, CountedElement, choices_in, IsCounted, ExceedsLimit}
use Rattle.safety_meaning.specs.Ordered.{told_of}
use Rattle.safety_meaning.specs.Reordered.{HaveSameMembers, IsSameElement, IsSameTheory, IsSameLiteral, IsSameChoice, IsSameHead, IsReordered}
use Rattle.safety_meaning.specs.Laws.{CountLaw}
use Rattle.safety_meaning.proofs.Truths.{any_same, every_at, every_from, same_append, zip_got}
use Rattle.safety_meaning.proofs.Reordering.{global_same, globals_same, bound_choice_same, choice_kept, positives_kept, compared_same, possible_law, relevant_of_kept, all_turned}

-- PARTS

zip_append : {A B : Type 0} (R : A → B → Type 0) (xs : List A) (ys : List B) (us : List A) (vs : List B) → AllZip R xs ys → AllZip R us vs → AllZip R (xs ++ us) (ys ++ vs)
zip_append R [] [] us vs h k = k
zip_append R [] (y ∷ ys) us vs h k = absurd h
zip_append R (x ∷ xs) [] us vs h k = absurd h
zip_append R (x ∷ xs) (y ∷ ys) us vs h k = (h.0, zip_append R xs ys us vs h.1 k)

told_twice : (body : List ReadLiteral) → flat_map told_in (flat_map told_of body) ≡ flat_map told_in body
told_twice [] = refl
told_twice (ReadPlain literal ∷ rest) = told_twice rest
told_twice (ReadTold theory sign ∷ rest) = ap (λ theories. theory ∷ theories) (told_twice rest)

told_zip : (xs ys : List ReadLiteral) → AllZip IsSameLiteral xs ys → AllZip IsSameTheory (flat_map told_in xs) (flat_map told_in ys)
told_zip [] [] h = tt
told_zip [] (y ∷ ys) h = absurd h
told_zip (x ∷ xs) [] h = absurd h
told_zip (ReadPlain one ∷ xs) (ReadPlain other ∷ ys) h = told_zip xs ys h.1
told_zip (ReadPlain one ∷ xs) (ReadTold other sign ∷ ys) h = absurd h.0
told_zip (ReadTold one sign ∷ xs) (ReadPlain other ∷ ys) h = absurd h.0
told_zip (ReadTold one sign ∷ xs) (ReadTold other facing ∷ ys) h = (h.0.0, told_zip xs ys h.1)

duty_zip : (one other : ReadHead) → IsSameHead one other → AllZip IsSameTheory (duty_in one) (duty_in other)
duty_zip ReadNothing ReadNothing h = tt
duty_zip (ReadAtom one) (ReadAtom other) h = tt
duty_zip (ReadDuty one) (ReadDuty other) h = (h, tt)
duty_zip (ReadChoose left elements right) (ReadChoose low others high) h = tt
duty_zip one other h = absurd h

pub choices_zip : (one other : ReadHead) → IsSameHead one other → AllZip IsSameChoice (choices_in one) (choices_in other)
choices_zip ReadNothing ReadNothing h = tt
choices_zip (ReadAtom one) (ReadAtom other) h = tt
choices_zip (ReadDuty one) (ReadDuty other) h = tt
choices_zip (ReadChoose left elements right) (ReadChoose low others high) h = h.1
choices_zip one other h = absurd h

pub theories_zip : (rule other : ReadRule) → IsReordered rule other → AllZip IsSameTheory (theories rule) (theories other)
theories_zip rule other same =
    let tolds = told_zip (flat_map told_of rule.body) (flat_map told_of other.body) same.told in
    let from : AllZip IsSameTheory (flat_map told_in rule.body) (flat_map told_in (flat_map told_of other.body)) =
    subst (λ xs. AllZip IsSameTheory xs (flat_map told_in (flat_map told_of other.body))) (told_twice rule.body) tolds in
    let both : AllZip IsSameTheory (flat_map told_in rule.body) (flat_map told_in other.body) =
    subst (λ ys. AllZip IsSameTheory (flat_map told_in rule.body) ys) (told_twice other.body) from in
    zip_append IsSameTheory (flat_map told_in rule.body) (flat_map told_in other.body) (duty_in rule.head) (duty_in other.head) both (duty_zip rule.head other.head same.head)

-- ELEMENTS

module _ (rule other : ReadRule) (same : IsReordered rule other) where
  element_locals_same : (one more : ReadElement) → IsSameElement one more → element_locals rule one ≡ element_locals other more
  element_locals_same one more h =
      λ i. filter (λ n. (occurs n (h.first i) || occurs_in_option n (h.duration i) || list_any (occurs n) (h.rest i) || any_same (occurs_in n) one.condition more.condition h.condition i)
      && not (global_same rule other same n i)) (same.order i)

  pub bound_element_same : (one more : ReadElement) (h : IsSameElement one more) (values locals : List Value) → bound_in_element rule values one locals ≡ bound_in_element other values more locals
  bound_element_same one more h values locals =
      λ i. substituted (length (same.order i)) (globals_same rule other same i ++ element_locals_same one more h i) (values ++ locals)

  pub choice_relevant : (P Q : Symbol → Type 0) → ((a : Symbol) → P a → Q a) → (values : List Value) (elements others : List ReadChoice) → AllZip IsSameChoice elements others
      → (key : Key) (one : ReadChoice) → IsRelevantChoice P rule values elements key one → (more : ReadChoice) × IsRelevantChoice Q other values others key more × IsSameChoice one more
  choice_relevant P Q f values elements others zip key one h =
      let found = zip_got IsSameChoice elements others key.place one zip h.place in (
        found.0,
        record {
          place = found.1;
          stands = choice_kept rule other same values one found.0 key.values found.2 h.stands;
          positive = positives_kept P Q f (bound_in_choice rule values one key.values) (bound_in_choice other values found.0 key.values)
              (bound_choice_same rule other same one found.0 found.2 values key.values) one.condition found.0.condition found.2.condition h.positive;
        },
        found.2,
      )

condition_kept : (P Q : Symbol → Type 0) → ((a : Symbol) → P a → Q a) → ((a : Symbol) → Q a → P a) → (xs ys : List PlainLiteral) → HaveSameMembers xs ys
    → (bound other : List Outcome) → bound ≡ other → (literal : PlainLiteral) → ConditionHolds P xs bound literal → ConditionHolds Q ys other literal
condition_kept P Q f g xs ys same bound other e (PlainAtom term true) h = (h.0, ap (λ b. value_of b term) (sym e) ∙ h.1, f h.0 h.2)
condition_kept P Q f g xs ys same bound other e (PlainAtom term false) h = elim h [
  | inl over ↦ inl (ap (λ b. value_of b term) (sym e) ∙ over)
  | inr k ↦ inr (k.0, ap (λ b. value_of b term) (sym e) ∙ k.1, λ q. k.2 (g k.0 q))
]
condition_kept P Q f g xs ys same bound other e (PlainCompare left rel right) h =
    sym (ap may_hold (compared_same xs ys same other left rel right)) ∙ ap (λ b. may_hold (comparison xs b left rel right)) (sym e) ∙ h

module _ (rule other : ReadRule) (same : IsReordered rule other) where
  pub element_relevant : (P Q : Symbol → Type 0) → ((a : Symbol) → P a → Q a) → ((a : Symbol) → Q a → P a) → (values : List Value) (theory more : ReadTheory) → IsSameTheory theory more
      → (key : Key) (one : ReadElement) → IsRelevantElement P rule values theory key one → (element : ReadElement) × IsRelevantElement Q other values more key element × IsSameElement one element
  element_relevant P Q f g values theory more k key one h =
      let found = zip_got IsSameElement theory.elements more.elements key.place one k.elements h.place in
      let b = bound_element_same rule other same one found.0 found.2 values key.values in
      let all = same_append (plains rule.body) (plains other.body) one.condition found.0.condition same.plain found.2.condition in (
        found.0,
        record {
          place = found.1;
          each = h.each ∙ ap length (element_locals_same rule other same one found.0 found.2);
          there = (λ i. not (collected (sym b i) (sym found.2.first i)).undefined && not (option_undefined (sym b i) (sym found.2.duration i))
              && list_all (λ term. is_defined (value_of (sym b i) term)) (sym found.2.rest i)) ∙ h.there;
          condition = every_from (ConditionHolds Q (plains other.body ++ found.0.condition) (bound_in_element other values found.0 key.values)) found.0.condition
              (λ literal m. condition_kept P Q f g (plains rule.body ++ one.condition) (plains other.body ++ found.0.condition) all
              (bound_in_element rule values one key.values) (bound_in_element other values found.0 key.values) b literal
              (every_at (ConditionHolds P (plains rule.body ++ one.condition) (bound_in_element rule values one key.values)) one.condition literal h.condition (found.2.condition.back literal m)));
        },
        found.2,
      )

-- COUNTS

counted_kept : (rules others : List ReadRule) → AllZip IsReordered rules others → (counted : Counted) → IsCounted rules counted → IsCounted others counted
counted_kept rules others zip (CountedRule key) h = let r = relevant_of_kept rules others zip key h.0 h.1 in (r.0, r.1)
counted_kept rules others zip (CountedChoice key part) h =
    let r = relevant_of_kept rules others zip key h.0 h.1 in
    let c = choice_relevant h.0 r.0 r.2 (IsPossible rules) (IsPossible others) (λ a p. (possible_law rules others zip a).0 p) key.values (choices_in h.0.head) (choices_in r.0.head)
    (choices_zip h.0.head r.0.head r.2.head) part h.2.0 h.2.1 in
    (r.0, r.1, (c.0, c.1))
counted_kept rules others zip (CountedTheory key n) h =
    let r = relevant_of_kept rules others zip key h.0 h.1 in
    let t = zip_got IsSameTheory (theories h.0) (theories r.0) n h.2.0 (theories_zip h.0 r.0 r.2) h.2.1 in
    (r.0, r.1, (t.0, t.1))
counted_kept rules others zip (CountedElement key n part) h =
    let r = relevant_of_kept rules others zip key h.0 h.1 in
    let t = zip_got IsSameTheory (theories h.0) (theories r.0) n h.2.0 (theories_zip h.0 r.0 r.2) h.2.1 in
    let e = element_relevant h.0 r.0 r.2 (IsPossible rules) (IsPossible others) (λ a p. (possible_law rules others zip a).0 p) (λ a p. (possible_law rules others zip a).1 p) key.values
    h.2.0 t.0 t.2 part h.2.2.0 h.2.2.1 in
    (r.0, r.1, (t.0, t.1, (e.0, e.1)))

exceeds_kept : (rules others : List ReadRule) → AllZip IsReordered rules others → (limit : ℕ) → ExceedsLimit rules limit → ExceedsLimit others limit
exceeds_kept rules others zip limit h = record {
  shown = h.shown;
  apart = h.apart;
  each = every_from (IsCounted others) h.shown (λ counted m. counted_kept rules others zip counted (every_at (IsCounted rules) h.shown counted h.each m));
  more = h.more;
}

pub count_law : CountLaw
count_law rules others zip limit = (exceeds_kept rules others zip limit, exceeds_kept others rules (all_turned rules others zip) limit)
