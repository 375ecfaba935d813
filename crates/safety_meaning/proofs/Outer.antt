-- Rules in another order have the same instances outside.
use Rattle.std.proofs.Common.{◌≡◌, inl, inr, ℕ, ◌||◌, List, ◌++◌, refl, sym, ap, ◌∙◌, subst}
use Rattle.std.specs.List.{list_any, AllZip, flat_map}
use Rattle.symbols.specs.Symbol.{Symbol}
use Rattle.symbols.specs.declared.ends.Ends.{Ends}
use Rattle.syntax_tree.specs.declared.literal.TheoryName.{TheoryName}
use Rattle.syntax_tree.specs.declared.literal.TheoryName.TheVariants as name
use Rattle.syntax_tree.specs.Outcome.{Outcome, IsSymbol}
use Rattle.syntax_tree.specs.Value.{value_of}
use Rattle.ground_model.specs.Rule.{PlaceOf}
use Rattle.ground_model.specs.Sound.{most}
use Rattle.program_meaning.specs.Read.{PlainLiteral, PlainAtom, PlainCompare, ReadElement, ReadTheory, ReadLiteral, ReadPlain, ReadTold, ReadChoice, ReadHead, ReadNothing, ReadAtom, ReadDuty, ReadChoose, ReadRule, plains}
use Rattle.program_meaning.specs.Ascending.{Exceeds}
use Rattle.program_meaning.specs.Substitution.{Value, Key}
use Rattle.program_meaning.specs.Comparison.{is_truth_over, span_of}
use Rattle.program_meaning.specs.Collected.{collected}
use Rattle.program_meaning.specs.Theory.{is_over, first_over, duration_over, guard_over, first_not_linear, duration_not_linear, guard_not_linear, first_large, guard_large, HasForm, HasDuration}
use Rattle.program_meaning.specs.Instance.{bound_in, bound_in_element, bound_in_choice, IsPossible}
use Rattle.program_meaning.specs.Tuples.{theories, IsTuple, IsRange, OccursInGuard}
use Rattle.program_meaning.specs.Count.{choices_in}
use Rattle.program_meaning.specs.Outside.{plain_over, literal_over, bound_over, head_over, is_rule_over, is_choice_over, is_element_over, HasOverflow, RuleOver, ChoiceOver, ElementOver, HasNotLinear, GuardNotLinear, ElementNotLinear, HasManyTuples, IsVariableIn, HasTooMany, HasLargeTotal, HasLargeValue, HasLarge, GuardLarge, ElementLarge, TotalLarge, ValueLarge, Cause, Overflow, NotLinear, TooManyElements, TooLarge, HasCause, IsSomehowOutside, IsFirstOutside}
use Rattle.safety_meaning.specs.Ordered.{told_of}
use Rattle.safety_meaning.specs.Reordered.{HaveSameMembers, IsSameElement, IsSameTheory, IsSameLiteral, IsSameChoice, IsSameHead, IsReordered}
use Rattle.safety_meaning.specs.Laws.{OutsideLaw}
use Rattle.safety_meaning.proofs.Truths.{any_same, every_at, every_from, same_append, any_split, zip_any, zip_member}
use Rattle.safety_meaning.proofs.Reordering.{bound_same, bound_choice_same, compared_same, theory_turned, rule_turned, possible_law, relevant_of_kept, all_turned}
use Rattle.safety_meaning.proofs.Counting.{theories_zip, choices_zip, bound_element_same, choice_relevant, element_relevant}

pub moved : {A B : Type 0} (M : A → B → Type 0) {a c : A} {b d : B} → a ≡ c → b ≡ d → M a b → M c d
moved M {a} {c} {b} {d} e k h = subst (λ x. M x d) e (subst (M a) k h)

pub exceeds_by : {X : Type 0} (P Q : X → Type 0) (limit : ℕ) → ((x : X) → P x → Q x) → Exceeds P limit → Exceeds Q limit
exceeds_by P Q limit f h = record { shown = h.shown; apart = h.apart; each = every_from Q h.shown (λ x m. f x (every_at P h.shown x h.each m)); more = h.more }

-- TESTS

over_same : (xs ys : List PlainLiteral) → HaveSameMembers xs ys → (bound : List Outcome) (literal : PlainLiteral) → plain_over xs bound literal ≡ plain_over ys bound literal
over_same xs ys same bound (PlainAtom term sign) = refl
over_same xs ys same bound (PlainCompare left rel right) = ap is_truth_over (compared_same xs ys same bound left rel right)

any_over : (xs ys : List PlainLiteral) → HaveSameMembers xs ys → (bound : List Outcome) (us vs : List PlainLiteral) → HaveSameMembers us vs
    → list_any (plain_over xs bound) us ≡ list_any (plain_over ys bound) vs
any_over xs ys same bound us vs more = (λ i. list_any (λ literal. over_same xs ys same bound literal i) us) ∙ any_same (plain_over ys bound) us vs more

told_over : (xs ys : List PlainLiteral) → HaveSameMembers xs ys → (bound : List Outcome) (one other : ReadLiteral) → IsSameLiteral one other
    → literal_over xs bound one ≡ literal_over ys bound other
told_over xs ys same bound (ReadPlain one) (ReadPlain other) h = over_same xs ys same bound one ∙ ap (plain_over ys bound) h
told_over xs ys same bound (ReadPlain one) (ReadTold other sign) h = absurd h
told_over xs ys same bound (ReadTold one sign) (ReadPlain other) h = absurd h
told_over xs ys same bound (ReadTold one sign) (ReadTold other facing) h = ap (guard_over bound) h.0.guard

head_over_same : (bound : List Outcome) (one other : ReadHead) → IsSameHead one other → head_over bound one ≡ head_over bound other
head_over_same bound ReadNothing ReadNothing h = refl
head_over_same bound (ReadAtom one) (ReadAtom other) h = ap (λ term. is_over (value_of bound term)) h
head_over_same bound (ReadDuty one) (ReadDuty other) h = ap (guard_over bound) h.guard
head_over_same bound (ReadChoose left elements right) (ReadChoose low others high) h = λ i. bound_over bound (h.0 i) || bound_over bound (h.2 i)
head_over_same bound one other h = absurd h

module _ (rule other : ReadRule) (same : IsReordered rule other) (values : List Value) where
  rule_over : is_rule_over rule values ≡ is_rule_over other values
  rule_over =
      let xs = plains rule.body in
      let ys = plains other.body in
      let bound = bound_in other values in
      let bodies : list_any (literal_over xs bound) rule.body ≡ list_any (literal_over ys bound) other.body =
      any_split (literal_over xs bound) rule.body
      ∙ (λ i. any_over xs ys same.plain bound xs ys same.plain i
      || zip_any IsSameLiteral (literal_over xs bound) (literal_over ys bound) (flat_map told_of rule.body) (flat_map told_of other.body) same.told (told_over xs ys same.plain bound) i)
      ∙ sym (any_split (literal_over ys bound) other.body) in
      (λ i. head_over (bound_same rule other same values i) rule.head || list_any (literal_over xs (bound_same rule other same values i)) rule.body)
      ∙ (λ i. head_over_same bound rule.head other.head same.head i || bodies i)

  choice_over : (one more : ReadChoice) (h : IsSameChoice one more) (locals : List Value) → is_choice_over rule values one locals ≡ is_choice_over other values more locals
  choice_over one more h locals =
      let b = bound_choice_same rule other same one more h values locals in
      let all = same_append (plains rule.body) (plains other.body) one.condition more.condition same.plain h.condition in
      (λ i. is_over (value_of (b i) one.atom) || list_any (plain_over (plains rule.body ++ one.condition) (b i)) one.condition)
      ∙ (λ i. is_over (value_of (bound_in_choice other values more locals) (h.atom i))
      || any_over (plains rule.body ++ one.condition) (plains other.body ++ more.condition) all (bound_in_choice other values more locals) one.condition more.condition h.condition i)

  element_over_same : (theory atom : ReadTheory) → IsSameTheory theory atom → (one more : ReadElement) (h : IsSameElement one more) (locals : List Value)
      → is_element_over rule values theory one locals ≡ is_element_over other values atom more locals
  element_over_same theory atom k one more h locals =
      let b = bound_element_same rule other same one more h values locals in
      let all = same_append (plains rule.body) (plains other.body) one.condition more.condition same.plain h.condition in
      (λ i. (first_over (k.name i) (b i) (h.first i) || duration_over (b i) (h.duration i) || list_any (λ term. is_over (value_of (b i) term)) (h.rest i))
      || list_any (plain_over (plains rule.body ++ one.condition) (b i)) one.condition)
      ∙ (λ i. (first_over atom.name (bound_in_element other values more locals) more.first || duration_over (bound_in_element other values more locals) more.duration
      || list_any (λ term. is_over (value_of (bound_in_element other values more locals) term)) more.rest)
      || any_over (plains rule.body ++ one.condition) (plains other.body ++ more.condition) all (bound_in_element other values more locals) one.condition more.condition h.condition i)

-- TUPLES

module _ (P Q : Symbol → Type 0) (f : (a : Symbol) → P a → Q a) (g : (a : Symbol) → Q a → P a) (rule other : ReadRule) (same : IsReordered rule other) (values : List Value) where
  pub tuple_kept : (theory more : ReadTheory) → IsSameTheory theory more → (place : PlaceOf Symbol) → IsTuple P rule values theory place → IsTuple Q other values more place
  tuple_kept theory more k place h =
      let e = element_relevant rule other same P Q f g values theory more k h.0 h.1 h.2 in
      let b = bound_element_same rule other same h.1 e.0 e.2 values h.0.values in (
        h.0,
        e.0,
        e.1,
        record {
          linear = moved (λ bound first. HasForm (collected bound first) place.linear) b e.2.first h.3.linear;
          duration = moved (λ bound duration. HasDuration bound duration place.duration) b e.2.duration h.3.duration;
          rest = moved (λ bound rest. AllZip (λ term symbol. value_of bound term ≡ IsSymbol symbol) rest place.rest) b e.2.rest h.3.rest;
        },
      )

  pub range_kept : (theory more : ReadTheory) → IsSameTheory theory more → (range : _) → IsRange P rule values theory range → IsRange Q other values more range
  range_kept theory more k range h =
      let e = element_relevant rule other same P Q f g values theory more k h.0 h.1 h.2 in
      let b = bound_element_same rule other same h.1 e.0 e.2 values h.0.values in
      (h.0, e.0, e.1, (λ i. span_of (sym b i) (sym e.2.first i)) ∙ h.3)

  many_kept : (theory more : ReadTheory) → IsSameTheory theory more → (n : TheoryName) → HasManyTuples P rule values theory n → HasManyTuples Q other values more n
  many_kept theory more k name.Sum h = exceeds_by (IsTuple P rule values theory) (IsTuple Q other values more) most (tuple_kept theory more k) h
  many_kept theory more k name.Diff h = exceeds_by (IsTuple P rule values theory) (IsTuple Q other values more) most (tuple_kept theory more k) h
  many_kept theory more k name.Distinct h = exceeds_by (IsTuple P rule values theory) (IsTuple Q other values more) most (tuple_kept theory more k) h
  many_kept theory more k name.Disjoint h = exceeds_by (IsTuple P rule values theory) (IsTuple Q other values more) most (tuple_kept theory more k) h
  many_kept theory more k name.Dom h = exceeds_by (IsRange P rule values theory) (IsRange Q other values more) most (range_kept theory more k) h
  many_kept theory more k name.Minimize h = exceeds_by (IsTuple P rule values theory) (IsTuple Q other values more) most (tuple_kept theory more k) h
  many_kept theory more k name.Maximize h = exceeds_by (IsTuple P rule values theory) (IsTuple Q other values more) most (tuple_kept theory more k) h
  many_kept theory more k name.Show h = exceeds_by (IsTuple P rule values theory) (IsTuple Q other values more) most (tuple_kept theory more k) h
  many_kept theory more k name.Unknown h = exceeds_by (IsTuple P rule values theory) (IsTuple Q other values more) most (tuple_kept theory more k) h

  pub variable_kept : (theory more : ReadTheory) → IsSameTheory theory more → (x : Symbol) → IsVariableIn P rule values theory x → IsVariableIn Q other values more x
  variable_kept theory more k x h = elim h [
    | inl tuple ↦ inl ((λ e. tuple.0 (k.name ∙ e)), (tuple.1.0, tuple_kept theory more k tuple.1.0 tuple.1.1, tuple.1.2))
    | inr guard ↦ inr (moved (λ bound guard. OccursInGuard bound guard x) (bound_same rule other same values) k.guard guard)
  ]

  too_many_kept : HasTooMany P rule values → HasTooMany Q other values
  too_many_kept h =
      let t = zip_member IsSameTheory (theories rule) (theories other) h.0 (theories_zip rule other same) h.1 in (
        t.0,
        t.1,
        elim h.2 [
          | inl many ↦ inl (subst (HasManyTuples Q other values t.0) t.2.name (many_kept h.0 t.0 t.2 h.0.name many))
          | inr many ↦ inr (exceeds_by (IsVariableIn P rule values h.0) (IsVariableIn Q other values t.0) most (variable_kept h.0 t.0 t.2) many)
        ],
      )

  overflow_kept : HasOverflow P rule values → HasOverflow Q other values
  overflow_kept (RuleOver h) = RuleOver (sym (rule_over rule other same values) ∙ h)
  overflow_kept (ChoiceOver key element relevant h) =
      let c = choice_relevant rule other same P Q f values (choices_in rule.head) (choices_in other.head) (choices_zip rule.head other.head same.head) key element relevant in
      ChoiceOver key c.0 c.1 (sym (choice_over rule other same values element c.0 c.2 key.values) ∙ h)
  overflow_kept (ElementOver theory member key element relevant h) =
      let t = zip_member IsSameTheory (theories rule) (theories other) theory (theories_zip rule other same) member in
      let e = element_relevant rule other same P Q f g values theory t.0 t.2 key element relevant in
      ElementOver t.0 t.1 key e.0 e.1 (sym (element_over_same rule other same values theory t.0 t.2 element e.0 e.2 key.values) ∙ h)

  not_linear_kept : HasNotLinear P rule values → HasNotLinear Q other values
  not_linear_kept (GuardNotLinear theory member h) =
      let t = zip_member IsSameTheory (theories rule) (theories other) theory (theories_zip rule other same) member in
      GuardNotLinear t.0 t.1 ((λ i. guard_not_linear (sym t.2.name i) (sym (bound_same rule other same values) i) (sym t.2.guard i)) ∙ h)
  not_linear_kept (ElementNotLinear theory member key element relevant h) =
      let t = zip_member IsSameTheory (theories rule) (theories other) theory (theories_zip rule other same) member in
      let e = element_relevant rule other same P Q f g values theory t.0 t.2 key element relevant in
      let b = bound_element_same rule other same element e.0 e.2 values key.values in
      ElementNotLinear t.0 t.1 key e.0 e.1 ((λ i. first_not_linear (sym t.2.name i) (sym b i) (sym e.2.first i) || duration_not_linear (sym b i) (sym e.2.duration i)) ∙ h)

-- TOO LARGE

module _ (P Q : Symbol → Type 0) (f : (a : Symbol) → P a → Q a) (g : (a : Symbol) → Q a → P a) (rule other : ReadRule) (same : IsReordered rule other) (values : List Value) where
  total_kept : (theory more : ReadTheory) → IsSameTheory theory more → HasLargeTotal P rule values theory → HasLargeTotal Q other values more
  total_kept theory more k h = record {
    name = elim h.name [ inl e ↦ inl (sym k.name ∙ e) | inr e ↦ inr (sym k.name ∙ e) ];
    places = h.places;
    tuples = record {
      ascend = h.tuples.ascend;
      all = λ place. (
        (λ m. tuple_kept P Q f g rule other same values theory more k place ((h.tuples.all place).0 m)),
        (λ t. (h.tuples.all place).1 (tuple_kept Q P g f other rule (rule_turned rule other same) values more theory (theory_turned theory more k) place t)),
      );
    };
    guard = h.guard;
    written = sym k.guard ∙ h.written;
    right = h.right;
    form = subst (λ bound. HasForm (collected bound h.guard.right) h.right) (bound_same rule other same values) h.form;
    large = h.large;
  }

  value_kept : (ends : Ends) (theory more : ReadTheory) → IsSameTheory theory more → HasLargeValue P ends rule values theory → HasLargeValue Q ends other values more
  value_kept ends theory more k h = record {
    name = elim h.name [ inl e ↦ inl (sym k.name ∙ e) | inr e ↦ inr (sym k.name ∙ e) ];
    place = h.place;
    tuple = tuple_kept P Q f g rule other same values theory more k h.place h.tuple;
    large = h.large;
  }

  large_kept : (ends : Ends) → HasLarge P ends rule values → HasLarge Q ends other values
  large_kept ends (GuardLarge theory member h) =
      let t = zip_member IsSameTheory (theories rule) (theories other) theory (theories_zip rule other same) member in
      GuardLarge t.0 t.1 ((λ i. guard_large (sym (bound_same rule other same values) i) (sym t.2.guard i)) ∙ h)
  large_kept ends (ElementLarge theory member key element relevant h) =
      let t = zip_member IsSameTheory (theories rule) (theories other) theory (theories_zip rule other same) member in
      let e = element_relevant rule other same P Q f g values theory t.0 t.2 key element relevant in
      let b = bound_element_same rule other same element e.0 e.2 values key.values in
      ElementLarge t.0 t.1 key e.0 e.1 ((λ i. first_large (sym t.2.name i) (sym b i) (sym e.2.first i)) ∙ h)
  large_kept ends (TotalLarge theory member h) =
      let t = zip_member IsSameTheory (theories rule) (theories other) theory (theories_zip rule other same) member in
      TotalLarge t.0 t.1 (total_kept theory t.0 t.2 h)
  large_kept ends (ValueLarge theory member h) =
      let t = zip_member IsSameTheory (theories rule) (theories other) theory (theories_zip rule other same) member in
      ValueLarge t.0 t.1 (value_kept ends theory t.0 t.2 h)

  cause_kept : (ends : Ends) (cause : Cause) → HasCause P ends rule values cause → HasCause Q ends other values cause
  cause_kept ends Overflow h = overflow_kept P Q f g rule other same values h
  cause_kept ends NotLinear h = not_linear_kept P Q f g rule other same values h
  cause_kept ends TooManyElements h = too_many_kept P Q f g rule other same values h
  cause_kept ends TooLarge h = large_kept ends h

-- PROGRAMS

pub somehow_kept : (rules others : List ReadRule) → AllZip IsReordered rules others → (ends : Ends) (key : Key) → IsSomehowOutside rules ends key → IsSomehowOutside others ends key
somehow_kept rules others zip ends key h =
    let r = relevant_of_kept rules others zip key h.0 h.1 in (
      r.0,
      r.1,
      (
        h.2.0,
        cause_kept (IsPossible rules) (IsPossible others) (λ a p. (possible_law rules others zip a).0 p) (λ a p. (possible_law rules others zip a).1 p)
            h.0 r.0 r.2 key.values ends h.2.0 h.2.1,
      ),
    )

first_kept : (rules others : List ReadRule) → AllZip IsReordered rules others → (ends : Ends) (key : Key) (cause : Cause) → IsFirstOutside rules ends key cause → IsFirstOutside others ends key cause
first_kept rules others zip ends key cause h =
    let r = relevant_of_kept rules others zip key h.outside.0 h.outside.1.relevant in
    record {
      outside = (
        r.0,
        record {
          relevant = r.1;
          has = cause_kept (IsPossible rules) (IsPossible others) (λ a p. (possible_law rules others zip a).0 p) (λ a p. (possible_law rules others zip a).1 p)
              h.outside.0 r.0 r.2 key.values ends cause h.outside.1.has;
          first = λ before m k. h.outside.1.first before m
              (cause_kept (IsPossible others) (IsPossible rules) (λ a p. (possible_law rules others zip a).1 p) (λ a p. (possible_law rules others zip a).0 p)
              r.0 h.outside.0 (rule_turned h.outside.0 r.0 r.2) key.values ends before k);
        },
      );
      before = λ another k. h.before another (somehow_kept others rules (all_turned rules others zip) ends another k);
    }

pub outside_law : OutsideLaw
outside_law rules others zip ends key cause = (first_kept rules others zip ends key cause, first_kept others rules (all_turned rules others zip) ends key cause)
