-- What follows for an element from its places.
use Rattle.std.proofs.Common.{◌≡◌, ◌⊎◌, ℕ, IsTrue, ◌≤ℤ◌, Bool, true, false, not, ◌||◌, int_le, ℤ, pos, List, map, Option, None, Some, Result, Err, refl, sym, ◌∙◌, ap, subst, true≢false, arith}
use Rattle.std.specs.List.{AllByRecursion, list_any}
use Rattle.std.proofs.lemmas.Bool.Decides.{nat_tests}
use Rattle.std.proofs.lemmas.Int.{ints}
use Rattle.symbols.specs.Symbol.{Symbol, Number}
use Rattle.symbols.specs.Table.{IsFront}
use Rattle.syntax_tree.specs.declared.literal.Literal.TheFolds.{fold-roll-TheoryElement}
use Rattle.syntax_tree.specs.declared.literal.Literal.TheViews.{out-TheoryElement, roll-out-TheoryElement}
use Rattle.syntax_tree.specs.declared.literal.TheoryElement.{TheoryElement}
use Rattle.syntax_tree.specs.declared.literal.TheoryName.{TheoryName}
use Rattle.syntax_tree.specs.declared.literal.TheoryName.TheVariants as name
use Rattle.syntax_tree.specs.declared.term.Term.{Term}
use Rattle.syntax_tree.specs.Literals.{is_theory_element}
use Rattle.syntax_tree.specs.Tree.{is_term}
use Rattle.syntax_tree.specs.Outcome.{Outcome, IsSymbol, IsUndefined}
use Rattle.syntax_tree.specs.Value.{value_of}
use Rattle.program_meaning.specs.declared.collected.SymbolLinear.{SymbolLinear}
use Rattle.program_meaning.specs.Collected.{Collected, collected}
use Rattle.program_meaning.specs.Comparison.{Span, span_of}
use Rattle.program_meaning.specs.Read.{ReadElement, ReadLiteral, ReadTheory, read_literal, read_theory, read_element, literal_read, plains}
use Rattle.program_meaning.specs.Said.{linear_in, place_in}
use Rattle.program_meaning.specs.Theory.{is_over, is_duration, is_span_over, first_over, duration_over, element_over, first_not_linear, duration_not_linear, first_large, HasForm, HasDuration, HasTuple}
use Rattle.instance_plans.specs.Plans.{element_read}
use Rattle.plan_terms.proofs.Trees.{IsTermOption, element_terms}
use Rattle.collected_terms.specs.declared.collected_term.LinearForm.TheVariants as form
use Rattle.collected_terms.specs.Found.{IsKnownLinear}
use Rattle.collected_terms.proofs.Growing.{term_front, form_known}
use Rattle.collected_elements.specs.declared.judged.JudgedTerm.{JudgedTerm}
use Rattle.collected_elements.specs.declared.judged.JudgedTerm.TheVariants as term
use Rattle.collected_elements.specs.declared.judged.JudgedElement.TheVariants as element
use Rattle.collected_elements.specs.Judged.{IsJudgedBy, IsKnownTerm, IsClear, HasNothing, IsJudged}
use Rattle.collected_elements.specs.inner.Places.{IsDurationBy, IsDurationOf, IsSpanBy, IsSpanOf, AreValues, IsRestOf}
use Rattle.collected_elements.proofs.RestLemmas.{rest_settled, rest_zip, rest_none}

-- FIRST PLACES

pub first_over_is : (kind : TheoryName) → (kind ≡ name.Dom → ⊥) → (bound : List Outcome) (t : Term) → first_over kind bound t ≡ (collected bound t).over
first_over_is name.Sum n bound t = refl
first_over_is name.Diff n bound t = refl
first_over_is name.Distinct n bound t = refl
first_over_is name.Disjoint n bound t = refl
first_over_is name.Dom n bound t = absurd (n refl)
first_over_is name.Minimize n bound t = refl
first_over_is name.Maximize n bound t = refl
first_over_is name.Show n bound t = refl
first_over_is name.Unknown n bound t = refl

pub first_large_is : (kind : TheoryName) → (kind ≡ name.Dom → ⊥) → (bound : List Outcome) (t : Term) → first_large kind bound t ≡ (collected bound t).large
first_large_is name.Sum n bound t = refl
first_large_is name.Diff n bound t = refl
first_large_is name.Distinct n bound t = refl
first_large_is name.Disjoint n bound t = refl
first_large_is name.Dom n bound t = absurd (n refl)
first_large_is name.Minimize n bound t = refl
first_large_is name.Maximize n bound t = refl
first_large_is name.Show n bound t = refl
first_large_is name.Unknown n bound t = refl

-- DURATIONS

not_some : (n : ℤ) → None ≡ Some n → ⊥
not_some n e = cc

some_same : (m n : ℤ) → Some m ≡ Some n → m ≡ n
some_same m n e = cc

test_le : (a b : ℤ) → a ≤ℤ b → int_le a b ≡ true
test_le a b l = grind (arith, nat_tests, ints, l)

settled_by : (over : Bool) (o : Outcome) (found : Option ℤ) → IsDurationBy over o found → (over || is_over o) ≡ false
settled_by over o None h = h.0
settled_by over o (Some n) h = h.0

duration_settled : (bound : List Outcome) (d : Option Term) (found : Option ℤ) → IsDurationOf bound d found → duration_over bound d ≡ false
duration_settled bound None found h = refl
duration_settled bound (Some t) found h = settled_by (collected bound t).over (value_of bound t) found h

number_linear : (o : Outcome) (n : ℤ) → o ≡ IsSymbol (Number n) → pos 0 ≤ℤ n → not (is_duration o) ≡ false
number_linear o n e l = ap (λ x. not (is_duration x)) e ∙ ap not (test_le (pos 0) n l)

duration_linear : (bound : List Outcome) (d : Option Term) (n : ℤ) → IsDurationOf bound d (Some n) → duration_not_linear bound d ≡ false
duration_linear bound None n h = refl
duration_linear bound (Some t) n h = number_linear (value_of bound t) n h.1 h.2

duration_crooked : (bound : List Outcome) (d : Option Term) → IsDurationOf bound d None → duration_not_linear bound d ≡ true
duration_crooked bound None h = absurd (not_some (pos 0) h)
duration_crooked bound (Some t) h = ap not h.1

duration_has : (bound : List Outcome) (d : Option Term) (n : ℤ) → IsDurationOf bound d (Some n) → HasDuration bound d n
duration_has bound None n h = some_same n (pos 0) h
duration_has bound (Some t) n h = (h.1, h.2)

pub duration_same : (a b : Bool) (o p : Outcome) → a ≡ b → o ≡ p → (found : Option ℤ) → IsDurationBy a o found → IsDurationBy b p found
duration_same a b o p e f found h = subst (λ x. IsDurationBy x p found) e (subst (λ y. IsDurationBy a y found) f h)

pub span_same : (a b : Bool) (s t : Span) → a ≡ b → s ≡ t → (found : Option (ℤ × ℤ)) → IsSpanBy a s found → IsSpanBy b t found
span_same a b s t e f found h = subst (λ x. IsSpanBy x t found) e (subst (λ y. IsSpanBy a y found) f h)

-- ELEMENTS AS THEY ARE READ

-- the places and the condition of an element as it is read
pub element_parts : (e : TheoryElement) → element_read e ≡ record { first = e.first; duration = e.duration; rest = e.rest; condition = plains (map literal_read e.condition) }
element_parts e =
    ap element_read (sym (roll-out-TheoryElement e))
    ∙ fold-roll-TheoryElement ReadLiteral ReadTheory ReadElement read_literal read_theory read_element (out-TheoryElement e)

pub rest_terms : (e : TheoryElement) → IsTrue (is_theory_element e) → AllByRecursion (λ t. IsTrue (is_term t)) e.rest
rest_terms e h = subst (λ (r : ReadElement). AllByRecursion (λ t. IsTrue (is_term t)) r.rest) (element_parts e) (element_terms e h).rest

pub first_term : (e : TheoryElement) → IsTrue (is_theory_element e) → IsTrue (is_term e.first)
first_term e h = subst (λ (r : ReadElement). IsTrue (is_term r.first)) (element_parts e) (element_terms e h).first

pub duration_term : (e : TheoryElement) → IsTrue (is_theory_element e) → IsTermOption e.duration
duration_term e h = subst (λ (r : ReadElement). IsTermOption r.duration) (element_parts e) (element_terms e h).duration

or_one : (a b c : Bool) → a ≡ true → (a || b || c) ≡ true
or_one true b c e = refl
or_one false b c e = absurd (true≢false (sym e))

or_two : (a b c : Bool) → b ≡ true → (a || b || c) ≡ true
or_two true b c e = refl
or_two false true c e = refl
or_two false false c e = absurd (true≢false (sym e))

or_three : (a b c : Bool) → c ≡ true → (a || b || c) ≡ true
or_three true b c e = refl
or_three false true c e = refl
or_three false false c e = e

module _ (kind : TheoryName) (bound : List Outcome) (e : TheoryElement) where
  back : element_over kind bound (record { first = e.first; duration = e.duration; rest = e.rest; condition = plains (map literal_read e.condition) }) ≡ true
      → element_over kind bound (element_read e) ≡ true
  back h = ap (element_over kind bound) (element_parts e) ∙ h

  pub over_first : first_over kind bound e.first ≡ true → element_over kind bound (element_read e) ≡ true
  over_first h = back (or_one (first_over kind bound e.first) (duration_over bound e.duration) (list_any (λ t. is_over (value_of bound t)) e.rest) h)

  pub over_duration : duration_over bound e.duration ≡ true → element_over kind bound (element_read e) ≡ true
  over_duration h = back (or_two (first_over kind bound e.first) (duration_over bound e.duration) (list_any (λ t. is_over (value_of bound t)) e.rest) h)

  pub over_rest : list_any (λ t. is_over (value_of bound t)) e.rest ≡ true → element_over kind bound (element_read e) ≡ true
  over_rest h = back (or_three (first_over kind bound e.first) (duration_over bound e.duration) (list_any (λ t. is_over (value_of bound t)) e.rest) h)

-- ELEMENTS

three : (a b c : Bool) → a ≡ false → b ≡ false → c ≡ false → (a || b || c) ≡ false
three a b c p q r = (λ i. p i || q i || r i)

two : (a b : Bool) → a ≡ false → b ≡ false → (a || b) ≡ false
two a b p q = (λ i. p i || q i)

or_right : (a b : Bool) → b ≡ true → (a || b) ≡ true
or_right true b e = refl
or_right false b e = e

module _ (symbols : List Symbol) (kind : TheoryName) (bound : List Outcome) (read : ReadElement) (found : Option ℤ) (rest : Option (List ℕ))
    (settled : first_over kind bound read.first ≡ false) (duration : IsDurationOf bound read.duration found) (is_rest : IsRestOf symbols bound read.rest rest) where
  all_settled : element_over kind bound read ≡ false
  all_settled =
      three (first_over kind bound read.first) (duration_over bound read.duration) (list_any (λ t. is_over (value_of bound t)) read.rest)
      settled (duration_settled bound read.duration found duration) (rest_settled symbols bound read.rest rest is_rest)

  pub crooked_first : first_not_linear kind bound read.first ≡ true → IsJudged symbols kind bound read element.NotLinear
  crooked_first e = (all_settled, ap (λ b. b || duration_not_linear bound read.duration) e)

  pub crooked_duration : found ≡ None → IsJudged symbols kind bound read element.NotLinear
  crooked_duration e = (
    all_settled,
    or_right (first_not_linear kind bound read.first) (duration_not_linear bound read.duration)
        (duration_crooked bound read.duration (subst (IsDurationOf bound read.duration) e duration)),
  )

  pub clear : first_not_linear kind bound read.first ≡ false → (n : ℤ) → found ≡ Some n → IsClear kind bound read
  clear linear n e = record {
    settled = all_settled;
    linear = two (first_not_linear kind bound read.first) (duration_not_linear bound read.duration) linear
        (duration_linear bound read.duration n (subst (IsDurationOf bound read.duration) e duration));
  }

  -- a further place that is undefined leaves no tuple
  pub nothing_there : kind ≡ name.Dom ⊎ (kind ≡ name.Dom → ⊥) → first_large kind bound read.first ≡ false → rest ≡ None → (kind ≡ name.Dom → ⊥) → HasNothing kind bound read
  nothing_there which small e other = record {
    small = small;
    no_tuple = λ h place tuple. rest_none bound read.rest place.rest (subst (AreValues symbols (map (value_of bound) read.rest)) e is_rest.values) tuple.rest;
    no_ends = λ dom. absurd (other dom);
  }

  pub has_tuple : (linear : SymbolLinear) (n : ℤ) (ids : List ℕ) → HasForm (collected bound read.first) (linear_in symbols linear) → found ≡ Some n → rest ≡ Some ids
      → HasTuple bound read (place_in symbols (record { linear = linear; duration = n; rest = ids }))
  has_tuple linear n ids form e f = record {
    linear = form;
    duration = duration_has bound read.duration n (subst (IsDurationOf bound read.duration) e duration);
    rest = rest_zip symbols bound read.rest ids (subst (AreValues symbols (map (value_of bound) read.rest)) f is_rest.values);
  }

-- in `&dom`
span_settled : (over : Bool) (s : Span) (found : Option (ℤ × ℤ)) → IsSpanBy over s found → (over || is_span_over s) ≡ false
span_settled over s None h = (λ i. h.0 i || is_span_over (h.1 i))
span_settled over s (Some range) h = (λ i. h.0 i || is_span_over (h.1 i))

module _ (symbols : List Symbol) (bound : List Outcome) (read : ReadElement) (span : Option (ℤ × ℤ)) (found : Option ℤ) (rest : Option (List ℕ))
    (is_span : IsSpanOf bound read.first span) (duration : IsDurationOf bound read.duration found) (is_rest : IsRestOf symbols bound read.rest rest) where
  first_settled : first_over name.Dom bound read.first ≡ false
  first_settled = span_settled (collected bound read.first).over (span_of bound read.first) span is_span

  pub range_crooked : found ≡ None → IsJudged symbols name.Dom bound read element.NotLinear
  range_crooked e = crooked_duration symbols name.Dom bound read found rest first_settled duration is_rest e

  pub range_nothing : (n : ℤ) → found ≡ Some n → span ≡ None → IsJudged symbols name.Dom bound read element.Nothing
  range_nothing n e f = (
    clear symbols name.Dom bound read found rest first_settled duration is_rest refl n e,
    record {
      small = refl;
      no_tuple = λ h place tuple. absurd (h refl);
      no_ends = λ dom. (subst (IsSpanBy (collected bound read.first).over (span_of bound read.first)) f is_span).1;
    },
  )

  pub range_found : (n low high : ℤ) → found ≡ Some n → span ≡ Some (low, high) → IsJudged symbols name.Dom bound read (element.Range low high)
  range_found n low high e f = (
    clear symbols name.Dom bound read found rest first_settled duration is_rest refl n e,
    refl,
    (subst (IsSpanBy (collected bound read.first).over (span_of bound read.first)) f is_span).1,
  )

-- FORMS AS THE TABLE GROWS

linear_front : (old new : List Symbol) → IsFront old new → (linear : SymbolLinear) → IsKnownLinear old linear → linear_in new linear ≡ linear_in old linear
linear_front old new front linear known =
    (term_front old new front (record { undefined = false; over = false; form = form.Small linear })
    (record { value = IsUndefined; undefined = false; over = false; not_linear = false; large = false; form = linear_in old linear })
    known (record { undefined = refl; over = refl; form = (refl, refl, refl) })).form.2

pub judged_front : (old new : List Symbol) → IsFront old new → (judged : JudgedTerm) → IsKnownTerm old judged → (found : Collected) (crooked : Bool) → IsJudgedBy old judged found crooked
    → IsJudgedBy new judged found crooked
judged_front old new front term.NotLinear known found crooked h = h
judged_front old new front term.Large known found crooked h = h
judged_front old new front (term.Form linear) known found crooked h = (h.0, subst (HasForm found) (sym (linear_front old new front linear known)) h.1)

pub judged_known : (old new : List Symbol) → IsFront old new → (judged : JudgedTerm) → IsKnownTerm old judged → IsKnownTerm new judged
judged_known old new front term.NotLinear known = tt
judged_known old new front term.Large known = tt
judged_known old new front (term.Form linear) known = form_known old new front (form.Small linear) known

-- the same of a term and a test that are equal ones
pub judged_same : (symbols : List Symbol) (judged : JudgedTerm) (found other : Collected) (crooked test : Bool) → found ≡ other → crooked ≡ test
    → IsJudgedBy symbols judged found crooked → IsJudgedBy symbols judged other test
judged_same symbols judged found other crooked test e f h = subst (λ t. IsJudgedBy symbols judged t test) e (subst (IsJudgedBy symbols judged found) f h)

-- ERRORS

stop_same : {A E : Type 0} (s t : E) → ◌≡◌ {A = Result A E} (Err s) (Err t) → s ≡ t
stop_same s t e = cc

-- an error is the same one beside other answers
pub err_again : {A B E : Type 0} {s t : E} → ◌≡◌ {A = Result A E} (Err s) (Err t) → ◌≡◌ {A = Result B E} (Err s) (Err t)
err_again {A} {B} {E} {s} {t} e = subst (λ (x : E). ◌≡◌ {A = Result B E} (Err s) (Err x)) (stop_same s t e) refl
