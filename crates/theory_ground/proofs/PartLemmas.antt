-- The rows of an element's plan are its relevant instances.
use Rattle.std.proofs.Common.{◌≡◌, ◌⊎◌, inl, inr, ◌<◌, ◌+◌, ℕ, zero, suc, nat_lt, Bool, true, false, List, [], ◌∷◌, ◌++◌, map, get_or, slice_get, length, Some, refl, sym, ◌∙◌, ap, subst, arith}
use Rattle.std.specs.List.{AllByRecursion, AllZip}
use Rattle.std.proofs.lemmas.Bool.Decides.{nat_tests}
use Rattle.std.proofs.lemmas.List.{length-map}
use Rattle.symbols.specs.Symbol.{Symbol}
use Rattle.symbols.specs.Table.{IsFront}
use Rattle.syntax_tree.specs.declared.literal.Literal.TheFolds.{fold-roll-TheoryAtom}
use Rattle.syntax_tree.specs.declared.literal.Literal.TheViews.{out-TheoryAtom, roll-out-TheoryAtom}
use Rattle.syntax_tree.specs.declared.literal.TheoryAtom.{TheoryAtom}
use Rattle.syntax_tree.specs.declared.literal.TheoryElement.{TheoryElement}
use Rattle.ground_model.specs.Members.{IsMember, IsApart}
use Rattle.ground_model.proofs.MemberLemmas.{property_member}
use Rattle.program_meaning.specs.Read.{ReadElement, ReadTheory, ReadRule, ReadLiteral, plains, read_literal, read_theory, read_element, theory_read}
use Rattle.program_meaning.specs.Ascending.{Exceeds}
use Rattle.program_meaning.specs.Substitution.{Value, Key, substituted}
use Rattle.program_meaning.specs.Variables.{globals}
use Rattle.program_meaning.specs.Instance.{bound_in_element, IsRelevantElement}
use Rattle.program_meaning.specs.Outside.{is_element_over}
use Rattle.program_meaning.specs.Theory.{element_over}
use Rattle.program_meaning.proofs.Lists.{all_append, zip_all, some_one, append_left, append_right}
use Rattle.instance_rows.specs.Laws.{IsPlan}
use Rattle.instance_rows.specs.Rows.{IsRow, AreRows}
use Rattle.instance_rows.specs.Tests.{passes_all, are_over}
use Rattle.instance_rows.proofs.RowLemmas.{rows_law}
use Rattle.instance_rows.proofs.TestLemmas.{element_law}
use Rattle.instance_plans.specs.declared.plan.Plan.{Plan}
use Rattle.instance_plans.specs.Plans.{IsElementPlan, element_read, steps_of, tests_of}
use Rattle.program_meaning.specs.Said.{value_in}
use Rattle.instance_search.specs.declared.found.Row.{Row}
use Rattle.instance_search.specs.Found.{plan_rows, rows_in}
use Rattle.collected_elements.specs.declared.judged.JudgedElement.{JudgedElement}
use Rattle.collected_elements.specs.Judged.{IsJudged, IsKnownElement}
use Rattle.theory_laws.specs.Collecting.{IsAtomOver, ElementIsOver, IsElementKey}
use Rattle.collected_atoms.specs.declared.gathering.Gathered.{Gathered}
use Rattle.collected_atoms.specs.Gathering.{IsGathered, IsInstanceJudged}
use Rattle.theory_ground.specs.inner.Rows.{bound_by, IsRowJudged, IsRowOver, IsSomeRowOver, HasAll, IsPart}
use Rattle.theory_ground.proofs.RowLemmas.{judged_front, all_known_front}
use Rattle.theory_ground.proofs.ElementLemmas.{element_is_over, tests_are_over, nothing_over, judged_settled}

-- THEORY ATOMS AS THEY ARE READ

pub theory_parts : (t : TheoryAtom) → theory_read t ≡ record { name = (out-TheoryAtom t).name; elements = map element_read (out-TheoryAtom t).elements; guard = (out-TheoryAtom t).guard }
theory_parts t =
    ap theory_read (sym (roll-out-TheoryAtom t))
    ∙ fold-roll-TheoryAtom ReadLiteral ReadTheory ReadElement read_literal read_theory read_element (out-TheoryAtom t)

-- PLANS

-- a plan by its own parts
pub plan_is : (rule : ReadRule) (read : ReadElement) (plan : Plan) → IsElementPlan rule read plan
    → IsPlan (plains rule.body ++ read.condition) read.condition plan.count plan.given plan.variables (steps_of plan) (tests_of plan)
plan_is rule read plan is =
    subst (λ (X : Type 0). X)
    (λ i. IsPlan (plains rule.body ++ read.condition) read.condition (sym is.count_is i) (sym is.given_are i) (sym is.variables_are i) (steps_of plan) (sym is.tests_are i)) is.plans

pub plan_rows_are : (atoms : List Symbol) (rule : ReadRule) (read : ReadElement) (plan : Plan) → IsElementPlan rule read plan → (values : List Value) → IsApart atoms → length values ≡ length (globals rule)
    → AreRows atoms (tests_of plan) plan.count plan.given plan.variables values (plan_rows atoms plan values)
plan_rows_are atoms rule read plan is values apart each =
    rows_law atoms (plains rule.body ++ read.condition) read.condition plan.count plan.given plan.variables (steps_of plan) (tests_of plan) values apart (plan_is rule read plan is)
    (each ∙ ap length (sym is.given_are))

-- the rows that are found have as many values as there are variables
pub row_lengths : (symbols : List Symbol) (plan : Plan) (atoms : List Symbol) (values : List Value) (found : List Row) → rows_in symbols found ≡ plan_rows atoms plan values
    → AreRows atoms (tests_of plan) plan.count plan.given plan.variables values (plan_rows atoms plan values) → AllByRecursion (λ row. length row.values ≡ length plan.variables) found
row_lengths symbols plan atoms values found e are =
    go found (subst (λ (rs : List (List Value)). AllByRecursion (IsRow atoms (tests_of plan) plan.count plan.given plan.variables values) rs) (sym e) are.each)
  where
    go : (rows : List Row) → AllByRecursion (IsRow atoms (tests_of plan) plan.count plan.given plan.variables values) (rows_in symbols rows)
        → AllByRecursion (λ row. length row.values ≡ length plan.variables) rows
    go [] h = tt
    go (row ∷ rows) h = (sym (length-map row.values (value_in symbols)) ∙ h.0.each, go rows h.1)

-- ONE ELEMENT

zip_member : {X Y : Type 0} (R : X → Y → Type 0) (xs : List X) (ys : List Y) (x : X) → AllZip R xs ys → IsMember xs x → (y : Y) × IsMember ys y × R x y
zip_member R [] ys x z m = absurd m
zip_member R (w ∷ xs) [] x z m = absurd z
zip_member R (w ∷ xs) (y ∷ ys) x z (inl e) = (y, inl refl, subst (λ v. R v y) (sym e) z.0)
zip_member R (w ∷ xs) (y ∷ ys) x z (inr m) = let r = zip_member R xs ys x z.1 m in (r.0, inr r.1, r.2)

module _ (atoms : List Symbol) (rule : ReadRule) (values : List Value) (theory : ReadTheory) (place : ℕ) (read : ReadElement) (plan : Plan)
    (at : slice_get theory.elements place ≡ Some read) (is : IsElementPlan rule read plan) (each : length values ≡ length (globals rule)) (apart : IsApart atoms) where
  abbrev P : Symbol → Type 0
  P = IsMember atoms

  abbrev key : List Value → Key
  key row = record { place = place; values = row }

  abbrev rows : List (List Value)
  rows = plan_rows atoms plan values

  bound_is : (row : List Value) → bound_by plan values row ≡ bound_in_element rule values read row
  bound_is row = λ i. substituted (is.count_is i) (is.given_are i ++ is.variables_are i) (values ++ row)

  are : AreRows atoms (tests_of plan) plan.count plan.given plan.variables values (plan_rows atoms plan values)
  are = plan_rows_are atoms rule read plan is values apart each

  relevant : (row : List Value) → IsMember (plan_rows atoms plan values) row → IsRelevantElement (IsMember atoms) rule values theory (key row) read
  relevant row m =
      let r = property_member (IsRow atoms (tests_of plan) plan.count plan.given plan.variables values) (plan_rows atoms plan values) row are.each m in
      let passes = (λ i. passes_all atoms (sym (bound_is row) i) (sym is.tests_are i)) ∙ r.passes in
      let law = (element_law rule atoms values read row).0 passes in
      record { place = at; each = r.each ∙ ap length is.variables_are; there = law.0; condition = law.1 }

  row_of : (k : Key) → IsRelevantElement (IsMember atoms) rule values theory k read → IsMember (plan_rows atoms plan values) k.values
  row_of k h =
      let passes = (element_law rule atoms values read k.values).1 (h.there, h.condition) in
      are.all k.values
      (record { each = h.each ∙ ap length (sym is.variables_are); passes = (λ i. passes_all atoms (bound_is k.values i) (is.tests_are i)) ∙ passes })

  same_element : (k : Key) (other : ReadElement) → IsRelevantElement (IsMember atoms) rule values theory k other → k.place ≡ place → other ≡ read
  same_element k other h e = some_one (slice_get theory.elements place) other read (ap (slice_get theory.elements) (sym e) ∙ h.place) at

  -- more rows than a limit
  pub rows_exceed : (limit : ℕ) → limit < length (plan_rows atoms plan values) → Exceeds (IsElementKey (IsMember atoms) rule values theory) limit
  rows_exceed limit more = record {
    shown = map key (plan_rows atoms plan values);
    apart = keys_apart (plan_rows atoms plan values) are.apart;
    each = keys_each (plan_rows atoms plan values) (λ row m. m);
    more = subst (λ n. limit < n) (sym (length-map (plan_rows atoms plan values) key)) more;
  }
    where
      unkey : (xs : List (List Value)) (row : List Value) → IsMember (map key xs) (key row) → IsMember xs row
      unkey [] row m = m
      unkey (x ∷ xs) row (inl e) = inl (ap (λ (k : Key). k.values) e)
      unkey (x ∷ xs) row (inr m) = inr (unkey xs row m)

      keys_apart : (xs : List (List Value)) → IsApart xs → IsApart (map key xs)
      keys_apart [] a = tt
      keys_apart (x ∷ xs) a = ((λ m. a.0 (unkey xs x m)), keys_apart xs a.1)

      keys_each : (xs : List (List Value)) → ((row : List Value) → IsMember xs row → IsMember (plan_rows atoms plan values) row)
          → AllByRecursion (IsElementKey (IsMember atoms) rule values theory) (map key xs)
      keys_each [] f = tt
      keys_each (x ∷ xs) f = ((read, relevant x (f x (inl refl))), keys_each xs (λ row m. f row (inr m)))

  -- a row that is over
  pub row_over : IsSomeRowOver theory.name read plan values (plan_rows atoms plan values) → IsAtomOver (IsMember atoms) rule values theory
  row_over h = ElementIsOver (key h.0) read (relevant h.0 h.1) (go h.0 h.2)
    where
      go : (row : List Value) → IsRowOver theory.name read plan values row → is_element_over rule values theory read row ≡ true
      go row (inl e) = tests_are_over rule values theory read row ((λ i. are_over (sym (bound_is row) i) (sym is.tests_are i)) ∙ e)
      go row (inr e) = element_is_over rule values theory read row ((λ i. element_over theory.name (sym (bound_is row) i) read) ∙ e)

  -- the instances of this element behind those of others
  pub part_more : (now new : List Symbol) (before after : Gathered) → IsFront now new → IsPart now (IsMember atoms) rule values theory place before
      → HasAll new theory.name read plan values (plan_rows atoms plan values) before after → IsPart new (IsMember atoms) rule values theory (place + 1) after
  part_more now new before after front part has = record {
    all = part.all ++ has.judged;
    together = has.together part.all part.together;
    each = all_append (IsInstanceJudged new (IsMember atoms) rule values theory) part.all has.judged (old_each part.all part.each part.known)
        (zip_all (IsRowJudged new theory.name read plan values) (IsInstanceJudged new (IsMember atoms) rule values theory) (plan_rows atoms plan values) has.judged
        (λ row judged m h. record { key = key row; element = read; relevant = relevant row m; comes = here row judged h }) has.each);
    known = all_append (IsKnownElement new) part.all has.judged (all_known_front now new front part.all part.known)
        (zip_all (IsRowJudged new theory.name read plan values) (IsKnownElement new) (plan_rows atoms plan values) has.judged (λ row judged m h. h.known) has.each);
    whole = λ k other h l. whole_at k other h (side k.place l);
    settled = λ k other h l. settled_at k other h (side k.place l);
  }
    where
      here : (row : List Value) (judged : JudgedElement) → IsRowJudged new theory.name read plan values row judged → IsJudged new theory.name (bound_in_element rule values read row) read judged
      here row judged h = subst (λ b. IsJudged new theory.name b read judged) (bound_is row) h.comes

      side : (n : ℕ) → n < place + 1 → (n < place) ⊎ (n ≡ place)
      side n l = go (nat_lt n place) refl
        where
          go : (t : Bool) → nat_lt n place ≡ t → (n < place) ⊎ (n ≡ place)
          go true e = inl (grind (arith, nat_tests, e))
          go false e = inr (grind (arith, nat_tests, e, l))

      old_each : (all : List JudgedElement) → AllByRecursion (IsInstanceJudged now (IsMember atoms) rule values theory) all → AllByRecursion (IsKnownElement now) all
          → AllByRecursion (IsInstanceJudged new (IsMember atoms) rule values theory) all
      old_each [] h k = tt
      old_each (j ∷ all) h k = (
        record {
          key = h.0.key;
          element = h.0.element;
          relevant = h.0.relevant;
          comes = judged_front now new front theory.name (bound_in_element rule values h.0.element h.0.key.values) h.0.element j k.0 h.0.comes;
        },
        old_each all h.1 k.1,
      )

      whole_at : (k : Key) (other : ReadElement) → IsRelevantElement (IsMember atoms) rule values theory k other → (k.place < place) ⊎ (k.place ≡ place)
          → (judged : JudgedElement) × IsMember (part.all ++ has.judged) judged × IsJudged new theory.name (bound_in_element rule values other k.values) other judged
      whole_at k other h (inl l) =
          let r = part.whole k other h l in (
            r.0,
            append_left part.all has.judged r.0 r.1,
            judged_front now new front theory.name (bound_in_element rule values other k.values) other r.0 (property_member (IsKnownElement now) part.all r.0 part.known r.1) r.2,
          )
      whole_at k other h (inr e) =
          let same = same_element k other h e in
          let m = row_of k (subst (IsRelevantElement (IsMember atoms) rule values theory k) same h) in
          let r = zip_member (IsRowJudged new theory.name read plan values) (plan_rows atoms plan values) has.judged k.values has.each m in (
            r.0,
            append_right part.all has.judged r.0 r.1,
            subst (λ (o : ReadElement). IsJudged new theory.name (bound_in_element rule values o k.values) o r.0) (sym same) (here k.values r.0 r.2),
          )

      settled_at : (k : Key) (other : ReadElement) → IsRelevantElement (IsMember atoms) rule values theory k other → (k.place < place) ⊎ (k.place ≡ place)
          → is_element_over rule values theory other k.values ≡ false
      settled_at k other h (inl l) = part.settled k other h l
      settled_at k other h (inr e) =
          let same = same_element k other h e in
          let m = row_of k (subst (IsRelevantElement (IsMember atoms) rule values theory k) same h) in
          let r = zip_member (IsRowJudged new theory.name read plan values) (plan_rows atoms plan values) has.judged k.values has.each m in
          let tests = (λ i. are_over (sym (bound_is k.values) i) (sym is.tests_are i)) ∙ r.2.settled in
          subst (λ (o : ReadElement). is_element_over rule values theory o k.values ≡ false) (sym same)
          (nothing_over rule values theory read k.values tests (judged_settled new theory.name (bound_in_element rule values read k.values) read r.0 (here k.values r.0 r.2)))

-- before all elements
pub no_part : (symbols : List Symbol) (P : Symbol → Type 0) (rule : ReadRule) (values : List Value) (theory : ReadTheory) (gathered : Gathered) → IsGathered [] gathered
    → IsPart symbols P rule values theory 0 gathered
no_part symbols P rule values theory gathered g = record {
  all = [];
  together = g;
  each = tt;
  known = tt;
  whole = λ k other h l. absurd (omega (arith, l));
  settled = λ k other h l. absurd (omega (arith, l));
}

-- THE PLANS OF ELEMENTS

pub zip_at : (R : ReadElement → Plan → Type 0) (elements : List TheoryElement) (plans : List Plan) (i : ℕ) (e : TheoryElement) (plan : Plan) → AllZip R (map element_read elements) plans
    → e ≡ get_or elements i e → plan ≡ get_or plans i plan → i < length plans → R (element_read e) plan × (slice_get (map element_read elements) i ≡ Some (element_read e))
zip_at R [] [] i e plan z p q l = absurd (omega (arith, l))
zip_at R [] (x ∷ plans) i e plan z p q l = absurd z
zip_at R (d ∷ elements) [] i e plan z p q l = absurd z
zip_at R (d ∷ elements) (x ∷ plans) zero e plan z p q l =
    (subst (λ (y : Plan). R (element_read e) y) (sym q) (subst (λ (y : TheoryElement). R (element_read y) x) (sym p) z.0), ap (λ (y : TheoryElement). Some (element_read y)) (sym p))
zip_at R (d ∷ elements) (x ∷ plans) (suc i) e plan z p q l = zip_at R elements plans i e plan z.1 p q (omega (arith, l))

pub zip_length : {X Y : Type 0} (R : X → Y → Type 0) (xs : List X) (ys : List Y) → AllZip R xs ys → length xs ≡ length ys
zip_length R [] [] z = refl
zip_length R [] (y ∷ ys) z = absurd z
zip_length R (x ∷ xs) [] z = absurd z
zip_length R (x ∷ xs) (y ∷ ys) z = let r = zip_length R xs ys z.1 in omega (arith, r)
