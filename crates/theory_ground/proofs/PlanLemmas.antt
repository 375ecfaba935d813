-- The elements and the guard of a theory atom whose plan is given.
use Rattle.std.proofs.Common.{◌≡◌, ◌<◌, ◌+◌, ℕ, zero, suc, Bool, true, false, List, [], ◌∷◌, ◌++◌, map, get_or, slice_get, length, Option, None, Some, All, IsTrue, refl, sym, ◌∙◌, ap, subst, true≢false, arith}
use Rattle.std.specs.List.{AllByRecursion, AllZip, list_all, flat_map}
use Rattle.std.proofs.lemmas.List.{length-map, append-nil}
use Rattle.symbols.specs.Symbol.{Symbol}
use Rattle.symbols.specs.Table.{IsFront, IsOnce}
use Rattle.syntax_tree.specs.declared.binding.Value.{Value as HeldValue}
use Rattle.syntax_tree.specs.declared.literal.Guard.{Guard}
use Rattle.syntax_tree.specs.declared.literal.Literal.TheViews.{out-TheoryAtom}
use Rattle.syntax_tree.specs.declared.literal.TheoryElement.{TheoryElement}
use Rattle.syntax_tree.specs.declared.literal.TheoryName.{TheoryName}
use Rattle.syntax_tree.specs.Literals.{is_none_or, is_guard, is_theory_element}
use Rattle.syntax_tree.specs.Outcome.{Outcome, IsKnown}
use Rattle.syntax_tree.specs.Tree.{is_term}
use Rattle.syntax_tree.proofs.TreeRules.{theory_atom_rules}
use Rattle.ground_model.specs.Members.{IsMember, IsApart}
use Rattle.ground_model.proofs.Bools.{and_elim}
use Rattle.ground_model.proofs.MemberLemmas.{property_member}
use Rattle.match_index.specs.declared.index.Index.{Index}
use Rattle.match_index.specs.Atoms.{IsIndexOf}
use Rattle.program_meaning.specs.Ascending.{Exceeds}
use Rattle.program_meaning.specs.Read.{ReadElement, ReadTheory, ReadRule}
use Rattle.program_meaning.specs.Said.{value_in}
use Rattle.program_meaning.specs.Substitution.{Value, Key, substituted}
use Rattle.program_meaning.specs.Variables.{globals}
use Rattle.program_meaning.specs.Collected.{Collected, collected}
use Rattle.program_meaning.specs.Theory.{guard_over, guard_not_linear}
use Rattle.program_meaning.specs.Instance.{bound_in, bound_in_element, IsRelevantElement}
use Rattle.row_bindings.proofs.HeldLemmas.{values-front}
use Rattle.row_tests.specs.Judged.{atoms_in}
use Rattle.row_tests.proofs.Growing.{atoms-front}
use Rattle.instance_plans.specs.declared.plan.Plan.{Plan}
use Rattle.instance_plans.specs.Plans.{IsElementPlan, element_read}
use Rattle.instance_search.specs.Found.{plan_rows}
use Rattle.instance_search.proofs.StartLemmas.{atoms_apart}
use Rattle.plan_terms.proofs.Trees.{guard_terms, IsTermGuard}
use Rattle.theory_plans.specs.declared.plan.TheoryPlan.{TheoryPlan}
use Rattle.theory_plans.specs.Planned.{IsTheoryPlan}
use Rattle.collected_elements.specs.declared.judged.JudgedElement.{JudgedElement}
use Rattle.collected_elements.specs.declared.judged.JudgedElement.TheVariants as element
use Rattle.collected_elements.specs.declared.judged.JudgedTerm.{JudgedTerm}
use Rattle.collected_elements.specs.declared.judged.JudgedTerm.TheVariants as term
use Rattle.collected_elements.specs.Judged.{IsJudged, IsJudgedBy, IsKnownElement, IsKnownPlace}
use Rattle.theory_laws.specs.Collecting.{IsAtomOver, GuardIsOver, ElementIsOver, IsElementKey}
use Rattle.collected_atoms.specs.declared.gathering.Gathered.{Gathered}
use Rattle.collected_atoms.specs.declared.gathering.JudgedGuard.{JudgedGuard}
use Rattle.collected_atoms.specs.Gathering.{places_of, IsGuardJudged, IsInstanceJudged, AreGathered, AreKnownPlaces}
use Rattle.program_meaning.specs.declared.collected.CollectedPlace.{CollectedPlace}
use Rattle.program_meaning.proofs.Lists.{all_append}
use Rattle.theory_ground.specs.inner.Rows.{IsSomeRowOver, HasAll, IsPart, IsWhole}
use Rattle.theory_ground.proofs.RowLemmas.{judged_front, known_front, by_recursion}
use Rattle.theory_ground.proofs.PartLemmas.{theory_parts, zip_at, zip_length, row_over, rows_exceed, part_more}

module _ (rule : ReadRule) (theory : ReadTheory) (plan : TheoryPlan) (is : IsTheoryPlan rule theory plan) where
  read_is : theory ≡ record { name = (out-TheoryAtom plan.theory.now).name; elements = map element_read (out-TheoryAtom plan.theory.now).elements; guard = (out-TheoryAtom plan.theory.now).guard }
  read_is = sym is.theory_is ∙ theory_parts plan.theory.now

  pub name_is : theory.name ≡ (out-TheoryAtom plan.theory.now).name
  name_is = ap (λ (t : ReadTheory). t.name) read_is

  pub guard_is : theory.guard ≡ (out-TheoryAtom plan.theory.now).guard
  guard_is = ap (λ (t : ReadTheory). t.guard) read_is

  elements_are : theory.elements ≡ map element_read (out-TheoryAtom plan.theory.now).elements
  elements_are = ap (λ (t : ReadTheory). t.elements) read_is

  pub count_is : length theory.elements ≡ length plan.elements
  count_is = zip_length (IsElementPlan rule) theory.elements plan.elements is.elements

  module _ (elements : List TheoryElement) (same : elements ≡ (out-TheoryAtom plan.theory.now).elements) (plans : List Plan) (same_plans : plans ≡ plan.elements) where
    zip : AllZip (IsElementPlan rule) (map element_read elements) plans
    zip =
        subst (λ (ps : List Plan). AllZip (IsElementPlan rule) (map element_read elements) ps) (sym same_plans)
        (subst (λ (es : List TheoryElement). AllZip (IsElementPlan rule) (map element_read es) plan.elements) (sym same)
        (subst (λ (rs : List ReadElement). AllZip (IsElementPlan rule) rs plan.elements) elements_are is.elements))

    pub elements_length : length elements ≡ length plans
    elements_length = sym (length-map elements element_read) ∙ zip_length (IsElementPlan rule) (map element_read elements) plans zip

    pub element_plan : (i : ℕ) (x : TheoryElement) (p : Plan) → x ≡ get_or elements i x → p ≡ get_or plans i p → i < length plans → IsElementPlan rule (element_read x) p
    element_plan i x p px pp below = (zip_at (IsElementPlan rule) elements plans i x p zip px pp below).0

    pub element_place : (i : ℕ) (x : TheoryElement) (p : Plan) → x ≡ get_or elements i x → p ≡ get_or plans i p → i < length plans → slice_get theory.elements i ≡ Some (element_read x)
    element_place i x p px pp below =
        ap (λ (rs : List ReadElement). slice_get rs i) (elements_are ∙ ap (λ (es : List TheoryElement). map element_read es) (sym same))
        ∙ (zip_at (IsElementPlan rule) elements plans i x p zip px pp below).1

    pub element_tree : (i : ℕ) (x : TheoryElement) → x ≡ get_or elements i x → i < length elements → IsTrue (is_theory_element x)
    element_tree i x px below =
        at elements i px below
        (subst (λ (es : List TheoryElement). list_all (λ b. b) (map is_theory_element es) ≡ true) (sym same)
        (and_elim (list_all (λ b. b) (map is_theory_element (out-TheoryAtom plan.theory.now).elements)) (is_none_or is_guard (out-TheoryAtom plan.theory.now).guard)
        (sym (theory_atom_rules plan.theory.now) ∙ is.tree)).0)
      where
        at : (es : List TheoryElement) (i : ℕ) → x ≡ get_or es i x → i < length es → list_all (λ b. b) (map is_theory_element es) ≡ true → is_theory_element x ≡ true
        at [] i px below e = absurd (omega (arith, below))
        at (y ∷ es) zero px below e = ap is_theory_element px ∙ (and_elim (is_theory_element y) (list_all (λ b. b) (map is_theory_element es)) e).0
        at (y ∷ es) (suc i) px below e = at es i px (omega (arith, below)) (and_elim (is_theory_element y) (list_all (λ b. b) (map is_theory_element es)) e).1

  pub guard_tree : (guard : Guard) → (out-TheoryAtom plan.theory.now).guard ≡ Some guard → IsTrue (is_term guard.right)
  guard_tree guard e =
      subst IsTermGuard e
      (guard_terms (out-TheoryAtom plan.theory.now).guard
      (and_elim (list_all (λ b. b) (map is_theory_element (out-TheoryAtom plan.theory.now).elements)) (is_none_or is_guard (out-TheoryAtom plan.theory.now).guard)
      (sym (theory_atom_rules plan.theory.now) ∙ is.tree)).1)

  -- the binding of the global variables alone
  pub start_bound : (symbols : List Symbol) (given : List HeldValue) (bound : List Outcome)
      → bound ≡ substituted plan.start.count (plan.start.given ++ plan.start.variables) (map (value_in symbols) given ++ []) → bound ≡ bound_in rule (map (value_in symbols) given)
  start_bound symbols given bound e =
      e
      ∙ (λ i. substituted (is.count i) (is.given i ++ is.variables i) (map (value_in symbols) given ++ []))
      ∙ (λ i. substituted (length rule.order) (append-nil (globals rule) i) (append-nil (map (value_in symbols) given) i))

-- AN ELEMENT

module _ (old now : List Symbol) (index : Index) (given : List HeldValue) (rule : ReadRule) (theory : ReadTheory) (plan : TheoryPlan) (is : IsTheoryPlan rule theory plan)
    (each : length given ≡ length (globals rule)) (elements : List TheoryElement) (same : elements ≡ (out-TheoryAtom plan.theory.now).elements) (plans : List Plan)
    (same_plans : plans ≡ plan.elements) (i : ℕ) (x : TheoryElement) (p : Plan) (px : x ≡ get_or elements i x) (pp : p ≡ get_or plans i p) (below : i < length plans)
    (front : IsFront old now) (indexed : IsIndexOf old index) (once : IsOnce old) (known : All (λ v. IsKnown (length old) (Some v)) given) where
  abbrev values : List Value
  values = map (value_in old) given

  abbrev atoms : List Symbol
  atoms = atoms_in old index

  values_same : map (value_in now) given ≡ map (value_in old) given
  values_same = values-front old now given front (by_recursion (λ (v : HeldValue). IsKnown (length old) (Some v)) given known)

  atoms_same : atoms_in now index ≡ atoms_in old index
  atoms_same = atoms-front old now index front indexed

  values_each : length (map (value_in old) given) ≡ length (globals rule)
  values_each = length-map given (value_in old) ∙ each

  apart : IsApart (atoms_in old index)
  apart = atoms_apart old index once indexed

  rows_same : plan_rows (atoms_in now index) p (map (value_in now) given) ≡ plan_rows (atoms_in old index) p (map (value_in old) given)
  rows_same = λ j. plan_rows (atoms_same j) p (values_same j)

  is_plan : IsElementPlan rule (element_read x) p
  is_plan = element_plan rule theory plan is elements same plans same_plans i x p px pp below

  at : slice_get theory.elements i ≡ Some (element_read x)
  at = element_place rule theory plan is elements same plans same_plans i x p px pp below

  pub there_over : IsSomeRowOver (out-TheoryAtom plan.theory.now).name (element_read x) p (map (value_in now) given) (plan_rows (atoms_in now index) p (map (value_in now) given))
      → IsAtomOver (IsMember (atoms_in old index)) rule (map (value_in old) given) theory
  there_over h =
      row_over (atoms_in old index) rule (map (value_in old) given) theory i (element_read x) p at is_plan values_each apart
      (subst (λ (rs : List (List Value)). IsSomeRowOver theory.name (element_read x) p (map (value_in old) given) rs) rows_same
      (subst (λ (vs : List Value). IsSomeRowOver theory.name (element_read x) p vs (plan_rows (atoms_in now index) p (map (value_in now) given))) values_same
      (subst (λ (k : TheoryName). IsSomeRowOver k (element_read x) p (map (value_in now) given) (plan_rows (atoms_in now index) p (map (value_in now) given))) (sym (name_is rule theory plan is)) h)))

  pub there_many : (limit : ℕ) → limit < length (plan_rows (atoms_in now index) p (map (value_in now) given))
      → Exceeds (IsElementKey (IsMember (atoms_in old index)) rule (map (value_in old) given) theory) limit
  there_many limit more =
      rows_exceed (atoms_in old index) rule (map (value_in old) given) theory i (element_read x) p at is_plan values_each apart limit
      (subst (λ (rs : List (List Value)). limit < length rs) rows_same more)

  pub there_more : (new : List Symbol) (before after : Gathered) → IsFront now new → IsPart now (IsMember (atoms_in old index)) rule (map (value_in old) given) theory i before
      → HasAll new (out-TheoryAtom plan.theory.now).name (element_read x) p (map (value_in now) given) (plan_rows (atoms_in now index) p (map (value_in now) given)) before after
      → IsPart new (IsMember (atoms_in old index)) rule (map (value_in old) given) theory (i + 1) after
  there_more new before after more part has =
      part_more (atoms_in old index) rule (map (value_in old) given) theory i (element_read x) p at is_plan values_each apart now new before after more part
      (subst (λ (rs : List (List Value)). HasAll new theory.name (element_read x) p (map (value_in old) given) rs before after) rows_same
      (subst (λ (vs : List Value). HasAll new theory.name (element_read x) p vs (plan_rows (atoms_in now index) p (map (value_in now) given)) before after) values_same
      (subst (λ (k : TheoryName). HasAll new k (element_read x) p (map (value_in now) given) (plan_rows (atoms_in now index) p (map (value_in now) given)) before after)
      (sym (name_is rule theory plan is)) has)))

-- ALL OF IT

-- what is gathered names symbols of the table
pub whole_known : (symbols : List Symbol) (P : Symbol → Type 0) (rule : ReadRule) (values : List Value) (theory : ReadTheory) (gathered : Gathered) → IsWhole symbols P rule values theory gathered
    → AreKnownPlaces symbols gathered.places
whole_known symbols P rule values theory gathered h = subst (AreKnownPlaces symbols) (sym h.together.places) (go h.all h.known)
  where
    one : (judged : JudgedElement) → IsKnownElement symbols judged → AreKnownPlaces symbols (places_of judged)
    one element.NotLinear k = tt
    one element.Large k = tt
    one element.Nothing k = tt
    one (element.Range low high) k = tt
    one (element.Tuple place) k = (k, tt)

    go : (all : List JudgedElement) → AllByRecursion (IsKnownElement symbols) all → AreKnownPlaces symbols (flat_map places_of all)
    go [] k = tt
    go (j ∷ all) k = all_append (IsKnownPlace symbols) (places_of j) (flat_map places_of all) (one j k.0) (go all k.1)

pub places_front : (old new : List Symbol) → IsFront old new → (places : List CollectedPlace) → AreKnownPlaces old places → AreKnownPlaces new places
places_front old new front [] known = tt
places_front old new front (place ∷ places) known = (known_front old new front (element.Tuple place) known.0, places_front old new front places known.1)

by_settled : (symbols : List Symbol) (right : JudgedTerm) (found : Collected) (test : Bool) → IsJudgedBy symbols right found test → found.over ≡ false
by_settled symbols term.NotLinear found test h = h.0
by_settled symbols term.Large found test h = h.0
by_settled symbols (term.Form linear) found test h = h.1.settled

guard_settled : (symbols : List Symbol) (kind : TheoryName) (bound : List Outcome) (written : Option Guard) (guard : Option JudgedGuard) → IsGuardJudged symbols kind bound written guard
    → guard_over bound written ≡ false
guard_settled symbols kind bound None guard h = refl
guard_settled symbols kind bound (Some g) None h = absurd h
guard_settled symbols kind bound (Some g) (Some judged) h = by_settled symbols judged.right (collected bound g.right) (guard_not_linear kind bound (Some g)) h.1

place_below : {X : Type 0} (xs : List X) (n : ℕ) (x : X) → slice_get xs n ≡ Some x → n < length xs
place_below [] n x e = absurd (none e)
  where
    none : {X : Type 0} {x : X} → None ≡ Some x → ⊥
    none e = cc
place_below (y ∷ xs) zero x e = omega arith
place_below (y ∷ xs) (suc n) x e = let l = place_below xs n x e in omega (arith, l)

pub whole_gathered : (old new : List Symbol) → IsFront old new → (P : Symbol → Type 0) (rule : ReadRule) (values : List Value) (theory : ReadTheory) (gathered : Gathered) (guard : Option JudgedGuard)
    → IsWhole old P rule values theory gathered → IsGuardJudged new theory.name (bound_in rule values) theory.guard guard → AreGathered new P rule values theory gathered guard
whole_gathered old new front P rule values theory gathered guard h g = record {
  all = h.all;
  together = h.together;
  judged = record {
    settled = settled;
    each = each h.all h.each h.known;
    whole = λ key read relevant. whole key read relevant;
    guard_is = g;
  };
}
  where
    settled : IsAtomOver P rule values theory → ⊥
    settled (GuardIsOver e) = true≢false (sym e ∙ guard_settled new theory.name (bound_in rule values) theory.guard guard g)
    settled (ElementIsOver key read relevant e) = true≢false (sym e ∙ h.settled key read relevant (place_below theory.elements key.place read relevant.place))

    each : (all : List JudgedElement) → AllByRecursion (IsInstanceJudged old P rule values theory) all → AllByRecursion (IsKnownElement old) all
        → AllByRecursion (IsInstanceJudged new P rule values theory) all
    each [] a k = tt
    each (j ∷ all) a k = (
      record {
        key = a.0.key;
        element = a.0.element;
        relevant = a.0.relevant;
        comes = judged_front old new front theory.name (bound_in_element rule values a.0.element a.0.key.values) a.0.element j k.0 a.0.comes;
      },
      each all a.1 k.1,
    )

    whole : (key : Key) (read : ReadElement) → IsRelevantElement P rule values theory key read
        → (judged : JudgedElement) × IsMember h.all judged × IsJudged new theory.name (bound_in_element rule values read key.values) read judged
    whole key read relevant =
        let r = h.whole key read relevant (place_below theory.elements key.place read relevant.place) in (
          r.0,
          r.1,
          judged_front old new front theory.name (bound_in_element rule values read key.values) read r.0
              (property_member (IsKnownElement old) h.all r.0 h.known r.1) r.2,
        )
