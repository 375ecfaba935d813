-- What is gathered says whether a theory atom is linear, and has its tuples and its ranges.
use Rattle.std.proofs.Common.{◌≡◌, inl, inr, Bool, true, false, not, ◌||◌, ◌&&◌, ℤ, pos, List, [], ◌∷◌, map, Option, None, Some, refl, sym, ◌∙◌, ap, subst, true≢false, arith}
use Rattle.std.specs.List.{AllZip, flat_map, list_any}
use Rattle.std.specs.Ordering.{int_eq}
use Rattle.std.proofs.lemmas.Int.{ints}
use Rattle.symbols.specs.Symbol.{Symbol, Number}
use Rattle.symbols.specs.declared.rel.Rel.{Rel}
use Rattle.syntax_tree.specs.declared.literal.Guard.{Guard}
use Rattle.syntax_tree.specs.declared.literal.TheoryName.{TheoryName}
use Rattle.syntax_tree.specs.declared.literal.TheoryName.TheVariants as name
use Rattle.syntax_tree.specs.declared.term.Term.{Term}
use Rattle.syntax_tree.specs.Outcome.{Outcome, IsSymbol}
use Rattle.syntax_tree.specs.Value.{value_of}
use Rattle.ground_model.specs.Members.{IsMember, IsListOf}
use Rattle.ground_model.specs.Rule.{LinearOf, PlaceOf}
use Rattle.ground_model.proofs.Bools.{and_elim}
use Rattle.ground_model.proofs.MemberLemmas.{property_member}
use Rattle.program_meaning.specs.declared.collected.CollectedPlace.{CollectedPlace}
use Rattle.program_meaning.specs.Read.{ReadElement, ReadTheory, ReadRule}
use Rattle.program_meaning.specs.Substitution.{Value, Key}
use Rattle.program_meaning.specs.Collected.{Collected, collected, variable_form}
use Rattle.program_meaning.specs.Comparison.{IsSpan, SpanUndefined, span_of}
use Rattle.program_meaning.specs.Said.{linear_in, place_in}
use Rattle.program_meaning.specs.Theory.{HasForm, HasDuration, HasTuple, element_not_linear, first_large, guard_not_linear, is_one_variable, is_no_variable}
use Rattle.program_meaning.specs.Instance.{bound_in, bound_in_element, IsRelevantElement}
use Rattle.program_meaning.specs.Tuples.{IsTuple, IsRange}
use Rattle.program_meaning.proofs.Lists.{flat_to, flat_from}
use Rattle.collected_elements.specs.declared.judged.JudgedElement.{JudgedElement}
use Rattle.collected_elements.specs.declared.judged.JudgedElement.TheVariants as element
use Rattle.collected_elements.specs.declared.judged.JudgedTerm.{JudgedTerm}
use Rattle.collected_elements.specs.declared.judged.JudgedTerm.TheVariants as term
use Rattle.collected_elements.specs.Judged.{IsJudgedBy, IsJudged}
use Rattle.collected_elements.proofs.ElementLemmas.{first_large_is}
use Rattle.theory_laws.specs.Collecting.{IsAtomNotLinear, GuardIsNotLinear, ElementIsNotLinear, IsAtomLarge, ElementIsLarge, IsOneVariable}
use Rattle.collected_atoms.specs.declared.atom.CollectedGuard.{CollectedGuard}
use Rattle.collected_atoms.specs.declared.gathering.Gathered.{Gathered}
use Rattle.collected_atoms.specs.declared.gathering.JudgedGuard.{JudgedGuard}
use Rattle.collected_atoms.specs.declared.settling.SettledGuard.{SettledGuard}
use Rattle.collected_atoms.specs.Said.{guard_in}
use Rattle.collected_atoms.specs.Gathering.{is_crooked, is_large, places_of, ranges_of, IsGathered, IsGuardJudged, IsInstanceJudged, AreJudged}
use Rattle.collected_atoms.specs.inner.Settled.{IsCrookedTerm, IsCrooked, IsSettledBy, IsSettledOf, IsGuardIn, IsLinear}

-- A TUPLE IS ONE

some_number : (m n : ℤ) → IsSymbol (Number m) ≡ IsSymbol (Number n) → m ≡ n
some_number m n e = cc

one_duration : (bound : List Outcome) (d : Option Term) (m n : ℤ) → HasDuration bound d m → HasDuration bound d n → m ≡ n
one_duration bound None m n p q = p ∙ sym q
one_duration bound (Some t) m n p q = some_number m n (sym p.0 ∙ q.0)

one_symbol : (a b : Symbol) → IsSymbol a ≡ IsSymbol b → a ≡ b
one_symbol a b e = cc

one_rest : (bound : List Outcome) (terms : List Term) (xs ys : List Symbol) → AllZip (λ t s. value_of bound t ≡ IsSymbol s) terms xs → AllZip (λ t s. value_of bound t ≡ IsSymbol s) terms ys
    → xs ≡ ys
one_rest bound [] [] [] p q = refl
one_rest bound [] [] (y ∷ ys) p q = absurd q
one_rest bound [] (x ∷ xs) ys p q = absurd p
one_rest bound (t ∷ terms) [] ys p q = absurd p
one_rest bound (t ∷ terms) (x ∷ xs) [] p q = absurd q
one_rest bound (t ∷ terms) (x ∷ xs) (y ∷ ys) p q =
    let here = one_symbol x y (sym p.0 ∙ q.0) in
    let rest = one_rest bound terms xs ys p.1 q.1 in
    λ i. here i ∷ rest i

one_tuple : (bound : List Outcome) (read : ReadElement) (p q : PlaceOf Symbol) → HasTuple bound read p → HasTuple bound read q → p ≡ q
one_tuple bound read p q h k =
    let linear = sym h.linear.same ∙ k.linear.same in
    let duration = one_duration bound read.duration p.duration q.duration h.duration k.duration in
    let rest = one_rest bound read.rest p.rest q.rest h.rest k.rest in
    λ i. record { linear = linear i; duration = duration i; rest = rest i }

one_span : (a b c d : ℤ) → IsSpan a b ≡ IsSpan c d → ◌≡◌ {A = ℤ × ℤ} (a, b) (c, d)
one_span a b c d e = cc

no_span : (a b : ℤ) → SpanUndefined ≡ IsSpan a b → ⊥
no_span a b e = cc

-- LISTS OF WHAT IS JUDGED

any_member : (test : JudgedElement → Bool) (all : List JudgedElement) → list_any test all ≡ true → (judged : JudgedElement) × IsMember all judged × (test judged ≡ true)
any_member test [] e = absurd (true≢false (sym e))
any_member test (x ∷ all) e = go (any_member test all) (test x) refl e
  where
    go : (list_any test all ≡ true → (judged : JudgedElement) × IsMember all judged × (test judged ≡ true)) → (b : Bool) → test x ≡ b → (b || list_any test all) ≡ true
        → (judged : JudgedElement) × IsMember (x ∷ all) judged × (test judged ≡ true)
    go rec true f e = (x, inl refl, f)
    go rec false f e = let r = rec e in (r.0, inr r.1, r.2)

none_member : (test : JudgedElement → Bool) (all : List JudgedElement) → list_any test all ≡ false → (judged : JudgedElement) → IsMember all judged → test judged ≡ false
none_member test [] e judged m = absurd m
none_member test (x ∷ all) e judged (inl f) = ap test f ∙ first (test x) (list_any test all) e
  where
    first : (a b : Bool) → (a || b) ≡ false → a ≡ false
    first true b e = absurd (true≢false e)
    first false b e = refl
none_member test (x ∷ all) e judged (inr m) = none_member test all (second (test x) (list_any test all) e) judged m
  where
    second : (a b : Bool) → (a || b) ≡ false → b ≡ false
    second true b e = absurd (true≢false e)
    second false b e = e

mapped : {X Y : Type 0} (f : X → Y) (xs : List X) (x : X) → IsMember xs x → IsMember (map f xs) (f x)
mapped f [] x m = m
mapped f (z ∷ xs) x (inl e) = inl (ap f e)
mapped f (z ∷ xs) x (inr m) = inr (mapped f xs x m)

unmapped : {X Y : Type 0} (f : X → Y) (xs : List X) (y : Y) → IsMember (map f xs) y → (x : X) × IsMember xs x × (y ≡ f x)
unmapped f [] y m = absurd m
unmapped f (x ∷ xs) y (inl e) = (x, inl refl, e)
unmapped f (x ∷ xs) y (inr m) = let r = unmapped f xs y m in (r.0, inr r.1, r.2)

place_member : (judged : JudgedElement) (place : CollectedPlace) → IsMember (places_of judged) place → judged ≡ element.Tuple place
place_member element.NotLinear place m = absurd m
place_member element.Large place m = absurd m
place_member element.Nothing place m = absurd m
place_member (element.Range low high) place m = absurd m
place_member (element.Tuple other) place (inl e) = ap (λ p. element.Tuple p) (sym e)
place_member (element.Tuple other) place (inr m) = absurd m

range_member : (judged : JudgedElement) (range : ℤ × ℤ) → IsMember (ranges_of judged) range → judged ≡ element.Range range.0 range.1
range_member element.NotLinear range m = absurd m
range_member element.Large range m = absurd m
range_member element.Nothing range m = absurd m
range_member (element.Tuple place) range m = absurd m
range_member (element.Range low high) range (inl e) = λ i. element.Range (sym e i).0 (sym e i).1
range_member (element.Range low high) range (inr m) = absurd m

-- THE GUARD

crooked_by : (symbols : List Symbol) (right : JudgedTerm) (found : Collected) (test : Bool) → IsCrookedTerm right → IsJudgedBy symbols right found test → test ≡ true
crooked_by symbols term.NotLinear found test c h = h.1
crooked_by symbols term.Large found test c h = absurd c
crooked_by symbols (term.Form linear) found test c h = absurd c

-- a guard that is not linear
pub guard_crooked : (symbols : List Symbol) (P : Symbol → Type 0) (rule : ReadRule) (values : List Value) (theory : ReadTheory) (guard : Option JudgedGuard) → IsCrooked guard
    → IsGuardJudged symbols theory.name (bound_in rule values) theory.guard guard → IsAtomNotLinear P rule values theory
guard_crooked symbols P rule values theory guard c h = GuardIsNotLinear (go theory.guard guard c h)
  where
    go : (written : Option Guard) (guard : Option JudgedGuard) → IsCrooked guard → IsGuardJudged symbols theory.name (bound_in rule values) written guard
        → guard_not_linear theory.name (bound_in rule values) written ≡ true
    go None None c h = absurd c
    go None (Some judged) c h = absurd h
    go (Some g) None c h = absurd h
    go (Some g) (Some judged) c h =
        crooked_by symbols judged.right (collected (bound_in rule values) g.right) (guard_not_linear theory.name (bound_in rule values) (Some g)) c h.1

settled_linear : (symbols : List Symbol) (rel : Rel) (right : JudgedTerm) (settled : SettledGuard) (found : Collected) (test : Bool) → IsSettledBy rel right settled
    → IsJudgedBy symbols right found test → test ≡ false
settled_linear symbols rel term.NotLinear settled found test s h = absurd s
settled_linear symbols rel term.Large settled found test s h = h.1
settled_linear symbols rel (term.Form linear) settled found test s h = h.0

guard_linear : (symbols : List Symbol) (kind : TheoryName) (bound : List Outcome) (written : Option Guard) (guard : Option JudgedGuard) (settled : SettledGuard) → IsSettledOf guard settled
    → IsGuardJudged symbols kind bound written guard → guard_not_linear kind bound written ≡ false
guard_linear symbols kind bound None guard settled s h = refl
guard_linear symbols kind bound (Some g) None settled s h = absurd h
guard_linear symbols kind bound (Some g) (Some judged) settled s h =
    settled_linear symbols judged.rel judged.right settled (collected bound g.right) (guard_not_linear kind bound (Some g)) s h.1

guard_settled : (symbols : List Symbol) (kind : TheoryName) (bound : List Outcome) (written : Option Guard) (guard : Option JudgedGuard) (settled : SettledGuard) → IsSettledOf guard settled
    → IsGuardJudged symbols kind bound written guard → IsGuardIn symbols bound written settled.large settled.guard
guard_settled symbols kind bound None None settled s h = subst (IsGuardIn symbols bound None settled.large) (sym s.1) s.0
guard_settled symbols kind bound None (Some judged) settled s h = absurd h
guard_settled symbols kind bound (Some g) None settled s h = absurd h
guard_settled symbols kind bound (Some g) (Some judged) settled s h = go judged.right s h.1
  where
    go : (right : JudgedTerm) → IsSettledBy judged.rel right settled → IsJudgedBy symbols right (collected bound g.right) (guard_not_linear kind bound (Some g))
        → IsGuardIn symbols bound (Some g) settled.large settled.guard
    go term.NotLinear s k = absurd s
    go term.Large s k = subst (IsGuardIn symbols bound (Some g) settled.large) (sym s.1) (s.0, k.2)
    go (term.Form linear) s k = subst (IsGuardIn symbols bound (Some g) settled.large) (sym s.1) (s.0, h.0, k.1)

-- one variable
one_pair : (ps : List (Symbol × ℤ)) (constant : ℤ) → is_one_variable (record { pairs = ps; constant = constant }) ≡ true
    → (x : Symbol) × (record { pairs = ps; constant = constant } ≡ variable_form x)
one_pair [] constant e = absurd (true≢false (sym e))
one_pair (p ∷ []) constant e = let both = and_elim _ _ e in (p.0, λ i. record { pairs = (p.0, is_one p.1 both.0 i) ∷ []; constant = is_zero constant both.1 i })
  where
    is_one : (z : ℤ) → int_eq z (pos 1) ≡ true → z ≡ pos 1
    is_one z e = grind (arith, ints)

    is_zero : (z : ℤ) → int_eq z (pos 0) ≡ true → z ≡ pos 0
    is_zero z e = grind (arith, ints)
one_pair (p ∷ q ∷ ps) constant e = absurd (true≢false (sym e))

variable_by : (term : Collected) (form : LinearOf Symbol) → HasForm term form → (term.not_linear || is_no_variable term) ≡ false → (x : Symbol) × (form ≡ variable_form x)
variable_by term form h e = let r = one_pair form.pairs form.constant (sure (is_one_variable form) one) in (r.0, r.1)
  where
    sure : (b : Bool) → (b ≡ false → ⊥) → b ≡ true
    sure true n = refl
    sure false n = absurd (n refl)

    last : (a l b : Bool) → a ≡ false → l ≡ false → (a || (not l && not b)) ≡ false → b ≡ false → ⊥
    last true l b p q e f = true≢false p
    last false true b p q e f = true≢false q
    last false false true p q e f = true≢false f
    last false false false p q e f = true≢false e

    one : is_one_variable form ≡ false → ⊥
    one f = last term.not_linear term.large (is_one_variable term.form) h.linear h.small e (ap is_one_variable h.same ∙ f)

guard_variable : (symbols : List Symbol) (bound : List Outcome) (written : Option Guard) (large : Bool) (guard : Option CollectedGuard) → IsGuardIn symbols bound written large guard
    → guard_not_linear name.Dom bound written ≡ false → IsOneVariable (guard_in symbols guard)
guard_variable symbols bound written large None h e = tt
guard_variable symbols bound None large (Some right) h e = absurd h
guard_variable symbols bound (Some g) large (Some right) h e = variable_by (collected bound g.right) (linear_in symbols right.right) h.2 e

-- A THEORY ATOM THAT IS LINEAR

module _ (symbols : List Symbol) (P : Symbol → Type 0) (rule : ReadRule) (values : List Value) (theory : ReadTheory)
    (all : List JudgedElement) (guard : Option JudgedGuard) (judged : AreJudged symbols P rule values theory all guard) where
  abbrev bound_at : ReadElement → Key → List Outcome
  bound_at read key = bound_in_element rule values read key.values

  -- an element that is not linear
  pub element_crooked : list_any is_crooked all ≡ true → IsAtomNotLinear P rule values theory
  element_crooked e = let r = any_member is_crooked all e in go r.0 (property_member (IsInstanceJudged symbols P rule values theory) all r.0 judged.each r.1) r.2
    where
      go : (one : JudgedElement) → IsInstanceJudged symbols P rule values theory one → is_crooked one ≡ true → IsAtomNotLinear P rule values theory
      go element.NotLinear h e = ElementIsNotLinear h.key h.element h.relevant h.comes.1
      go element.Large h e = absurd (true≢false (sym e))
      go element.Nothing h e = absurd (true≢false (sym e))
      go (element.Tuple place) h e = absurd (true≢false (sym e))
      go (element.Range low high) h e = absurd (true≢false (sym e))

  element_large : list_any is_large all ≡ true → IsAtomLarge P rule values theory
  element_large e = let r = any_member is_large all e in go r.0 (property_member (IsInstanceJudged symbols P rule values theory) all r.0 judged.each r.1) r.2
    where
      go : (one : JudgedElement) → IsInstanceJudged symbols P rule values theory one → is_large one ≡ true → IsAtomLarge P rule values theory
      go element.Large h e = ElementIsLarge h.key h.element h.relevant h.comes.1
      go element.NotLinear h e = absurd (true≢false (sym e))
      go element.Nothing h e = absurd (true≢false (sym e))
      go (element.Tuple place) h e = absurd (true≢false (sym e))
      go (element.Range low high) h e = absurd (true≢false (sym e))

  module _ (linear : list_any is_crooked all ≡ false) where
    -- what a relevant instance comes to, which is linear
    clear_element : (key : Key) (read : ReadElement) → IsRelevantElement P rule values theory key read → element_not_linear theory.name (bound_at read key) read ≡ false
    clear_element key read relevant = let r = judged.whole key read relevant in go r.0 r.2 (none_member is_crooked all linear r.0 r.1)
      where
        go : (one : JudgedElement) → IsJudged symbols theory.name (bound_at read key) read one → is_crooked one ≡ false → element_not_linear theory.name (bound_at read key) read ≡ false
        go element.NotLinear h e = absurd (true≢false e)
        go element.Large h e = h.0.linear
        go element.Nothing h e = h.0.linear
        go (element.Tuple place) h e = h.0.linear
        go (element.Range low high) h e = h.0.linear

    all_linear : (settled : SettledGuard) → IsSettledOf guard settled → IsAtomNotLinear P rule values theory → ⊥
    all_linear settled s (GuardIsNotLinear e) = true≢false (sym e ∙ guard_linear symbols theory.name (bound_in rule values) theory.guard guard settled s judged.guard_is)
    all_linear settled s (ElementIsNotLinear key read relevant e) = true≢false (sym e ∙ clear_element key read relevant)

    none_large : list_any is_large all ≡ false → (key : Key) (read : ReadElement) → IsRelevantElement P rule values theory key read → first_large theory.name (bound_at read key) read.first ≡ true → ⊥
    none_large n key read relevant e =
        let r = judged.whole key read relevant in go r.0 r.2 (none_member is_crooked all linear r.0 r.1) (none_member is_large all n r.0 r.1)
      where
        dom_large : (kind : TheoryName) → kind ≡ name.Dom → first_large kind (bound_at read key) read.first ≡ false
        dom_large kind d = ap (λ k. first_large k (bound_at read key) read.first) d

        go : (one : JudgedElement) → IsJudged symbols theory.name (bound_at read key) read one → is_crooked one ≡ false → is_large one ≡ false → ⊥
        go element.NotLinear h c l = true≢false c
        go element.Large h c l = true≢false l
        go element.Nothing h c l = true≢false (sym e ∙ h.1.small)
        go (element.Tuple place) h c l = true≢false (sym e ∙ h.1)
        go (element.Range low high) h c l = true≢false (sym e ∙ dom_large theory.name h.1)

    tuple_listed : (theory.name ≡ name.Dom → ⊥) → (place : PlaceOf Symbol) → IsTuple P rule values theory place → IsMember (map (place_in symbols) (flat_map places_of all)) place
    tuple_listed other place t =
        let key = t.0 in let read = t.1 in
        let r = judged.whole key read t.2 in go key read t.3 r.0 r.1 r.2 (none_member is_crooked all linear r.0 r.1)
      where
        go : (key : Key) (read : ReadElement) → HasTuple (bound_at read key) read place → (one : JudgedElement) → IsMember all one → IsJudged symbols theory.name (bound_at read key) read one
            → is_crooked one ≡ false → IsMember (map (place_in symbols) (flat_map places_of all)) place
        go key read tuple element.NotLinear m h c = absurd (true≢false c)
        go key read tuple element.Large m h c = absurd (true≢false (sym h.1 ∙ first_large_is theory.name other (bound_at read key) read.first ∙ tuple.linear.small))
        go key read tuple element.Nothing m h c = absurd (h.1.no_tuple other place tuple)
        go key read tuple (element.Range low high) m h c = absurd (other h.1)
        go key read tuple (element.Tuple found) m h c =
            subst (IsMember (map (place_in symbols) (flat_map places_of all))) (one_tuple (bound_at read key) read (place_in symbols found) place h.3 tuple)
            (mapped (place_in symbols) (flat_map places_of all) found (flat_to places_of all (element.Tuple found) found m (inl refl)))

    listed_tuple : (place : PlaceOf Symbol) → IsMember (map (place_in symbols) (flat_map places_of all)) place → IsTuple P rule values theory place
    listed_tuple place m =
        let p = unmapped (place_in symbols) (flat_map places_of all) place m in
        let f = flat_from places_of all p.0 p.1 in
        let h = property_member (IsInstanceJudged symbols P rule values theory) all f.0 judged.each f.1 in
        let is = subst (IsJudged symbols theory.name (bound_at h.element h.key) h.element) (place_member f.0 p.0 f.2) h.comes in
        (h.key, h.element, h.relevant, subst (HasTuple (bound_at h.element h.key) h.element) (sym p.2) is.3)

    range_listed : theory.name ≡ name.Dom → (range : ℤ × ℤ) → IsRange P rule values theory range → IsMember (flat_map ranges_of all) range
    range_listed dom range t =
        let key = t.0 in let read = t.1 in
        let r = judged.whole key read t.2 in go key read t.3 r.0 r.1 r.2 (none_member is_crooked all linear r.0 r.1)
      where
        go : (key : Key) (read : ReadElement) → span_of (bound_at read key) read.first ≡ IsSpan range.0 range.1 → (one : JudgedElement) → IsMember all one
            → IsJudged symbols theory.name (bound_at read key) read one → is_crooked one ≡ false → IsMember (flat_map ranges_of all) range
        go key read span element.NotLinear m h c = absurd (true≢false c)
        go key read span element.Large m h c = absurd (true≢false (sym h.1 ∙ ap (λ k. first_large k (bound_at read key) read.first) dom))
        go key read span element.Nothing m h c = absurd (no_span range.0 range.1 (sym (h.1.no_ends dom) ∙ span))
        go key read span (element.Tuple place) m h c = absurd (h.2 dom)
        go key read span (element.Range low high) m h c =
            subst (IsMember (flat_map ranges_of all)) (one_span low high range.0 range.1 (sym h.2 ∙ span)) (flat_to ranges_of all (element.Range low high) (low, high) m (inl refl))

    listed_range : (range : ℤ × ℤ) → IsMember (flat_map ranges_of all) range → IsRange P rule values theory range
    listed_range range m =
        let f = flat_from ranges_of all range m in
        let h = property_member (IsInstanceJudged symbols P rule values theory) all f.0 judged.each f.1 in
        let is = subst (IsJudged symbols theory.name (bound_at h.element h.key) h.element) (range_member f.0 range f.2) h.comes in
        (h.key, h.element, h.relevant, is.2)

    -- all of it, of what is put together
    pub is_linear : (gathered : Gathered) → IsGathered all gathered → (settled : SettledGuard) → IsSettledOf guard settled → IsLinear symbols P rule values theory gathered settled
    is_linear gathered g settled s =
        let guarded = guard_settled symbols theory.name (bound_in rule values) theory.guard guard settled s judged.guard_is in
        record {
          over = judged.settled;
          linear = all_linear settled s;
          tuples = λ other. subst (λ (ps : List CollectedPlace). IsListOf (IsTuple P rule values theory) (map (place_in symbols) ps)) (sym g.places) (λ place. (listed_tuple place, tuple_listed other place));
          ranges = λ dom. subst (λ (rs : List (ℤ × ℤ)). IsListOf (IsRange P rule values theory) rs) (sym g.ranges) (λ range. (listed_range range, range_listed dom range));
          large = λ e. element_large (sym g.large ∙ e);
          small = λ e. none_large (sym g.large ∙ e);
          guard = guarded;
          variable = λ dom.
              guard_variable symbols (bound_in rule values) theory.guard settled.large settled.guard guarded
              (ap (λ k. guard_not_linear k (bound_in rule values) theory.guard) (sym dom) ∙ guard_linear symbols theory.name (bound_in rule values) theory.guard guard settled s judged.guard_is);
        }
