-- The answer of a theory atom, from what is known of it.
use Rattle.std.proofs.Common.{◌≡◌, ◌⊎◌, ◌↔◌, inl, inr, ◌<◌, ◌≤◌, ℕ, nat_le, Bool, true, false, ◌||◌, ℤ, List, [], map, length, Option, None, Some, refl, sym, ◌∙◌, ap, subst, true≢false, arith}
use Rattle.std.proofs.lemmas.Bool.Decides.{nat_tests}
use Rattle.symbols.specs.Symbol.{Symbol}
use Rattle.symbols.specs.Table.{symbol_at}
use Rattle.symbols.specs.declared.rel.Rel.{Rel}
use Rattle.syntax_tree.specs.declared.literal.Guard.{Guard}
use Rattle.syntax_tree.specs.declared.literal.TheoryName.{TheoryName}
use Rattle.syntax_tree.specs.declared.literal.TheoryName.TheVariants as name
use Rattle.syntax_tree.specs.Outcome.{Outcome}
use Rattle.ground_model.specs.Intervals.{are_parted, lies_in}
use Rattle.ground_model.specs.Members.{IsMember}
use Rattle.ground_model.specs.Rule.{LinearOf, PlaceOf}
use Rattle.ground_model.specs.Sound.{most}
use Rattle.program_meaning.specs.declared.collected.CollectedPlace.{CollectedPlace}
use Rattle.program_meaning.specs.Ascending.{IsOrderedListOf, Exceeds}
use Rattle.program_meaning.specs.Read.{ReadTheory, ReadRule}
use Rattle.program_meaning.specs.Substitution.{Value}
use Rattle.program_meaning.specs.Collected.{collected, is_small_form}
use Rattle.program_meaning.specs.Said.{linear_in, place_in}
use Rattle.program_meaning.specs.Theory.{HasForm, place_cmp, guard_large}
use Rattle.program_meaning.specs.Instance.{bound_in}
use Rattle.program_meaning.specs.Tuples.{IsTuple, IsRange, IsInDomain}
use Rattle.program_meaning.specs.Outside.{difference, Cause, Overflow, NotLinear, TooManyElements, TooLarge, causes_before}
use Rattle.program_meaning.proofs.Lists.{ordered_same}
use Rattle.program_meaning.proofs.Orders.{places_turn}
use Rattle.interval_sets.specs.Ranges.{range_cmp, HasIntegersOf}
use Rattle.theory_laws.specs.Collecting.{IsAtomOver, IsAtomNotLinear, HasManyElements, IsAtomLarge, GuardIsLarge, ElementIsLarge, TotalIsLarge, AtomHas, IsFirstOf, IsGuard, IsCollected}
use Rattle.collected_atoms.specs.declared.atom.CollectedGuard.{CollectedGuard}
use Rattle.collected_atoms.specs.declared.gathering.Gathered.{Gathered}
use Rattle.collected_atoms.specs.declared.settling.SettledGuard.{SettledGuard}
use Rattle.collected_atoms.specs.Said.{guard_in}
use Rattle.collected_atoms.specs.inner.Settled.{IsGuardIn, all_ids, is_small_beside, is_small_by, IsLinear, IsSized}
use Rattle.collected_atoms.proofs.SizeLemmas.{ordered_through, exceeds_along, tuples_exceed, ranges_exceed, many_tuples, many_ranges, variables_are, domain_variables}

-- FIRST CAUSES

module _ (P : Symbol → Type 0) (rule : ReadRule) (values : List Value) (theory : ReadTheory) where
  abbrev Has : Cause → Type 0
  Has cause = AtomHas P rule values theory cause

  pub first_overflow : IsAtomOver P rule values theory → IsFirstOf P rule values theory Overflow
  first_overflow h = record { has = h; first = λ other m k. absurd m }

  pub first_crooked : (IsAtomOver P rule values theory → ⊥) → IsAtomNotLinear P rule values theory → IsFirstOf P rule values theory NotLinear
  first_crooked over h = record { has = h; first = go }
    where
      go : (other : Cause) → IsMember (causes_before NotLinear) other → AtomHas P rule values theory other → ⊥
      go other (inl e) k = over (subst Has e k)
      go other (inr m) k = m

  pub first_many : (IsAtomOver P rule values theory → ⊥) → (IsAtomNotLinear P rule values theory → ⊥) → HasManyElements P rule values theory → IsFirstOf P rule values theory TooManyElements
  first_many over linear h = record { has = h; first = go }
    where
      go : (other : Cause) → IsMember (causes_before TooManyElements) other → AtomHas P rule values theory other → ⊥
      go other (inl e) k = over (subst Has e k)
      go other (inr (inl e)) k = linear (subst Has e k)
      go other (inr (inr m)) k = m

  pub first_large_total : (IsAtomOver P rule values theory → ⊥) → (IsAtomNotLinear P rule values theory → ⊥) → (HasManyElements P rule values theory → ⊥) → IsAtomLarge P rule values theory
      → IsFirstOf P rule values theory TooLarge
  first_large_total over linear few h = record { has = h; first = go }
    where
      go : (other : Cause) → IsMember (causes_before TooLarge) other → AtomHas P rule values theory other → ⊥
      go other (inl e) k = over (subst Has e k)
      go other (inr (inl e)) k = linear (subst Has e k)
      go other (inr (inr (inl e))) k = few (subst Has e k)
      go other (inr (inr (inr m))) k = m

  pub no_cause : (IsAtomOver P rule values theory → ⊥) → (IsAtomNotLinear P rule values theory → ⊥) → (HasManyElements P rule values theory → ⊥) → (IsAtomLarge P rule values theory → ⊥)
      → (cause : Cause) → AtomHas P rule values theory cause → ⊥
  no_cause over linear few small Overflow h = over h
  no_cause over linear few small NotLinear h = linear h
  no_cause over linear few small TooManyElements h = few h
  no_cause over linear few small TooLarge h = small h

-- FEW TUPLES AND FEW VARIABLES

either_true : (a b : Bool) → (a || b) ≡ true → (a ≡ true) ⊎ (b ≡ true)
either_true true b e = inl refl
either_true false b e = inr e

both_false : (a b : Bool) → (a || b) ≡ false → (a ≡ false) × (b ≡ false)
both_false true b e = absurd (true≢false e)
both_false false b e = (refl, e)

guard_is_large : (symbols : List Symbol) (bound : List Outcome) (written : Option Guard) (large : Bool) (guard : Option CollectedGuard) → IsGuardIn symbols bound written large guard → large ≡ true
    → guard_large bound written ≡ true
guard_is_large symbols bound None large None h e = absurd (true≢false (sym e ∙ h))
guard_is_large symbols bound None large (Some right) h e = absurd h
guard_is_large symbols bound (Some g) large None h e = h.1
guard_is_large symbols bound (Some g) large (Some right) h e = absurd (true≢false (sym e ∙ h.0))

guard_is_small : (symbols : List Symbol) (bound : List Outcome) (written : Option Guard) (guard : Option CollectedGuard) → IsGuardIn symbols bound written false guard → guard_large bound written ≡ false
guard_is_small symbols bound None guard h = refl
guard_is_small symbols bound (Some g) None h = absurd (true≢false (sym h.0))
guard_is_small symbols bound (Some g) (Some right) h = h.2.small

not_more : (m n : ℕ) → (m < n → ⊥) → n ≤ m
not_more m n h = go (nat_le n m) refl
  where
    go : (t : Bool) → nat_le n m ≡ t → n ≤ m
    go true e = grind (arith, nat_tests, e)
    go false e = absurd (h (grind (arith, nat_tests, e)))

module _ (symbols : List Symbol) (P : Symbol → Type 0) (rule : ReadRule) (values : List Value) (theory : ReadTheory) (gathered : Gathered) (settled : SettledGuard)
    (h : IsLinear symbols P rule values theory gathered settled) where
  sized : (HasManyElements P rule values theory → ⊥) → (large : Bool) → large ≡ (gathered.large || settled.large) → IsSized symbols P rule values theory large settled.guard
  sized few large e = record {
    over = h.over;
    linear = h.linear;
    few = few;
    is_large = λ f. by (either_true gathered.large settled.large (sym e ∙ f));
    small = λ f. h.small (both_false gathered.large settled.large (sym e ∙ f)).0;
    small_guard = λ f.
        subst (λ b. IsGuardIn symbols (bound_in rule values) theory.guard b settled.guard) (both_false gathered.large settled.large (sym e ∙ f)).1 h.guard;
    variable = h.variable;
  }
    where
      by : (gathered.large ≡ true) ⊎ (settled.large ≡ true) → IsAtomLarge P rule values theory
      by (inl f) = h.large f
      by (inr f) = GuardIsLarge (guard_is_large symbols (bound_in rule values) theory.guard settled.large settled.guard h.guard f)

  module _ (other : theory.name ≡ name.Dom → ⊥) (places : List CollectedPlace) (set : IsOrderedListOf place_cmp (IsMember (map (place_in symbols) gathered.places)) (map (place_in symbols) places)) where
    tuples : IsOrderedListOf place_cmp (IsTuple P rule values theory) (map (place_in symbols) places)
    tuples = ordered_through place_cmp (IsTuple P rule values theory) (map (place_in symbols) gathered.places) (map (place_in symbols) places) set (h.tuples other)

    pub more_tuples : most < length places → IsFirstOf P rule values theory TooManyElements
    more_tuples l =
        first_many P rule values theory h.over h.linear
        (inl ((many_tuples P rule values theory theory.name other).1 ((tuples_exceed symbols (IsTuple P rule values theory) places tuples).1 l)))

    pub more_variables : Exceeds (IsMember (map (symbol_at symbols) (all_ids places settled.guard))) most → IsFirstOf P rule values theory TooManyElements
    more_variables e =
        first_many P rule values theory h.over h.linear
        (inr (exceeds_along _ _ most (λ x. (variables_are symbols P rule values theory settled.large settled.guard h.guard other places tuples.all x).1) e))

    pub sized_tuples : (most < length places → ⊥) → (Exceeds (IsMember (map (symbol_at symbols) (all_ids places settled.guard))) most → ⊥)
        → (large : Bool) → large ≡ (gathered.large || settled.large)
        → IsSized symbols P rule values theory large settled.guard × IsOrderedListOf place_cmp (IsTuple P rule values theory) (map (place_in symbols) places)
    sized_tuples l e large is = (sized few large is, tuples)
      where
        few : HasManyElements P rule values theory → ⊥
        few (inl m) = l ((tuples_exceed symbols (IsTuple P rule values theory) places tuples).0 ((many_tuples P rule values theory theory.name other).0 m))
        few (inr m) = e (exceeds_along _ _ most (λ x. (variables_are symbols P rule values theory settled.large settled.guard h.guard other places tuples.all x).0) m)

  module _ (dom : theory.name ≡ name.Dom) (ranges : List (ℤ × ℤ)) (set : IsOrderedListOf range_cmp (IsMember gathered.ranges) ranges) where
    listed : IsOrderedListOf range_cmp (IsRange P rule values theory) ranges
    listed = ordered_through range_cmp (IsRange P rule values theory) gathered.ranges ranges set (h.ranges dom)

    pub more_ranges : most < length ranges → IsFirstOf P rule values theory TooManyElements
    more_ranges l =
        first_many P rule values theory h.over h.linear
        (inl ((many_ranges P rule values theory theory.name dom).1 ((ranges_exceed (IsRange P rule values theory) ranges listed).1 l)))

    pub more_domain_variables : Exceeds (IsMember (map (symbol_at symbols) (all_ids [] settled.guard))) most → IsFirstOf P rule values theory TooManyElements
    more_domain_variables e =
        first_many P rule values theory h.over h.linear
        (inr (exceeds_along _ _ most (λ x. (domain_variables symbols P rule values theory settled.large settled.guard h.guard dom x).1) e))

    pub sized_ranges : (most < length ranges → ⊥) → (Exceeds (IsMember (map (symbol_at symbols) (all_ids [] settled.guard))) most → ⊥)
        → (large : Bool) → large ≡ (gathered.large || settled.large)
        → IsSized symbols P rule values theory large settled.guard × IsOrderedListOf range_cmp (IsRange P rule values theory) ranges × (length ranges ≤ most)
    sized_ranges l e large is = (sized few large is, listed, not_more most (length ranges) l)
      where
        few : HasManyElements P rule values theory → ⊥
        few (inl m) = l ((ranges_exceed (IsRange P rule values theory) ranges listed).0 ((many_ranges P rule values theory theory.name dom).0 m))
        few (inr m) = e (exceeds_along _ _ most (λ x. (domain_variables symbols P rule values theory settled.large settled.guard h.guard dom x).0) m)

-- THE COLLECTED FORM

guard_right : (symbols : List Symbol) (bound : List Outcome) (written : Option Guard) (guard : Option CollectedGuard) → IsGuardIn symbols bound written false guard
    → IsGuard bound written (guard_in symbols guard)
guard_right symbols bound None None h = tt
guard_right symbols bound None (Some right) h = absurd h
guard_right symbols bound (Some g) None h = absurd (true≢false (sym h.0))
guard_right symbols bound (Some g) (Some right) h = (h.1, h.2)

-- a large total against this right side
total_against : (symbols : List Symbol) (bound : List Outcome) (written : Option Guard) (guard : Option CollectedGuard) (places : List (PlaceOf Symbol)) → IsGuardIn symbols bound written false guard
    → (g : Guard) → written ≡ Some g → (right : LinearOf Symbol) → HasForm (collected bound g.right) right → is_small_form (difference places right) ≡ false
    → is_small_beside places (guard_in symbols guard) ≡ false
total_against symbols bound None guard places h g e right form l = absurd (none g e)
  where
    none : (g : Guard) → None ≡ Some g → ⊥
    none g e = cc
total_against symbols bound (Some other) None places h g e right form l = absurd (true≢false (sym h.0))
total_against symbols bound (Some other) (Some held) places h g e right form l =
    let same : other ≡ g = some_same other g e in
    ap (λ (r : LinearOf Symbol). is_small_form (difference places r)) (sym h.2.same ∙ ap (λ (o : Guard). (collected bound o.right).form) same ∙ form.same) ∙ l
  where
    some_same : (a b : Guard) → Some a ≡ Some b → a ≡ b
    some_same a b e = cc

large_total : (symbols : List Symbol) (bound : List Outcome) (written : Option Guard) (guard : Option CollectedGuard) (places : List (PlaceOf Symbol)) → IsGuardIn symbols bound written false guard
    → is_small_beside places (guard_in symbols guard) ≡ false
    → (g : Guard) × (written ≡ Some g) × (right : LinearOf Symbol) × HasForm (collected bound g.right) right × (is_small_form (difference places right) ≡ false)
large_total symbols bound written None places h l = absurd (true≢false l)
large_total symbols bound None (Some held) places h l = absurd h
large_total symbols bound (Some g) (Some held) places h l = (g, refl, linear_in symbols held.right, h.2, l)

small_named : (kind : TheoryName) (places : List (PlaceOf Symbol)) (guard : Option (Rel × LinearOf Symbol)) → is_small_by kind places guard ≡ false
    → ((kind ≡ name.Sum) ⊎ (kind ≡ name.Diff)) × (is_small_beside places guard ≡ false)
small_named name.Sum places guard e = (inl refl, e)
small_named name.Diff places guard e = (inr refl, e)
small_named name.Distinct places guard e = absurd (true≢false e)
small_named name.Disjoint places guard e = absurd (true≢false e)
small_named name.Dom places guard e = absurd (true≢false e)
small_named name.Minimize places guard e = absurd (true≢false e)
small_named name.Maximize places guard e = absurd (true≢false e)
small_named name.Show places guard e = absurd (true≢false e)
small_named name.Unknown places guard e = absurd (true≢false e)

named_small : (kind : TheoryName) (places : List (PlaceOf Symbol)) (guard : Option (Rel × LinearOf Symbol)) → ((kind ≡ name.Sum) ⊎ (kind ≡ name.Diff)) → is_small_by kind places guard ≡ true
    → is_small_beside places guard ≡ true
named_small kind places guard (inl e) s = ap (λ k. is_small_by k places guard) (sym e) ∙ s
named_small kind places guard (inr e) s = ap (λ k. is_small_by k places guard) (sym e) ∙ s

module _ (symbols : List Symbol) (P : Symbol → Type 0) (rule : ReadRule) (values : List Value) (theory : ReadTheory) (large : Bool) (guard : Option CollectedGuard)
    (h : IsSized symbols P rule values theory large guard) where
  pub answer_large : large ≡ true → IsFirstOf P rule values theory TooLarge
  answer_large e = first_large_total P rule values theory h.over h.linear h.few (h.is_large e)

  module _ (small : large ≡ false) where
    guarded : IsGuardIn symbols (bound_in rule values) theory.guard false guard
    guarded = h.small_guard small

    module _ (places : List CollectedPlace) (tuples : IsOrderedListOf place_cmp (IsTuple P rule values theory) (map (place_in symbols) places)) where
      pub answer_total : is_small_by theory.name (map (place_in symbols) places) (guard_in symbols guard) ≡ false → IsFirstOf P rule values theory TooLarge
      answer_total e =
          let named = small_named theory.name (map (place_in symbols) places) (guard_in symbols guard) e in
          let t = large_total symbols (bound_in rule values) theory.guard guard (map (place_in symbols) places) guarded named.1 in
          first_large_total P rule values theory h.over h.linear h.few
          (TotalIsLarge (record { name = named.0; places = map (place_in symbols) places; tuples = tuples; guard = t.0; written = t.1; right = t.2; form = t.3; large = t.4 }))

      all_small : is_small_by theory.name (map (place_in symbols) places) (guard_in symbols guard) ≡ true → IsAtomLarge P rule values theory → ⊥
      all_small e (GuardIsLarge l) = true≢false (sym l ∙ guard_is_small symbols (bound_in rule values) theory.guard guard guarded)
      all_small e (ElementIsLarge key read relevant l) = h.small small key read relevant l
      all_small e (TotalIsLarge t) =
          let same = ordered_same place_cmp places_turn (IsTuple P rule values theory) t.places (map (place_in symbols) places) t.tuples tuples in
          let l = ap (λ (ps : List (PlaceOf Symbol)). is_small_form (difference ps t.right)) (sym same) ∙ t.large in
          true≢false (sym (named_small theory.name (map (place_in symbols) places) (guard_in symbols guard) t.name e)
          ∙ total_against symbols (bound_in rule values) theory.guard guard (map (place_in symbols) places) guarded t.guard t.written t.right t.form l)

      pub answer_tuples : (theory.name ≡ name.Dom → ⊥) → is_small_by theory.name (map (place_in symbols) places) (guard_in symbols guard) ≡ true → (intervals : List (ℤ × ℤ))
          → IsCollected P rule values theory (map (place_in symbols) places) intervals (guard_in symbols guard)
      answer_tuples other e intervals = record {
        inside = no_cause P rule values theory h.over h.linear h.few (all_small e);
        tuples = λ n. tuples;
        domain = λ dom. absurd (other dom);
        guard = guard_right symbols (bound_in rule values) theory.guard guard guarded;
        variable = λ dom. absurd (other dom);
      }

    module _ (dom : theory.name ≡ name.Dom) (ranges intervals : List (ℤ × ℤ)) (listed : IsOrderedListOf range_cmp (IsRange P rule values theory) ranges) (integers : HasIntegersOf ranges intervals)
        (parted : are_parted intervals ≡ true) (few_intervals : length intervals ≤ length ranges) (few_ranges : length ranges ≤ most) where
      none_large : IsAtomLarge P rule values theory → ⊥
      none_large (GuardIsLarge l) = true≢false (sym l ∙ guard_is_small symbols (bound_in rule values) theory.guard guard guarded)
      none_large (ElementIsLarge key read relevant l) = h.small small key read relevant l
      none_large (TotalIsLarge t) = absurd (other t.name)
        where
          sum : name.Dom ≡ name.Sum → ⊥
          sum e = cc

          diff : name.Dom ≡ name.Diff → ⊥
          diff e = cc

          other : (theory.name ≡ name.Sum) ⊎ (theory.name ≡ name.Diff) → ⊥
          other (inl e) = sum (sym dom ∙ e)
          other (inr e) = diff (sym dom ∙ e)

      in_domain : (n : ℤ) → (lies_in intervals n ≡ true) ↔ IsInDomain P rule values theory n
      in_domain n = (
        (λ e. let r = (integers n).0 e in (r.0, (listed.all r.0).0 r.1, r.2, r.3)),
        (λ d. (integers n).1 (d.0, (listed.all d.0).1 d.1, d.2, d.3)),
      )

      few_test : (m n : ℕ) → m ≤ n → n ≤ most → nat_le m most ≡ true
      few_test m n a b = grind (arith, nat_tests, a, b)

      pub answer_ranges : IsCollected P rule values theory [] intervals (guard_in symbols guard)
      answer_ranges = record {
        inside = no_cause P rule values theory h.over h.linear h.few none_large;
        tuples = λ n. absurd (n dom);
        domain = λ d. record { parted = parted; integers = in_domain; few = few_test (length intervals) (length ranges) few_intervals few_ranges };
        guard = guard_right symbols (bound_in rule values) theory.guard guard guarded;
        variable = h.variable;
      }
