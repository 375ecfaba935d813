-- How many tuples and variables a theory atom has.
use Rattle.std.proofs.Common.{◌≡◌, ◌⊎◌, ◌↔◌, inl, inr, ◌<◌, ℕ, zero, suc, nat_lt, Bool, true, ℤ, List, [], ◌∷◌, map, length, Option, None, Some, All, Contains, IsTrue, refl, sym, ◌∙◌, ap, subst, true≢false, arith}
use Rattle.std.specs.List.{AllByRecursion, dedup, flat_map}
use Rattle.std.specs.List.Sorted.{IsPermutation, IsStrictlySortedBy}
use Rattle.std.specs.declared.cmp.Ordering.{Ordering}
use Rattle.std.proofs.lemmas.Bool.Decides.{nat_tests}
use Rattle.std.proofs.lemmas.List.{length-map}
use Rattle.std.proofs.lemmas.List.Kept.{Contains-from_dedup}
use Rattle.std.proofs.lemmas.List.Sorted.{Contains-permutation, IsPermutation-sym}
use Rattle.symbols.specs.Symbol.{Symbol}
use Rattle.symbols.specs.Order.{symbol_cmp}
use Rattle.symbols.specs.Table.{symbol_at}
use Rattle.syntax_tree.specs.declared.literal.Guard.{Guard}
use Rattle.syntax_tree.specs.declared.literal.TheoryName.{TheoryName}
use Rattle.syntax_tree.specs.declared.literal.TheoryName.TheVariants as name
use Rattle.syntax_tree.specs.Outcome.{Outcome}
use Rattle.ground_model.specs.Members.{IsMember, IsListOf}
use Rattle.ground_model.specs.Rule.{LinearOf, PlaceOf}
use Rattle.ground_model.specs.Sound.{most}
use Rattle.ground_model.proofs.MemberLemmas.{property_member, property_from_members}
use Rattle.program_meaning.specs.declared.collected.CollectedPlace.{CollectedPlace}
use Rattle.program_meaning.specs.Ascending.{Ascends, IsOrderedListOf, Exceeds}
use Rattle.program_meaning.specs.Read.{ReadTheory, ReadRule}
use Rattle.program_meaning.specs.Substitution.{Value}
use Rattle.program_meaning.specs.Said.{pair_in, linear_in, place_in, IsKnownPair}
use Rattle.program_meaning.specs.Theory.{place_cmp}
use Rattle.program_meaning.specs.Instance.{bound_in}
use Rattle.program_meaning.specs.Tuples.{IsTuple, IsRange, OccursInGuard}
use Rattle.program_meaning.specs.Outside.{HasManyTuples, IsVariableIn}
use Rattle.program_meaning.proofs.Lists.{ascends_apart, exceeds_all, append_left, append_right, append_from, flat_to, flat_from, all_append}
use Rattle.program_meaning.proofs.Orders.{symbols_turn, places_turn}
use Rattle.interval_sets.specs.Ranges.{range_cmp}
use Rattle.interval_sets.proofs.SetLemmas.{ranges_turn}
use Rattle.collected_elements.specs.Judged.{IsKnownPlace}
use Rattle.collected_atoms.specs.declared.atom.CollectedGuard.{CollectedGuard}
use Rattle.collected_atoms.specs.Said.{IsKnownRight}
use Rattle.collected_atoms.specs.Gathering.{AreKnownPlaces}
use Rattle.collected_atoms.specs.inner.Settled.{IsGuardIn, ids_of, guard_ids, all_ids}

-- MEMBERS

contains_member : {X : Type 0} (xs : List X) (x : X) → Contains xs x → IsMember xs x
contains_member [] x (k, l, e) = absurd (omega (arith, l))
contains_member (y ∷ xs) x (zero, l, e) = inl (sym e)
contains_member (y ∷ xs) x (suc k, l, e) = inr (contains_member xs x (k, omega (arith, l), e))

member_contains : {X : Type 0} (xs : List X) (x : X) → IsMember xs x → Contains xs x
member_contains [] x m = absurd m
member_contains (y ∷ xs) x (inl e) = (zero, omega arith, sym e)
member_contains (y ∷ xs) x (inr m) = let r = member_contains xs x m in (suc r.0, omega (arith, r.1), r.2)

mapped : {X Y : Type 0} (f : X → Y) (xs : List X) (x : X) → IsMember xs x → IsMember (map f xs) (f x)
mapped f [] x m = m
mapped f (z ∷ xs) x (inl e) = inl (ap f e)
mapped f (z ∷ xs) x (inr m) = inr (mapped f xs x m)

unmapped : {X Y : Type 0} (f : X → Y) (xs : List X) (y : Y) → IsMember (map f xs) y → (x : X) × IsMember xs x × (y ≡ f x)
unmapped f [] y m = absurd m
unmapped f (x ∷ xs) y (inl e) = (x, inl refl, e)
unmapped f (x ∷ xs) y (inr m) = let r = unmapped f xs y m in (r.0, inr r.1, r.2)

-- what is kept of known tuples is known
pub kept_known : (symbols : List Symbol) (same : CollectedPlace → CollectedPlace → Bool) (all sorted unique : List CollectedPlace) → IsPermutation all sorted → unique ≡ dedup same sorted
    → AreKnownPlaces symbols all → AreKnownPlaces symbols unique
kept_known symbols same all sorted unique moved is known =
    property_from_members (IsKnownPlace symbols) unique
    (λ x m. property_member (IsKnownPlace symbols) all x known
    (contains_member all x (Contains-permutation sorted all x (IsPermutation-sym all sorted moved) (Contains-from_dedup same sorted x (subst (λ xs. Contains xs x) is (member_contains unique x m))))))

-- a list in order of the members of a list of all
pub ordered_through : {X : Type 0} (R : X → X → Ordering) (P : X → Type 0) (xs ys : List X) → IsOrderedListOf R (IsMember xs) ys → IsListOf P xs → IsOrderedListOf R P ys
ordered_through R P xs ys h k = record {
  ascend = h.ascend;
  all = λ x. ((λ m. (k x).0 ((h.all x).0 m)), (λ p. (h.all x).1 ((k x).1 p)));
}

-- the same things exceed a limit
pub exceeds_along : {X : Type 0} (P Q : X → Type 0) (limit : ℕ) → ((x : X) → P x → Q x) → Exceeds P limit → Exceeds Q limit
exceeds_along {X} P Q limit f h = record { shown = h.shown; apart = h.apart; each = go h.shown h.each; more = h.more }
  where
    go : (xs : List X) → AllByRecursion P xs → AllByRecursion Q xs
    go [] all = tt
    go (x ∷ xs) all = (f x all.0, go xs all.1)

-- TUPLES AND RANGES

pub tuples_exceed : (symbols : List Symbol) (P : PlaceOf Symbol → Type 0) (places : List CollectedPlace) → IsOrderedListOf place_cmp P (map (place_in symbols) places)
    → Exceeds P most ↔ (most < length places)
tuples_exceed symbols P places h =
    subst (λ n. Exceeds P most ↔ (most < n)) (length-map places (place_in symbols))
    (exceeds_all P (map (place_in symbols) places) most (ascends_apart place_cmp places_turn (map (place_in symbols) places) h.ascend) h.all)

pub ranges_exceed : (P : ℤ × ℤ → Type 0) (ranges : List (ℤ × ℤ)) → IsOrderedListOf range_cmp P ranges → Exceeds P most ↔ (most < length ranges)
ranges_exceed P ranges h = exceeds_all P ranges most (ascends_apart range_cmp ranges_turn ranges h.ascend) h.all

pub many_tuples : (P : Symbol → Type 0) (rule : ReadRule) (values : List Value) (theory : ReadTheory) (kind : TheoryName) → (kind ≡ name.Dom → ⊥)
    → HasManyTuples P rule values theory kind ↔ Exceeds (IsTuple P rule values theory) most
many_tuples P rule values theory name.Sum n = ((λ h. h), (λ h. h))
many_tuples P rule values theory name.Diff n = ((λ h. h), (λ h. h))
many_tuples P rule values theory name.Distinct n = ((λ h. h), (λ h. h))
many_tuples P rule values theory name.Disjoint n = ((λ h. h), (λ h. h))
many_tuples P rule values theory name.Dom n = absurd (n refl)
many_tuples P rule values theory name.Minimize n = ((λ h. h), (λ h. h))
many_tuples P rule values theory name.Maximize n = ((λ h. h), (λ h. h))
many_tuples P rule values theory name.Show n = ((λ h. h), (λ h. h))
many_tuples P rule values theory name.Unknown n = ((λ h. h), (λ h. h))

pub many_ranges : (P : Symbol → Type 0) (rule : ReadRule) (values : List Value) (theory : ReadTheory) (kind : TheoryName) → kind ≡ name.Dom
    → HasManyTuples P rule values theory kind ↔ Exceeds (IsRange P rule values theory) most
many_ranges P rule values theory kind e =
    subst (λ k. HasManyTuples P rule values theory k ↔ Exceeds (IsRange P rule values theory) most) (sym e) ((λ h. h), (λ h. h))

-- VARIABLES

occurs_id : (symbols : List Symbol) (pairs : List (ℕ × ℤ)) (x : Symbol) (coefficient : ℤ) → IsMember (map (pair_in symbols) pairs) (x, coefficient) → IsMember (map (symbol_at symbols) (ids_of pairs)) x
occurs_id symbols [] x coefficient m = absurd m
occurs_id symbols (p ∷ pairs) x coefficient (inl e) = inl (ap (λ (q : Symbol × ℤ). q.0) e)
occurs_id symbols (p ∷ pairs) x coefficient (inr m) = inr (occurs_id symbols pairs x coefficient m)

id_occurs : (symbols : List Symbol) (pairs : List (ℕ × ℤ)) (x : Symbol) → IsMember (map (symbol_at symbols) (ids_of pairs)) x
    → (coefficient : ℤ) × IsMember (map (pair_in symbols) pairs) (x, coefficient)
id_occurs symbols [] x m = absurd m
id_occurs symbols (p ∷ pairs) x (inl e) = (p.1, inl (λ i. (e i, p.1)))
id_occurs symbols (p ∷ pairs) x (inr m) = let r = id_occurs symbols pairs x m in (r.0, inr r.1)

place_ids : CollectedPlace → List ℕ
place_ids place = ids_of place.linear.pairs

module _ (symbols : List Symbol) (places : List CollectedPlace) (guard : Option CollectedGuard) where
  firsts : List ℕ
  firsts = flat_map (λ (place : CollectedPlace). ids_of place.linear.pairs) places

  abbrev Symbols : List ℕ → List Symbol
  Symbols ids = map (symbol_at symbols) ids

  from_place : (place : CollectedPlace) → IsMember places place → (x : Symbol) (coefficient : ℤ) → IsMember (map (pair_in symbols) place.linear.pairs) (x, coefficient)
      → IsMember (Symbols (all_ids places guard)) x
  from_place place m x coefficient h =
      let r = unmapped (symbol_at symbols) (ids_of place.linear.pairs) x (occurs_id symbols place.linear.pairs x coefficient h) in
      subst (IsMember (Symbols (all_ids places guard))) (sym r.2)
      (mapped (symbol_at symbols) (all_ids places guard) r.0
      (append_left (flat_map (λ (q : CollectedPlace). ids_of q.linear.pairs) places) (guard_ids guard) r.0 (flat_to (λ (q : CollectedPlace). ids_of q.linear.pairs) places place r.0 m r.1)))

  from_guard : (x : Symbol) → IsMember (Symbols (guard_ids guard)) x → IsMember (Symbols (all_ids places guard)) x
  from_guard x m =
      let r = unmapped (symbol_at symbols) (guard_ids guard) x m in
      subst (IsMember (Symbols (all_ids places guard))) (sym r.2)
      (mapped (symbol_at symbols) (all_ids places guard) r.0 (append_right (flat_map (λ (q : CollectedPlace). ids_of q.linear.pairs) places) (guard_ids guard) r.0 r.1))

  -- each symbol comes from a place or from the guard
  split_ids : (x : Symbol) → IsMember (Symbols (all_ids places guard)) x
      → ((place : CollectedPlace) × IsMember places place × (coefficient : ℤ) × IsMember (map (pair_in symbols) place.linear.pairs) (x, coefficient)) ⊎ IsMember (Symbols (guard_ids guard)) x
  split_ids x m =
      let r = unmapped (symbol_at symbols) (all_ids places guard) x m in
      go r.0 r.2 (append_from (flat_map (λ (q : CollectedPlace). ids_of q.linear.pairs) places) (guard_ids guard) r.0 r.1)
    where
      go : (id : ℕ) → x ≡ symbol_at symbols id → IsMember (flat_map (λ (q : CollectedPlace). ids_of q.linear.pairs) places) id ⊎ IsMember (guard_ids guard) id
          → ((place : CollectedPlace) × IsMember places place × (coefficient : ℤ) × IsMember (map (pair_in symbols) place.linear.pairs) (x, coefficient)) ⊎ IsMember (Symbols (guard_ids guard)) x
      go id e (inl k) =
          let f = flat_from (λ (q : CollectedPlace). ids_of q.linear.pairs) places id k in
          let o = id_occurs symbols f.0.linear.pairs x (subst (IsMember (Symbols (ids_of f.0.linear.pairs))) (sym e) (mapped (symbol_at symbols) (ids_of f.0.linear.pairs) id f.2)) in
          inl (f.0, f.1, o.0, o.1)
      go id e (inr k) = inr (subst (IsMember (Symbols (guard_ids guard))) (sym e) (mapped (symbol_at symbols) (guard_ids guard) id k))

-- the variables of a guard
guard_variables : (symbols : List Symbol) (bound : List Outcome) (written : Option Guard) (large : Bool) (guard : Option CollectedGuard) → IsGuardIn symbols bound written large guard
    → (x : Symbol) → OccursInGuard bound written x → IsMember (map (symbol_at symbols) (guard_ids guard)) x
guard_variables symbols bound None large guard h x o = absurd o
guard_variables symbols bound (Some g) large None h x o = absurd (true≢false (sym h.1 ∙ o.1.small))
guard_variables symbols bound (Some g) large (Some right) h x o =
    occurs_id symbols right.right.pairs x o.2.0 (subst (λ (ps : List (Symbol × ℤ)). IsMember ps (x, o.2.0)) (ap (λ (l : LinearOf Symbol). l.pairs) (sym o.1.same ∙ h.2.same)) o.2.1)

variables_guard : (symbols : List Symbol) (bound : List Outcome) (written : Option Guard) (large : Bool) (guard : Option CollectedGuard) → IsGuardIn symbols bound written large guard
    → (x : Symbol) → IsMember (map (symbol_at symbols) (guard_ids guard)) x → OccursInGuard bound written x
variables_guard symbols bound written large None h x m = absurd m
variables_guard symbols bound None large (Some right) h x m = absurd h
variables_guard symbols bound (Some g) large (Some right) h x m = let o = id_occurs symbols right.right.pairs x m in (linear_in symbols right.right, h.2, (o.0, o.1))

module _ (symbols : List Symbol) (P : Symbol → Type 0) (rule : ReadRule) (values : List Value) (theory : ReadTheory) (large : Bool) (guard : Option CollectedGuard)
    (guarded : IsGuardIn symbols (bound_in rule values) theory.guard large guard) where
  -- of a theory atom that has tuples
  pub variables_are : (theory.name ≡ name.Dom → ⊥) → (places : List CollectedPlace) → IsListOf (IsTuple P rule values theory) (map (place_in symbols) places)
      → (x : Symbol) → IsVariableIn P rule values theory x ↔ IsMember (map (symbol_at symbols) (all_ids places guard)) x
  variables_are other places listed x = (to, from)
    where
      to : IsVariableIn P rule values theory x → IsMember (map (symbol_at symbols) (all_ids places guard)) x
      to (inl v) =
          let p = unmapped (place_in symbols) places v.1.0 ((listed v.1.0).1 v.1.1) in
          from_place symbols places guard p.0 p.1 x v.1.2.0 (subst (λ (q : PlaceOf Symbol). IsMember q.linear.pairs (x, v.1.2.0)) p.2 v.1.2.1)
      to (inr o) = from_guard symbols places guard x (guard_variables symbols (bound_in rule values) theory.guard large guard guarded x o)

      from : IsMember (map (symbol_at symbols) (all_ids places guard)) x → IsVariableIn P rule values theory x
      from m = go (split_ids symbols places guard x m)
        where
          go : ((place : CollectedPlace) × IsMember places place × (coefficient : ℤ) × IsMember (map (pair_in symbols) place.linear.pairs) (x, coefficient))
              ⊎ IsMember (map (symbol_at symbols) (guard_ids guard)) x → IsVariableIn P rule values theory x
          go (inl p) = inl (other, (place_in symbols p.0, (listed (place_in symbols p.0)).0 (mapped (place_in symbols) places p.0 p.1), (p.2, p.3)))
          go (inr k) = inr (variables_guard symbols (bound_in rule values) theory.guard large guard guarded x k)

  -- of `&dom`
  pub domain_variables : theory.name ≡ name.Dom → (x : Symbol) → IsVariableIn P rule values theory x ↔ IsMember (map (symbol_at symbols) (all_ids [] guard)) x
  domain_variables dom x = (to, from)
    where
      to : IsVariableIn P rule values theory x → IsMember (map (symbol_at symbols) (all_ids [] guard)) x
      to (inl v) = absurd (v.0 dom)
      to (inr o) = guard_variables symbols (bound_in rule values) theory.guard large guard guarded x o

      from : IsMember (map (symbol_at symbols) (all_ids [] guard)) x → IsVariableIn P rule values theory x
      from m = inr (variables_guard symbols (bound_in rule values) theory.guard large guard guarded x m)

-- COUNTING IDS

ascends_from : (xs : List Symbol) → IsStrictlySortedBy symbol_cmp xs → Ascends symbol_cmp xs
unfolding IsStrictlySortedBy
ascends_from [] s = tt
ascends_from (x ∷ xs) s = (s.0, ascends_from xs s.1)

pub more_ids : (symbols : List Symbol) (ids sorted : List ℕ) → IsStrictlySortedBy symbol_cmp (map (symbol_at symbols) sorted) → ((id : ℕ) → Contains sorted id ↔ Contains ids id)
    → Exceeds (IsMember (map (symbol_at symbols) ids)) most ↔ (most < length sorted)
more_ids symbols ids sorted ascends same =
    subst (λ n. Exceeds (IsMember (map (symbol_at symbols) ids)) most ↔ (most < n)) (length-map sorted (symbol_at symbols))
    (exceeds_all (IsMember (map (symbol_at symbols) ids)) (map (symbol_at symbols) sorted) most
    (ascends_apart symbol_cmp symbols_turn (map (symbol_at symbols) sorted) (ascends_from (map (symbol_at symbols) sorted) ascends)) listed)
  where
    moved : (from to : List ℕ) → ((id : ℕ) → Contains from id → Contains to id) → (x : Symbol) → IsMember (map (symbol_at symbols) from) x → IsMember (map (symbol_at symbols) to) x
    moved from to f x m =
        let r = unmapped (symbol_at symbols) from x m in
        subst (IsMember (map (symbol_at symbols) to)) (sym r.2) (mapped (symbol_at symbols) to r.0 (contains_member to r.0 (f r.0 (member_contains from r.0 r.1))))

    listed : IsListOf (IsMember (map (symbol_at symbols) ids)) (map (symbol_at symbols) sorted)
    listed x = (moved sorted ids (λ id. (same id).0) x, moved ids sorted (λ id. (same id).1) x)

-- a test of a number that is counted
pub counted_more : (X : Type 0) (n m : ℕ) → n ≡ m → X ↔ (most < m) → IsTrue (nat_lt most n) ↔ X
counted_more X n m e h = ((λ t. h.1 (subst (λ k. most < k) e (from t))), (λ x. to (subst (λ k. most < k) (sym e) (h.0 x))))
  where
    from : nat_lt most n ≡ true → most < n
    from t = grind (arith, nat_tests, t)

    to : most < n → nat_lt most n ≡ true
    to l = grind (arith, nat_tests, l)

-- IDS THAT ARE KNOWN

pair_ids : (size : ℕ) (pairs : List (ℕ × ℤ)) → All (IsKnownPair size) pairs → AllByRecursion (λ id. id < size) (ids_of pairs)
pair_ids size [] all = tt
pair_ids size (p ∷ pairs) all = ((all 0 p (omega arith)).0, pair_ids size pairs (λ k d below. all (suc k) d (omega (arith, below))))

places_ids : (symbols : List Symbol) (places : List CollectedPlace) → AreKnownPlaces symbols places
    → AllByRecursion (λ id. id < length symbols) (flat_map (λ (place : CollectedPlace). ids_of place.linear.pairs) places)
places_ids symbols [] known = tt
places_ids symbols (place ∷ places) known =
    all_append (λ id. id < length symbols) (ids_of place.linear.pairs) (flat_map (λ (q : CollectedPlace). ids_of q.linear.pairs) places)
    (pair_ids (length symbols) place.linear.pairs known.0.linear.each) (places_ids symbols places known.1)

right_ids : (symbols : List Symbol) (guard : Option CollectedGuard) → IsKnownRight symbols guard → AllByRecursion (λ id. id < length symbols) (guard_ids guard)
right_ids symbols None known = tt
right_ids symbols (Some guard) known = pair_ids (length symbols) guard.right.pairs known.each

by_place : {X : Type 0} (P : X → Type 0) (xs : List X) → AllByRecursion P xs → All P xs
by_place P [] all k d below = absurd (omega (arith, below))
by_place P (x ∷ xs) all zero d below = all.0
by_place P (x ∷ xs) all (suc k) d below = by_place P xs all.1 k d (omega (arith, below))

pub known_ids : (symbols : List Symbol) (places : List CollectedPlace) (guard : Option CollectedGuard) → AreKnownPlaces symbols places → IsKnownRight symbols guard
    → All (λ id. id < length symbols) (all_ids places guard)
known_ids symbols places guard known right =
    by_place (λ id. id < length symbols) (all_ids places guard)
    (all_append (λ id. id < length symbols) (flat_map (λ (place : CollectedPlace). ids_of place.linear.pairs) places) (guard_ids guard) (places_ids symbols places known) (right_ids symbols guard right))
