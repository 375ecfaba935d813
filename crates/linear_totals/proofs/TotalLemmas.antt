-- The numbers of a total minus a right side are sums over all pairs.
use Rattle.std.proofs.Common.{◌≡◌, ◌⊎◌, ◌↔◌, inl, inr, ◌≤◌, ◌<◌, ℕ, zero, suc, ◌==◌, nat_lt, Bool, true, false, ◌&&◌, if◌then◌else◌, ℤ, pos, negsuc, ◌+ℤ◌, ◌-ℤ◌, ◌*ℤ◌, List, [], ◌∷◌, ◌++◌, map, length, All, IsTrue, FitsSigned, rules, refl, sym, ◌∙◌, ap, subst, true≢false, arith}
use Rattle.std.specs.List.{AllByRecursion, list_all, flat_map}
use Rattle.std.specs.Int.{w64}
use Rattle.std.specs.Ordering.{is_eq}
use Rattle.std.specs.declared.cmp.Ordering.{Ordering}
use Rattle.std.specs.declared.cmp.Ordering.TheVariants.{Less, Equal, Greater}
use Rattle.std.proofs.lemmas.Bool.Decides.{nat_tests}
use Rattle.std.proofs.lemmas.Int.{ints}
use Rattle.std.proofs.lemmas.List.{map-append}
use Rattle.std.proofs.Math.IntN.{suc_ℤ-*ℤ, zero-*ℤ, *ℤ_comm, *ℤ-zero}
use Rattle.symbols.specs.Symbol.{Symbol}
use Rattle.symbols.specs.Order.{symbol_cmp}
use Rattle.symbols.specs.Table.{IsOnce, symbol_at}
use Rattle.symbols.proofs.OrderLemmas.{symbol_cmp-level, symbol_cmp-itself}
use Rattle.ground_model.specs.Rule.{LinearOf}
use Rattle.ground_model.specs.Sound.{is_small, coefficient}
use Rattle.ground_model.specs.Truth.{pairs_value}
use Rattle.ground_model.proofs.Bools.{and_elim, and_intro}
use Rattle.program_meaning.specs.declared.collected.CollectedPlace.{CollectedPlace}
use Rattle.program_meaning.specs.declared.collected.SymbolLinear.{SymbolLinear}
use Rattle.program_meaning.specs.Collected.{is_small_form}
use Rattle.program_meaning.specs.Outside.{total, difference}
use Rattle.program_meaning.specs.Said.{pair_in, linear_in, place_in, IsKnownPair}
use Rattle.program_meaning.proofs.CollectedForms.{InOrder, sum_in_order, scaled_in_order}
use Rattle.program_meaning.proofs.CollectedValue.{pairs_sum, minus_one}
use Rattle.program_meaning.proofs.Lists.{all_append}
use Rattle.collected_terms.specs.Found.{IsKnownLinear}
use Rattle.linear_totals.specs.inner.Sums.{turned, constants}

abbrev Pairs : Type 0
Pairs = List (Symbol × ℤ)

abbrev Ids : Type 0
Ids = List (ℕ × ℤ)

abbrev read : List Symbol → Ids → Pairs
read symbols ids = map (pair_in symbols) ids

-- 1 for a symbol, and 0 for all others
abbrev one : Symbol → Symbol → ℤ
one x y = (if is_eq (symbol_cmp y x) then pos 1 else pos 0)

-- the sum of a symbol's coefficients
abbrev weight : Symbol → Pairs → ℤ
weight x ps = pairs_value (one x) ps

times_one : (c : ℤ) → c *ℤ pos 1 ≡ c
times_one c = *ℤ_comm c (pos 1) ∙ suc_ℤ-*ℤ (pos 0) c ∙ ap (λ z. z +ℤ c) (zero-*ℤ c) ∙ none c
  where
    none : (c : ℤ) → pos 0 +ℤ c ≡ c
    none c = omega (arith, ints)

counted : (b : Bool) (c : ℤ) → c *ℤ (if b then pos 1 else pos 0) ≡ (if b then c else pos 0)
counted true c = times_one c
counted false c = *ℤ-zero c

none_left : (z : ℤ) → pos 0 +ℤ z ≡ z
none_left z = omega (arith, ints)

none_right : (z : ℤ) → z +ℤ pos 0 ≡ z
none_right z = omega (arith, ints)

-- IN ORDER, A SYMBOL HAS ONE COEFFICIENT

is_level : (o : Ordering) → is_eq o ≡ true → o ≡ Equal
is_level Less e = cc
is_level Equal e = refl
is_level Greater e = cc

less_other : (x y : Symbol) → symbol_cmp x y ≡ Less → is_eq (symbol_cmp x y) ≡ false
less_other x y e = ap is_eq e

turned_other : (x y : Symbol) → symbol_cmp x y ≡ Less → is_eq (symbol_cmp y x) ≡ false
turned_other x y e = go (symbol_cmp y x) refl
  where
    never : symbol_cmp y x ≡ Equal → ⊥
    never f = apart (sym (ap (λ z. symbol_cmp x z) (symbol_cmp-level y x f) ∙ symbol_cmp-itself x) ∙ e)
      where
        apart : Equal ≡ Less → ⊥
        apart g = cc

    go : (o : Ordering) → symbol_cmp y x ≡ o → is_eq o ≡ false
    go Less f = refl
    go Equal f = absurd (never f)
    go Greater f = refl

skipped : (b : Bool) (c z : ℤ) → b ≡ false → (c *ℤ (if b then pos 1 else pos 0)) +ℤ z ≡ z
skipped b c z e = ap (λ t. (c *ℤ (if t then pos 1 else pos 0)) +ℤ z) e ∙ ap (λ y. y +ℤ z) (*ℤ-zero c) ∙ none_left z

met : (b : Bool) (c z : ℤ) → b ≡ true → (c *ℤ (if b then pos 1 else pos 0)) +ℤ z ≡ c +ℤ z
met b c z e = ap (λ t. (c *ℤ (if t then pos 1 else pos 0)) +ℤ z) e ∙ ap (λ y. y +ℤ z) (times_one c)

none_behind : (x : Symbol) (ps : Pairs) → AllByRecursion (λ (p : Symbol × ℤ). symbol_cmp x p.0 ≡ Less) ps → weight x ps ≡ pos 0
none_behind x [] a = refl
none_behind x (p ∷ ps) a = skipped (is_eq (symbol_cmp p.0 x)) p.1 (weight x ps) (turned_other x p.0 a.0) ∙ none_behind x ps a.1

abbrev AllSmall : Pairs → Type 0
AllSmall ps = list_all (λ (p : Symbol × ℤ). is_small p.1) ps ≡ true

small_weights : (ps : Pairs) → InOrder ps → AllSmall ps → (x : Symbol) → is_small (weight x ps) ≡ true
small_weights [] i s x = refl
small_weights (p ∷ ps) i s x =
    let both = and_elim (is_small p.1) (list_all (λ (q : Symbol × ℤ). is_small q.1) ps) s in
    go both.0 (small_weights ps i.1 both.1 x) (is_eq (symbol_cmp p.0 x)) refl
  where
    go : is_small p.1 ≡ true → is_small (weight x ps) ≡ true → (b : Bool) → is_eq (symbol_cmp p.0 x) ≡ b → is_small (weight x (p ∷ ps)) ≡ true
    go h rec true e =
        let same = symbol_cmp-level p.0 x (is_level (symbol_cmp p.0 x) e) in
        let behind = none_behind x ps (subst (λ y. AllByRecursion (λ (q : Symbol × ℤ). symbol_cmp y q.0 ≡ Less) ps) same i.0) in
        ap is_small (met (is_eq (symbol_cmp p.0 x)) p.1 (weight x ps) e ∙ ap (λ z. p.1 +ℤ z) behind ∙ none_right p.1) ∙ h
    go h rec false e = ap is_small (skipped (is_eq (symbol_cmp p.0 x)) p.1 (weight x ps) e) ∙ rec

-- only the symbols of the pairs count
weights_small : (ps : Pairs) → InOrder ps → AllByRecursion (λ (p : Symbol × ℤ). is_small (weight p.0 ps) ≡ true) ps → AllSmall ps
weights_small [] i h = refl
weights_small (p ∷ ps) i h =
    and_intro (is_small p.1) (list_all (λ (q : Symbol × ℤ). is_small q.1) ps) first (weights_small ps i.1 (rest ps i.0 h.1))
  where
    first : is_small p.1 ≡ true
    first =
        ap is_small (sym (met (is_eq (symbol_cmp p.0 p.0)) p.1 (weight p.0 ps) (ap is_eq (symbol_cmp-itself p.0)) ∙ ap (λ z. p.1 +ℤ z) (none_behind p.0 ps i.0) ∙ none_right p.1))
        ∙ h.0

    rest : (qs : Pairs) → AllByRecursion (λ (q : Symbol × ℤ). symbol_cmp p.0 q.0 ≡ Less) qs → AllByRecursion (λ (q : Symbol × ℤ). is_small (weight q.0 (p ∷ ps)) ≡ true) qs
        → AllByRecursion (λ (q : Symbol × ℤ). is_small (weight q.0 ps) ≡ true) qs
    rest [] l k = tt
    rest (q ∷ qs) l k = (ap is_small (sym (skipped (is_eq (symbol_cmp p.0 q.0)) p.1 (weight q.0 ps) (less_other p.0 q.0 l.0))) ∙ k.0, rest qs l.1 k.1)

all_of : (ps qs : Pairs) → ((x : Symbol) → is_small (weight x ps) ≡ true) → AllByRecursion (λ (p : Symbol × ℤ). is_small (weight p.0 ps) ≡ true) qs
all_of ps [] h = tt
all_of ps (q ∷ qs) h = (h q.0, all_of ps qs h)

-- SUMS OVER PAIRS

weight_append : (x : Symbol) (ps qs : Pairs) → weight x (ps ++ qs) ≡ weight x ps +ℤ weight x qs
weight_append x [] qs = sym (none_left (weight x qs))
weight_append x (p ∷ ps) qs = ap (λ z. (p.1 *ℤ one x p.0) +ℤ z) (weight_append x ps qs) ∙ grouped (p.1 *ℤ one x p.0) (weight x ps) (weight x qs)
  where
    grouped : (a b c : ℤ) → a +ℤ (b +ℤ c) ≡ (a +ℤ b) +ℤ c
    grouped a b c = omega (arith, ints)

read_turned : (symbols : List Symbol) (ids : Ids) → map (λ (pair : Symbol × ℤ). (pair.0, negsuc 0 *ℤ pair.1)) (read symbols ids) ≡ read symbols (map turned ids)
read_turned symbols [] = refl
read_turned symbols (id ∷ ids) = ap (λ (ps : Pairs). (symbol_at symbols id.0, negsuc 0 *ℤ id.1) ∷ ps) (read_turned symbols ids)

abbrev pub all_pairs : List CollectedPlace → List (ℕ × ℤ) → Ids
all_pairs places right = flat_map (λ (place : CollectedPlace). place.linear.pairs) places ++ map turned right

module _ (symbols : List Symbol) where
  total_weight : (x : Symbol) (places : List CollectedPlace)
      → weight x (total (map (place_in symbols) places)).pairs ≡ weight x (read symbols (flat_map (λ (place : CollectedPlace). place.linear.pairs) places))
  total_weight x [] = refl
  total_weight x (place ∷ places) =
      pairs_sum (one x) (read symbols place.linear.pairs) (total (map (place_in symbols) places)).pairs
      ∙ ap (λ z. weight x (read symbols place.linear.pairs) +ℤ z) (total_weight x places)
      ∙ sym (weight_append x (read symbols place.linear.pairs) (read symbols (flat_map (λ (q : CollectedPlace). q.linear.pairs) places)))
      ∙ ap (weight x) (sym (map-append (pair_in symbols) place.linear.pairs (flat_map (λ (q : CollectedPlace). q.linear.pairs) places)))

  difference_weight : (x : Symbol) (places : List CollectedPlace) (right : SymbolLinear)
      → weight x (difference (map (place_in symbols) places) (linear_in symbols right)).pairs ≡ weight x (read symbols (all_pairs places right.pairs))
  difference_weight x places right =
      let firsts : Ids = flat_map (λ (place : CollectedPlace). place.linear.pairs) places in
      pairs_sum (one x) (total (map (place_in symbols) places)).pairs (map (λ (pair : Symbol × ℤ). (pair.0, negsuc 0 *ℤ pair.1)) (read symbols right.pairs))
      ∙ (λ i. total_weight x places i +ℤ weight x (read_turned symbols right.pairs i))
      ∙ sym (weight_append x (read symbols firsts) (read symbols (map turned right.pairs)))
      ∙ ap (weight x) (sym (map-append (pair_in symbols) firsts (map turned right.pairs)))

  difference_in_order : (places : List CollectedPlace) (right : SymbolLinear) → InOrder (read symbols right.pairs)
      → InOrder (difference (map (place_in symbols) places) (linear_in symbols right)).pairs
  difference_in_order places right i =
      sum_in_order (total (map (place_in symbols) places)).pairs (map (λ (pair : Symbol × ℤ). (pair.0, negsuc 0 *ℤ pair.1)) (read symbols right.pairs))
      (scaled_in_order (negsuc 0) (read symbols right.pairs) i)

  total_constant : (places : List CollectedPlace) → (total (map (place_in symbols) places)).constant ≡ constants places
  total_constant [] = refl
  total_constant (place ∷ places) = ap (λ z. place.linear.constant +ℤ z) (total_constant places)

  difference_constant : (places : List CollectedPlace) (right : SymbolLinear)
      → (difference (map (place_in symbols) places) (linear_in symbols right)).constant ≡ constants places -ℤ right.constant
  difference_constant places right =
      (λ i. total_constant places i +ℤ minus_one right.constant i) ∙ less (constants places) right.constant
    where
      less : (a b : ℤ) → a +ℤ (pos 0 -ℤ b) ≡ a -ℤ b
      less a b = omega (arith, ints)

  -- IDS

  module _ (once : IsOnce symbols) where
    abbrev AreIds : Ids → Type 0
    AreIds ids = AllByRecursion (λ (p : ℕ × ℤ). p.0 < length symbols) ids

    same_test : (a b : ℕ) → a < length symbols → b < length symbols → is_eq (symbol_cmp (symbol_at symbols a) (symbol_at symbols b)) ≡ (a == b)
    same_test a b p q = go (a == b) refl
      where
        equal : (a == b) ≡ true → a ≡ b
        equal e = grind (arith, nat_tests)

        tested : a ≡ b → (a == b) ≡ true
        tested e = grind (arith, nat_tests)

        other : (o : Ordering) → symbol_cmp (symbol_at symbols a) (symbol_at symbols b) ≡ o → (a == b) ≡ false → is_eq o ≡ false
        other Less e f = refl
        other Greater e f = refl
        other Equal e f = absurd (true≢false (sym (tested (once a b p q (symbol_cmp-level (symbol_at symbols a) (symbol_at symbols b) e))) ∙ f))

        go : (t : Bool) → (a == b) ≡ t → is_eq (symbol_cmp (symbol_at symbols a) (symbol_at symbols b)) ≡ t
        go true e = ap (λ z. is_eq (symbol_cmp (symbol_at symbols a) (symbol_at symbols z))) (sym (equal e)) ∙ ap is_eq (symbol_cmp-itself (symbol_at symbols a))
        go false e = other (symbol_cmp (symbol_at symbols a) (symbol_at symbols b)) refl e

    id_weight : (v : ℕ) → v < length symbols → (ids : Ids) → AreIds ids → weight (symbol_at symbols v) (read symbols ids) ≡ coefficient v ids
    id_weight v l [] a = refl
    id_weight v l (p ∷ ids) a =
        (λ i. (p.1 *ℤ (if same_test p.0 v a.0 l i then pos 1 else pos 0)) +ℤ id_weight v l ids a.1 i)
        ∙ ap (λ z. z +ℤ coefficient v ids) (counted (p.0 == v) p.1)

    found_or_none : (x : Symbol) (ids : Ids) → AreIds ids → ((v : ℕ) × (v < length symbols) × (symbol_at symbols v ≡ x)) ⊎ (weight x (read symbols ids) ≡ pos 0)
    found_or_none x [] a = inr refl
    found_or_none x (p ∷ ids) a = go (found_or_none x ids a.1) (is_eq (symbol_cmp (symbol_at symbols p.0) x)) refl
      where
        go : ((v : ℕ) × (v < length symbols) × (symbol_at symbols v ≡ x)) ⊎ (weight x (read symbols ids) ≡ pos 0) → (b : Bool) → is_eq (symbol_cmp (symbol_at symbols p.0) x) ≡ b
            → ((v : ℕ) × (v < length symbols) × (symbol_at symbols v ≡ x)) ⊎ (weight x (read symbols (p ∷ ids)) ≡ pos 0)
        go rec true e = inl (p.0, a.0, symbol_cmp-level (symbol_at symbols p.0) x (is_level (symbol_cmp (symbol_at symbols p.0) x) e))
        go (inl v) false e = inl v
        go (inr z) false e = inr (skipped (is_eq (symbol_cmp (symbol_at symbols p.0) x)) p.1 (weight x (read symbols ids)) e ∙ z)

    beyond : (v : ℕ) → length symbols ≤ v → (ids : Ids) → AreIds ids → coefficient v ids ≡ pos 0
    beyond v l [] a = refl
    beyond v l (p ∷ ids) a = (λ i. (if off i then p.1 else pos 0) +ℤ beyond v l ids a.1 i)
      where
        off : (p.0 == v) ≡ false
        off = let m = a.0 in grind (arith, nat_tests, l, m)

    -- the coefficients of all ids are small exactly where those of all symbols are
    symbols_small : (ids : Ids) → AreIds ids → ((v : ℕ) → is_small (coefficient v ids) ≡ true) → (x : Symbol) → is_small (weight x (read symbols ids)) ≡ true
    symbols_small ids a h x = go (found_or_none x ids a)
      where
        go : ((v : ℕ) × (v < length symbols) × (symbol_at symbols v ≡ x)) ⊎ (weight x (read symbols ids) ≡ pos 0) → is_small (weight x (read symbols ids)) ≡ true
        go (inl f) = ap (λ y. is_small (weight y (read symbols ids))) (sym f.2) ∙ ap is_small (id_weight f.0 f.1 ids a) ∙ h f.0
        go (inr z) = ap is_small z

    ids_small : (ids : Ids) → AreIds ids → ((x : Symbol) → is_small (weight x (read symbols ids)) ≡ true) → (v : ℕ) → is_small (coefficient v ids) ≡ true
    ids_small ids a h v = go (nat_lt v (length symbols)) refl
      where
        within : nat_lt v (length symbols) ≡ true → v < length symbols
        within e = grind (arith, nat_tests, e)

        without : nat_lt v (length symbols) ≡ false → length symbols ≤ v
        without e = grind (arith, nat_tests, e)

        go : (t : Bool) → nat_lt v (length symbols) ≡ t → is_small (coefficient v ids) ≡ true
        go true e = ap is_small (sym (id_weight v (within e) ids a)) ∙ h (symbol_at symbols v)
        go false e = ap is_small (beyond v (without e) ids a)

    same_truth : (a b : Bool) → (a ≡ true → b ≡ true) → (b ≡ true → a ≡ true) → a ≡ b
    same_truth true b f g = sym (f refl)
    same_truth false true f g = absurd (true≢false (sym (g refl)))
    same_truth false false f g = refl

    pub small_difference : (places : List CollectedPlace) (right : SymbolLinear) → AreIds (all_pairs places right.pairs) → InOrder (read symbols right.pairs)
        → (sums numbers : Bool) → IsTrue sums ↔ ((x : ℕ) → is_small (coefficient x (all_pairs places right.pairs)) ≡ true) → numbers ≡ is_small (constants places -ℤ right.constant)
        → (sums && numbers) ≡ is_small_form (difference (map (place_in symbols) places) (linear_in symbols right))
    small_difference places right a i sums numbers h e =
        (λ k. pairs k && (e ∙ ap is_small (sym (difference_constant places right))) k)
      where
        ids : Ids
        ids = all_pairs places right.pairs

        made : LinearOf Symbol
        made = difference (map (place_in symbols) places) (linear_in symbols right)

        ordered : InOrder made.pairs
        ordered = difference_in_order places right i

        to : sums ≡ true → AllSmall made.pairs
        to s = weights_small made.pairs ordered (all_of made.pairs made.pairs (λ x. ap is_small (difference_weight x places right) ∙ symbols_small ids a (h.0 s) x))

        from : AllSmall made.pairs → sums ≡ true
        from s = h.1 (ids_small ids a (λ x. ap is_small (sym (difference_weight x places right)) ∙ small_weights made.pairs ordered s x))

        pairs : sums ≡ list_all (λ (p : Symbol × ℤ). is_small p.1) made.pairs
        pairs = same_truth sums (list_all (λ (p : Symbol × ℤ). is_small p.1) made.pairs) to from

-- WHAT IS KNOWN OF THE PAIRS

by_recursion : {X : Type 0} (P : X → Type 0) (xs : List X) → All P xs → AllByRecursion P xs
by_recursion P [] all = tt
by_recursion P (x ∷ xs) all = (all 0 x (omega arith), by_recursion P xs (λ k d below. all (suc k) d (omega (arith, below))))

by_place : {X : Type 0} (P : X → Type 0) (xs : List X) → AllByRecursion P xs → All P xs
by_place P [] all k d below = absurd (omega (arith, below))
by_place P (x ∷ xs) all zero d below = all.0
by_place P (x ∷ xs) all (suc k) d below = by_place P xs all.1 k d (omega (arith, below))

small_turned : (c : ℤ) → is_small c ≡ true → is_small (negsuc 0 *ℤ c) ≡ true
small_turned c s = ap is_small (minus_one c) ∙ other c s
  where
    other : (c : ℤ) → is_small c ≡ true → is_small (pos 0 -ℤ c) ≡ true
    other c s = grind (arith, nat_tests, ints)

turned_known : (size : ℕ) (ids : Ids) → AllByRecursion (IsKnownPair size) ids → AllByRecursion (IsKnownPair size) (map turned ids)
turned_known size [] all = tt
turned_known size (id ∷ ids) all = ((all.0.0, small_turned id.1 all.0.1), turned_known size ids all.1)

firsts_known : (symbols : List Symbol) (places : List CollectedPlace) → AllByRecursion (λ (place : CollectedPlace). IsKnownLinear symbols place.linear) places
    → AllByRecursion (IsKnownPair (length symbols)) (flat_map (λ (place : CollectedPlace). place.linear.pairs) places)
firsts_known symbols [] all = tt
firsts_known symbols (place ∷ places) all =
    all_append (IsKnownPair (length symbols)) place.linear.pairs (flat_map (λ (q : CollectedPlace). q.linear.pairs) places)
    (by_recursion (IsKnownPair (length symbols)) place.linear.pairs all.0.each) (firsts_known symbols places all.1)

pub all_known : (symbols : List Symbol) (places : List CollectedPlace) (right : SymbolLinear) → AllByRecursion (λ (place : CollectedPlace). IsKnownLinear symbols place.linear) places
    → IsKnownLinear symbols right → AllByRecursion (IsKnownPair (length symbols)) (all_pairs places right.pairs)
all_known symbols places right all known =
    all_append (IsKnownPair (length symbols)) (flat_map (λ (q : CollectedPlace). q.linear.pairs) places) (map turned right.pairs) (firsts_known symbols places all)
    (turned_known (length symbols) right.pairs (by_recursion (IsKnownPair (length symbols)) right.pairs known.each))

along : {X : Type 0} (P Q : X → Type 0) → ((x : X) → P x → Q x) → (xs : List X) → AllByRecursion P xs → AllByRecursion Q xs
along P Q f [] all = tt
along P Q f (x ∷ xs) all = (f x all.0, along P Q f xs all.1)

pub are_ids : (size : ℕ) (ids : Ids) → AllByRecursion (IsKnownPair size) ids → AllByRecursion (λ (p : ℕ × ℤ). p.0 < size) ids
are_ids size ids all = along (IsKnownPair size) (λ (p : ℕ × ℤ). p.0 < size) (λ p h. h.0) ids all

pub are_small : (size : ℕ) (ids : Ids) → AllByRecursion (IsKnownPair size) ids → All (λ (p : ℕ × ℤ). is_small p.1 ≡ true) ids
are_small size ids all = by_place (λ (p : ℕ × ℤ). is_small p.1 ≡ true) ids (along (IsKnownPair size) (λ (p : ℕ × ℤ). is_small p.1 ≡ true) (λ p h. h.1) ids all)

pub small_constants : (symbols : List Symbol) (places : List CollectedPlace) → AllByRecursion (λ (place : CollectedPlace). IsKnownLinear symbols place.linear) places
    → All (λ (place : CollectedPlace). is_small place.linear.constant ≡ true) places
small_constants symbols places all =
    by_place (λ (place : CollectedPlace). is_small place.linear.constant ≡ true) places
    (along (λ (place : CollectedPlace). IsKnownLinear symbols place.linear) (λ (place : CollectedPlace). is_small place.linear.constant ≡ true) (λ place h. h.constant) places all)

-- a small number fits 64 bits
pub small_fits : (z : ℤ) → is_small z ≡ true → FitsSigned w64 z
small_fits z s = search rules
