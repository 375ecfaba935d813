-- An objective is sound over numbers exactly where it is not too large.
use Rattle.std.proofs.Common.{◌≡◌, ◌≤◌, ◌<◌, ◌⊎◌, inl, inr, ◌+◌, ℕ, zero, suc, nat_le, Bool, true, false, ◌&&◌, ◌==◌, ℤ, pos, negsuc, ◌+ℤ◌, ◌-ℤ◌, ◌*ℤ◌, List, [], ◌∷◌, filter, length, map, Some, if◌then◌else◌, refl, sym, ◌∙◌, ap, subst, true≢false, arith}
use Rattle.std.specs.List.{AllByRecursion, list_all, list_any, range_with_len}
use Rattle.std.specs.declared.cmp.Ordering.{Ordering}
use Rattle.std.specs.declared.cmp.Ordering.TheVariants.{Less, Equal, Greater}
use Rattle.std.proofs.lemmas.Bool.Decides.{nat_tests}
use Rattle.std.proofs.lemmas.Int.{ints}
use Rattle.std.proofs.lemmas.List.{length-map}
use Rattle.std.proofs.Math.IntN.{*ℤ-zero}
use Rattle.symbols.specs.Symbol.{Symbol}
use Rattle.symbols.specs.Order.{symbol_cmp}
use Rattle.syntax_tree.specs.declared.literal.TheoryName.{TheoryName}
use Rattle.syntax_tree.specs.declared.literal.TheoryName.TheVariants as name
use Rattle.ground_model.specs.declared.linear.Linear.{Linear}
use Rattle.ground_model.specs.declared.linear.Place.{Place}
use Rattle.ground_model.specs.Members.{IsMember, IsApart}
use Rattle.ground_model.specs.Rule.{PlaceOf}
use Rattle.ground_model.specs.Sound.{most, is_small, total_coefficient, total_constant, is_small_difference, occurs, first_places, has_few_variables, are_different, is_sound_place, are_sound_places}
use Rattle.ground_model.specs.Truth.{pairs_value}
use Rattle.ground_model.specs.View.{place_of}
use Rattle.ground_model.proofs.Bools.{and_elim, and_intro, or_left, or_right, bool_cases}
use Rattle.ground_model.proofs.MemberLemmas.{same_nat, any_member, all_member, all_from_members, property_member, property_from_members, member_map, map_member}
use Rattle.program_meaning.specs.Read.{ReadRule}
use Rattle.program_meaning.specs.Ascending.{IsOrderedListOf, Exceeds}
use Rattle.program_meaning.specs.Canonical.{number_of, or_zero, variable_number, place_numbered, IsVariable, IsDirected}
use Rattle.program_meaning.specs.Collected.{placed, pair_added, pairs_added, scaled, is_small_form}
use Rattle.program_meaning.specs.Instance.{bound_in_element}
use Rattle.program_meaning.specs.Outside.{total, difference, IsDirectedVariable, HasLargeObjective, ManyTuples, ManyVariables, LargeDifference}
use Rattle.program_meaning.specs.Theory.{place_cmp}
use Rattle.program_meaning.specs.Tuples.{OccursInForm}
use Rattle.program_meaning.proofs.CollectedForms.{InOrder}
use Rattle.program_meaning.proofs.Known.{duty_member}
use Rattle.program_meaning.proofs.Leaves.{filter_apart, filter_passes}
use Rattle.program_meaning.proofs.Lists.{ascends_apart, ordered_same, no_more, exceeds_all}
use Rattle.program_meaning.proofs.Numbers.{number_found, number_least, number_most, number_one}
use Rattle.program_meaning.proofs.Orders.{symbols_turn, places_turn, one_way}
use Rattle.program_meaning.proofs.SoundTuples.{heads, tails, nats_same, occurs_from}
use Rattle.ground_rule_laws.specs.Laws.{AreKnownPlaces}
use Rattle.ground_rule_laws.proofs.SoundObjectives.{times_one, one_at, has_number, none_left, difference_value, difference_number, difference_in_order, small_totals}
use Rattle.ground_rule_laws.proofs.SoundPlaces.{IsListedTuple, all_different, each_sound}
use Rattle.objective_laws.specs.Laws.{SmallObjectiveLaw, LargeObjectiveLaw}

-- ---- ranges and tests

in_range : (first n x : ℕ) → first ≤ x → x < first + n → IsMember (range_with_len first n) x
in_range first zero x low high = absurd (omega arith)
in_range first (suc n) x low high = go (first == x) refl (in_range (first + 1) n x)
  where
    go : (t : Bool) → (first == x) ≡ t → (first + 1 ≤ x → x < (first + 1) + n → IsMember (range_with_len (first + 1) n) x) → IsMember (range_with_len first (suc n)) x
    go true e rec = inl (sym (nats_same first x e))
    go false e rec =
        let ne : first ≡ x → ⊥ = λ s. true≢false (sym (same_nat first x s) ∙ e) in
        inr (rec (omega arith) (omega arith))

range_from : (from count n : ℕ) → IsMember (range_with_len from count) n → from ≤ n
range_from from zero n m = absurd m
range_from from (suc count) n (inl e) = omega (arith, e)
range_from from (suc count) n (inr m) = let l = range_from (from + 1) count n m in omega (arith, l)

range_apart : (from count : ℕ) → IsApart (range_with_len from count)
range_apart from zero = tt
range_apart from (suc count) = (λ m. let l = range_from (from + 1) count from m in omega (arith, l), range_apart (from + 1) count)

passes_filter : {X : Type 0} (test : X → Bool) (xs : List X) (x : X) → IsMember xs x → test x ≡ true → IsMember (filter test xs) x
passes_filter test [] x m e = m
passes_filter test (y ∷ ys) x (inl f) e = go (test y) (subst (λ z. test z ≡ true) f e)
  where
    go : (t : Bool) → t ≡ true → IsMember (if t then y ∷ filter test ys else filter test ys) x
    go true g = inl f
    go false g = absurd (true≢false (sym g))
passes_filter test (y ∷ ys) x (inr m) e = go (test y) (passes_filter test ys x m e)
  where
    go : (t : Bool) → IsMember (filter test ys) x → IsMember (if t then y ∷ filter test ys else filter test ys) x
    go true rec = inr rec
    go false rec = rec

within : (m n : ℕ) → nat_le m n ≡ true → m ≤ n
within m n t = grind (arith, nat_tests)

past : (m n : ℕ) → nat_le m n ≡ false → n < m
past m n t = grind (arith, nat_tests)

split : (a b : Bool) → (a && b) ≡ false → (a ≡ false) ⊎ (b ≡ false)
split true b e = inr e
split false b e = inl refl

module _ (variables : List Symbol) where
  abbrev numbered : Symbol × ℤ → ℕ × ℤ
  numbered pair = (variable_number variables pair.0, pair.1)

  -- ---- numbers of variables

  number_in : (x : Symbol) → IsMember variables x → IsMember (range_with_len 1 (length variables)) (variable_number variables x)
  number_in x m =
      let k = number_found 1 variables x m in
      let low = number_least 1 variables x k.0 k.1 in
      let high = number_most 1 variables x k.0 k.1 in
      subst (IsMember (range_with_len 1 (length variables))) (sym (ap or_zero k.1)) (in_range 1 (length variables) k.0 low high)

  number_above : (x : Symbol) → IsMember variables x → 0 < variable_number variables x
  number_above x m =
      let k = number_found 1 variables x m in
      let low = number_least 1 variables x k.0 k.1 in
      subst (λ n. 0 < n) (sym (ap or_zero k.1)) (omega (arith, low))

  same_variable : (x y : Symbol) → IsMember variables x → IsMember variables y → variable_number variables x ≡ variable_number variables y → x ≡ y
  same_variable x y m k e =
      let j = number_found 1 variables x m in
      let l = number_found 1 variables y k in
      number_one 1 variables x y j.0 j.1 (l.1 ∙ ap Some (sym (sym (ap or_zero j.1) ∙ e ∙ ap or_zero l.1)))

  numbers_apart : (xs : List Symbol) → IsApart xs → ((x : Symbol) → IsMember xs x → IsMember variables x) → IsApart (map (variable_number variables) xs)
  numbers_apart [] a listed = tt
  numbers_apart (x ∷ xs) a listed = (
    λ m.
        let r = map_member (variable_number variables) xs (variable_number variables x) m in
        a.0 (subst (IsMember xs) (sym (same_variable x r.0 (listed x (inl refl)) (listed r.0 (inr r.1)) r.2)) r.1),
    numbers_apart xs a.1 (λ y m. listed y (inr m)),
  )

  -- a variable of the tuples occurs by its number
  occurs_to : (symbols : List Symbol) (held : List Place) (places : List (PlaceOf Symbol)) → map (place_of symbols) held ≡ map (place_numbered variables) places
      → (p : PlaceOf Symbol) → IsMember places p → (x : Symbol) → OccursInForm x p.linear → occurs (first_places held) (variable_number variables x) ≡ true
  occurs_to symbols held [] e p m x o = absurd m
  occurs_to symbols [] (q ∷ places) e p m x o = absurd (nothing e)
    where
      nothing : [] ≡ map (place_numbered variables) (q ∷ places) → ⊥
      nothing e = cc
  occurs_to symbols (h ∷ held) (q ∷ places) e p (inl f) x o =
      or_left (list_any (λ pair. pair.0 == variable_number variables x) h.linear.pairs) (occurs (first_places held) (variable_number variables x))
      (any_member (λ pair. pair.0 == variable_number variables x) h.linear.pairs (variable_number variables x, o.0)
      (subst (λ ps. IsMember ps (variable_number variables x, o.0)) (sym (ap (λ z. z.linear.pairs) (heads _ _ _ _ e)))
      (member_map numbered q.linear.pairs (x, o.0) (subst (λ z. IsMember z.linear.pairs (x, o.0)) f o.1)))
      (same_nat (variable_number variables x) (variable_number variables x) refl))
  occurs_to symbols (h ∷ held) (q ∷ places) e p (inr m) x o =
      or_right (list_any (λ pair. pair.0 == variable_number variables x) h.linear.pairs) (occurs (first_places held) (variable_number variables x))
      (occurs_to symbols held places (tails _ _ _ _ e) p m x o)

  -- ---- sums name listed variables alone

  abbrev AreListed : List (Symbol × ℤ) → Type 0
  AreListed ps = AllByRecursion (λ p. IsMember variables p.0) ps

  added_listed : (x : Symbol) (c : ℤ) (ps : List (Symbol × ℤ)) → IsMember variables x → AreListed ps → AreListed (pair_added x c ps)
  added_listed x c [] m a = (m, tt)
  added_listed x c (p ∷ ps) m a = go (symbol_cmp x p.0) (added_listed x c ps m a.1)
    where
      go : (o : Ordering) → AreListed (pair_added x c ps) → AreListed (placed o x c p ps (pair_added x c ps))
      go Less rec = (m, a)
      go Equal rec = (m, a.1)
      go Greater rec = (a.0, rec)

  sum_listed : (ps qs : List (Symbol × ℤ)) → AreListed ps → AreListed qs → AreListed (pairs_added ps qs)
  sum_listed [] qs a c = c
  sum_listed (p ∷ ps) qs a c = added_listed p.0 p.1 (pairs_added ps qs) a.0 (sum_listed ps qs a.1 c)

  scaled_listed : (k : ℤ) (ps : List (Symbol × ℤ)) → AreListed ps → AreListed (map (λ p. (p.0, k *ℤ p.1)) ps)
  scaled_listed k [] a = tt
  scaled_listed k (p ∷ ps) a = (a.0, scaled_listed k ps a.1)

  tuple_listed : (p : PlaceOf Symbol) → IsListedTuple variables p → AreListed p.linear.pairs
  tuple_listed p l = property_from_members (λ q. IsMember variables q.0) p.linear.pairs (λ q m. l.listed q.0 (q.1, m))

  total_listed : (places : List (PlaceOf Symbol)) → AllByRecursion (IsListedTuple variables) places → AreListed (total places).pairs
  total_listed [] a = tt
  total_listed (p ∷ places) a = sum_listed p.linear.pairs (total places).pairs (tuple_listed p a.0) (total_listed places a.1)

  difference_listed : (places others : List (PlaceOf Symbol)) → AllByRecursion (IsListedTuple variables) places → AllByRecursion (IsListedTuple variables) others
      → AreListed (difference places (total others)).pairs
  difference_listed places others a c =
      sum_listed (total places).pairs (scaled (negsuc 0) (total others)).pairs (total_listed places a) (scaled_listed (negsuc 0) (total others).pairs (total_listed others c))

  -- ---- in a form in order, the value where one variable is 1 is its coefficient

  value_at : (k : ℕ) → 0 < k → (ps : List (Symbol × ℤ)) → InOrder ps → (p : Symbol × ℤ) → IsMember ps p → variable_number variables p.0 ≡ k
      → pairs_value (one_at variables k) ps ≡ p.1
  value_at k l [] i p m e = absurd m
  value_at k l (q ∷ ps) i p (inl f) e =
      go (variable_number variables q.0 == k) (same_nat (variable_number variables q.0) k (ap (λ z. variable_number variables z.0) (sym f) ∙ e))
    where
      alone : (c z w : ℤ) → c ≡ w → z ≡ pos 0 → c +ℤ z ≡ w
      alone c z w g h = omega (arith, ints, g, h)

      go : (t : Bool) → t ≡ true → (q.1 *ℤ (if t then pos 1 else pos 0)) +ℤ pairs_value (one_at variables k) ps ≡ p.1
      go true g =
          alone (q.1 *ℤ pos 1) (pairs_value (one_at variables k) ps) p.1 (times_one q.1 ∙ sym (ap (λ z. z.1) f))
          (none_left variables k l q.0 (ap (λ z. variable_number variables z.0) (sym f) ∙ e) ps i.0)
      go false g = absurd (true≢false (sym g))
  value_at k l (q ∷ ps) i p (inr m) e = go (variable_number variables q.0 == k) refl (value_at k l ps i.1 p m e)
    where
      left : (c z w : ℤ) → c ≡ pos 0 → z ≡ w → c +ℤ z ≡ w
      left c z w g h = omega (arith, ints, g, h)

      below : (rs : List (Symbol × ℤ)) → AllByRecursion (λ r. symbol_cmp q.0 r.0 ≡ Less) rs → IsMember rs p → symbol_cmp q.0 p.0 ≡ Less
      below rs a n = property_member (λ r. symbol_cmp q.0 r.0 ≡ Less) rs p a n

      go : (t : Bool) → (variable_number variables q.0 == k) ≡ t → pairs_value (one_at variables k) ps ≡ p.1
          → (q.1 *ℤ (if t then pos 1 else pos 0)) +ℤ pairs_value (one_at variables k) ps ≡ p.1
      go true g rec =
          let same = number_one 1 variables q.0 p.0 k (has_number variables (number_of variables q.0) k l (nats_same (variable_number variables q.0) k g)) (has_number variables (number_of variables p.0) k l e) in
          let less = subst (λ z. symbol_cmp z p.0 ≡ Less) same (below ps i.0 m) in
          absurd (one_way symbol_cmp symbols_turn p.0 p.0 less less)
      go false g rec = left (q.1 *ℤ pos 0) (pairs_value (one_at variables k) ps) p.1 (*ℤ-zero q.1) rec

  -- totals whose numbers are small over numbers are small over symbols
  small_back : (symbols : List Symbol) (held more : List Place) (places others : List (PlaceOf Symbol))
      → map (place_of symbols) held ≡ map (place_numbered variables) places → map (place_of symbols) more ≡ map (place_numbered variables) others
      → AllByRecursion (IsListedTuple variables) places → AllByRecursion (IsListedTuple variables) others
      → is_small_difference (length variables) (first_places held) (first_places more) ≡ true → is_small_form (difference places (total others)) ≡ true
  small_back symbols held more places others e f a c s =
      let both = and_elim (list_all (λ x. is_small (total_coefficient x (first_places held) -ℤ total_coefficient x (first_places more))) (range_with_len 1 (length variables)))
      (is_small (total_constant (first_places held) -ℤ total_constant (first_places more))) s in
      and_intro (list_all (λ (p : Symbol × ℤ). is_small p.1) (difference places (total others)).pairs) (is_small (difference places (total others)).constant)
      (all_from_members (λ (p : Symbol × ℤ). is_small p.1) (difference places (total others)).pairs (λ p m. each p m both.0))
      (ap is_small (sym (difference_number variables symbols held more places others e f)) ∙ both.1)
    where
      each : (p : Symbol × ℤ) → IsMember (difference places (total others)).pairs p
          → list_all (λ x. is_small (total_coefficient x (first_places held) -ℤ total_coefficient x (first_places more))) (range_with_len 1 (length variables)) ≡ true
          → is_small p.1 ≡ true
      each p m all =
          let known = property_member (λ q. IsMember variables q.0) (difference places (total others)).pairs p (difference_listed places others a c) m in
          let k = variable_number variables p.0 in
          let small = all_member (λ x. is_small (total_coefficient x (first_places held) -ℤ total_coefficient x (first_places more))) (range_with_len 1 (length variables)) k all (number_in p.0 known) in
          let value = difference_value variables symbols held more places others e f k
          ∙ value_at k (number_above p.0 known) (difference places (total others)).pairs (difference_in_order variables places others) p m refl in
          ap is_small (sym value) ∙ small

  -- ---- variables that are many

  -- a list of numbers that are those of symbols with the property gives as many symbols
  record Shown (V : Symbol → Type 0) (ks : List ℕ) : Type 0 where
    shown : List Symbol
    same : length shown ≡ length ks
    apart : IsApart shown
    each : AllByRecursion V shown
    numbers : (x : Symbol) → IsMember shown x → IsMember ks (variable_number variables x)

  shown_all : (V : Symbol → Type 0) (ks : List ℕ) → IsApart ks → ((k : ℕ) → IsMember ks k → (x : Symbol) × (variable_number variables x ≡ k) × V x) → Shown V ks
  shown_all V [] a f = record { shown = []; same = refl; apart = tt; each = tt; numbers = λ x m. m }
  shown_all V (k ∷ ks) a f =
      let r = shown_all V ks a.1 (λ j m. f j (inr m)) in
      let x = f k (inl refl) in record {
        shown = x.0 ∷ r.shown;
        same = ap suc r.same;
        apart = (λ m. a.0 (subst (IsMember ks) x.1 (r.numbers x.0 m)), r.apart);
        each = (x.2, r.each);
        numbers = λ y m. go x.0 x.1 r.shown r.numbers y m;
      }
    where
      go : (x : Symbol) → variable_number variables x ≡ k → (shown : List Symbol) → ((z : Symbol) → IsMember shown z → IsMember ks (variable_number variables z))
          → (y : Symbol) → IsMember (x ∷ shown) y → IsMember (k ∷ ks) (variable_number variables y)
      go x e shown numbers y (inl f) = inl (ap (variable_number variables) f ∙ e)
      go x e shown numbers y (inr m) = inr (numbers y m)

  many_variables : (V : Symbol → Type 0) (linears : List Linear) → ((k : ℕ) → occurs linears k ≡ true → (x : Symbol) × (variable_number variables x ≡ k) × V x)
      → has_few_variables (length variables) linears ≡ false → Exceeds V most
  many_variables V linears f e =
      let range = range_with_len 1 (length variables) in
      let r = shown_all V (filter (occurs linears) range) (filter_apart (occurs linears) range (range_apart 1 (length variables))) (λ k m. f k (filter_passes (occurs linears) range k m)) in
      record { shown = r.shown; apart = r.apart; each = r.each; more = subst (λ n. most < n) (sym r.same) (past (length (filter (occurs linears) range)) most e) }

  few_shown : (V : Symbol → Type 0) (linears : List Linear) → ((x : Symbol) → V x → IsMember variables x) → ((x : Symbol) → V x → occurs linears (variable_number variables x) ≡ true)
      → has_few_variables (length variables) linears ≡ true → Exceeds V most → ⊥
  few_shown V linears listed seen few many =
      let range = range_with_len 1 (length variables) in
      let members : (x : Symbol) → IsMember many.shown x → V x = λ x m. property_member V many.shown x many.each m in
      let least = no_more (map (variable_number variables) many.shown) (filter (occurs linears) range)
      (numbers_apart many.shown many.apart (λ x m. listed x (members x m)))
      (λ k m.
      let r = map_member (variable_number variables) many.shown k m in
      subst (IsMember (filter (occurs linears) range)) (sym r.2)
      (passes_filter (occurs linears) range (variable_number variables r.0) (number_in r.0 (listed r.0 (members r.0 r.1))) (seen r.0 (members r.0 r.1)))) in
      let same = length-map many.shown (variable_number variables) in
      let few = within (length (filter (occurs linears) range)) most few in
      let more = many.more in
      against (length many.shown) (length (map (variable_number variables) many.shown)) (length (filter (occurs linears) range)) same least few more
    where
      against : (a b c : ℕ) → b ≡ a → b ≤ c → c ≤ most → most < a → ⊥
      against a b c e f g h = omega (arith, e, f, g, h)

-- ---- the tuples of a directive

not_show : (directive : TheoryName) → (directive ≡ name.Minimize) ⊎ (directive ≡ name.Maximize) → directive ≡ name.Show → ⊥
not_show directive (inl e) d = other (sym e ∙ d)
  where
    other : name.Minimize ≡ name.Show → ⊥
    other e = cc
not_show directive (inr e) d = other (sym e ∙ d)
  where
    other : name.Maximize ≡ name.Show → ⊥
    other e = cc

not_dom : (directive : TheoryName) → (directive ≡ name.Minimize) ⊎ (directive ≡ name.Maximize) → directive ≡ name.Dom → ⊥
not_dom directive (inl e) d = other (sym e ∙ d)
  where
    other : name.Minimize ≡ name.Dom → ⊥
    other e = cc
not_dom directive (inr e) d = other (sym e ∙ d)
  where
    other : name.Maximize ≡ name.Dom → ⊥
    other e = cc

module _ (rules : List ReadRule) (variables : List Symbol) (all : IsOrderedListOf symbol_cmp (IsVariable rules) variables) (symbols : List Symbol) where
  module _ (directive : TheoryName) (aim : (directive ≡ name.Minimize) ⊎ (directive ≡ name.Maximize)) (held : List Place) (places : List (PlaceOf Symbol))
      (ordered : IsOrderedListOf place_cmp (IsDirected rules directive) places)
      (same : map (place_of symbols) held ≡ map (place_numbered variables) places) (known : AreKnownPlaces (length symbols) held) where
    -- the variables of its tuples are the program's
    listed : (p : PlaceOf Symbol) → IsDirected rules directive p → (x : Symbol) → OccursInForm x p.linear → IsMember variables x
    listed p d x o =
        (all.all x).1 (
          d.0,
          d.1,
          d.2,
          record {
            relevant = d.3.relevant;
            member = duty_member d.1 d.2 d.3.head;
            other = λ e. not_show directive aim (sym d.3.name ∙ e);
            occurs = inl (λ e. not_dom directive aim (sym d.3.name ∙ e), (p, d.3.tuple, o));
          },
        )

    tuple : (p : PlaceOf Symbol) → IsMember places p → IsListedTuple variables p
    tuple p m =
        let d = (ordered.all p).0 m in
        let t = d.3.tuple in record {
          bound = bound_in_element d.1 d.0.values t.1 t.0.values;
          element = t.1;
          tuple = t.3;
          listed = listed p d;
        }

    pub tuples : AllByRecursion (IsListedTuple variables) places
    tuples = property_from_members (IsListedTuple variables) places tuple

    lengths : length held ≡ length places
    lengths = sym (length-map held (place_of symbols)) ∙ ap length same ∙ length-map places (place_numbered variables)

    one_variable : (x : Symbol) → IsDirectedVariable rules directive x → IsMember variables x
    one_variable x v = listed v.0 v.1 x v.2

    one_occurs : (x : Symbol) → IsDirectedVariable rules directive x → occurs (first_places held) (variable_number variables x) ≡ true
    one_occurs x v = occurs_to variables symbols held places same v.0 ((ordered.all v.0).1 v.1) x v.2

    -- sound tuples and their variables are not many
    few_tuples : are_sound_places (length symbols) (length variables) held ≡ true → Exceeds (IsDirected rules directive) most → ⊥
    few_tuples s many =
        let p = and_elim ((list_all (is_sound_place (length symbols) (length variables)) held && are_different held) && nat_le (length held) most) (has_few_variables (length variables) (first_places held)) s in
        let q = and_elim (list_all (is_sound_place (length symbols) (length variables)) held && are_different held) (nat_le (length held) most) p.0 in
        let few = within (length held) most q.1 in
        let more = (exceeds_all (IsDirected rules directive) places most (ascends_apart place_cmp places_turn places ordered.ascend) ordered.all).0 many in
        against (length held) (length places) lengths few more
      where
        against : (a b : ℕ) → a ≡ b → a ≤ most → most < b → ⊥
        against a b e f g = omega (arith, e, f, g)

    pub few : are_sound_places (length symbols) (length variables) held ≡ true → Exceeds (IsDirectedVariable rules directive) most → ⊥
    few s many =
        let p = and_elim ((list_all (is_sound_place (length symbols) (length variables)) held && are_different held) && nat_le (length held) most) (has_few_variables (length variables) (first_places held)) s in
        few_shown variables (IsDirectedVariable rules directive) (first_places held) one_variable one_occurs p.1 many

    -- tuples that are not sound, or their variables, are many
    pub many : are_sound_places (length symbols) (length variables) held ≡ false → HasLargeObjective rules
    many e =
        go
        (split ((list_all (is_sound_place (length symbols) (length variables)) held && are_different held) && nat_le (length held) most)
        (has_few_variables (length variables) (first_places held)) e)
      where
        fine : (list_all (is_sound_place (length symbols) (length variables)) held && are_different held) ≡ true
        fine =
            and_intro (list_all (is_sound_place (length symbols) (length variables)) held) (are_different held) (each_sound variables all.ascend symbols held places same tuples known)
            (all_different variables symbols held places same tuples ordered.ascend)

        tuples_many : nat_le (length held) most ≡ false → HasLargeObjective rules
        tuples_many f =
            ManyTuples directive aim
            ((exceeds_all (IsDirected rules directive) places most (ascends_apart place_cmp places_turn places ordered.ascend) ordered.all).1
            (subst (λ n. most < n) lengths (past (length held) most f)))

        first : (list_all (is_sound_place (length symbols) (length variables)) held && are_different held) ≡ false ⊎ (nat_le (length held) most ≡ false) → HasLargeObjective rules
        first (inl f) = absurd (true≢false (sym fine ∙ f))
        first (inr f) = tuples_many f

        go : (((list_all (is_sound_place (length symbols) (length variables)) held && are_different held) && nat_le (length held) most) ≡ false)
            ⊎ (has_few_variables (length variables) (first_places held) ≡ false) → HasLargeObjective rules
        go (inl f) = first (split (list_all (is_sound_place (length symbols) (length variables)) held && are_different held) (nat_le (length held) most) f)
        go (inr f) =
            ManyVariables directive aim
            (many_variables variables (IsDirectedVariable rules directive) (first_places held)
            (λ k h. let r = occurs_from variables symbols held places same k h in (r.0, r.1, (r.2.0, (ordered.all r.2.0).0 r.2.1, r.2.2))) f)

pub small_law : SmallObjectiveLaw
small_law rules variables symbols smaller larger of sound large = go large
  where
    one : are_sound_places (length symbols) (length variables) smaller ≡ true
    one =
        (and_elim (are_sound_places (length symbols) (length variables) smaller) (are_sound_places (length symbols) (length variables) larger)
        (and_elim (are_sound_places (length symbols) (length variables) smaller && are_sound_places (length symbols) (length variables) larger)
        (is_small_difference (length variables) (first_places smaller) (first_places larger)) sound).0).0

    other : are_sound_places (length symbols) (length variables) larger ≡ true
    other =
        (and_elim (are_sound_places (length symbols) (length variables) smaller) (are_sound_places (length symbols) (length variables) larger)
        (and_elim (are_sound_places (length symbols) (length variables) smaller && are_sound_places (length symbols) (length variables) larger)
        (is_small_difference (length variables) (first_places smaller) (first_places larger)) sound).0).1

    apart : is_small_difference (length variables) (first_places smaller) (first_places larger) ≡ true
    apart =
        (and_elim (are_sound_places (length symbols) (length variables) smaller && are_sound_places (length symbols) (length variables) larger)
        (is_small_difference (length variables) (first_places smaller) (first_places larger)) sound).1

    low : List (PlaceOf Symbol)
    low = of.minimised.0

    no_tuples : (directive : TheoryName) → (directive ≡ name.Minimize) ⊎ (directive ≡ name.Maximize) → Exceeds (IsDirected rules directive) most → ⊥
    no_tuples directive (inl e) m =
        few_tuples rules variables of.integers symbols name.Minimize (inl refl) smaller of.minimised.0 of.minimised.1 of.minimised.2 of.known_smaller one
        (subst (λ d. Exceeds (IsDirected rules d) most) e m)
    no_tuples directive (inr e) m =
        few_tuples rules variables of.integers symbols name.Maximize (inr refl) larger of.maximised.0 of.maximised.1 of.maximised.2 of.known_larger other
        (subst (λ d. Exceeds (IsDirected rules d) most) e m)

    no_variables : (directive : TheoryName) → (directive ≡ name.Minimize) ⊎ (directive ≡ name.Maximize) → Exceeds (IsDirectedVariable rules directive) most → ⊥
    no_variables directive (inl e) m =
        few rules variables of.integers symbols name.Minimize (inl refl) smaller of.minimised.0 of.minimised.1 of.minimised.2 of.known_smaller one
        (subst (λ d. Exceeds (IsDirectedVariable rules d) most) e m)
    no_variables directive (inr e) m =
        few rules variables of.integers symbols name.Maximize (inr refl) larger of.maximised.0 of.maximised.1 of.maximised.2 of.known_larger other
        (subst (λ d. Exceeds (IsDirectedVariable rules d) most) e m)

    small : is_small_form (difference of.minimised.0 (total of.maximised.0)) ≡ true
    small =
        small_back variables symbols smaller larger of.minimised.0 of.maximised.0 of.minimised.2 of.maximised.2
        (tuples rules variables of.integers symbols name.Minimize (inl refl) smaller of.minimised.0 of.minimised.1 of.minimised.2 of.known_smaller)
        (tuples rules variables of.integers symbols name.Maximize (inr refl) larger of.maximised.0 of.maximised.1 of.maximised.2 of.known_larger) apart

    go : HasLargeObjective rules → ⊥
    go (ManyTuples directive aim m) = no_tuples directive aim m
    go (ManyVariables directive aim m) = no_variables directive aim m
    go (LargeDifference d) =
        let e = ordered_same place_cmp places_turn (IsDirected rules name.Minimize) d.smaller of.minimised.0 d.minimised of.minimised.1 in
        let f = ordered_same place_cmp places_turn (IsDirected rules name.Maximize) d.larger of.maximised.0 d.maximised of.maximised.1 in
        true≢false (sym small ∙ sym (λ i. is_small_form (difference (e i) (total (f i)))) ∙ d.large)

pub large_law : LargeObjectiveLaw
large_law rules variables symbols smaller larger of unsound =
    go
    (split (are_sound_places (length symbols) (length variables) smaller && are_sound_places (length symbols) (length variables) larger)
    (is_small_difference (length variables) (first_places smaller) (first_places larger)) unsound)
  where
    sets : (are_sound_places (length symbols) (length variables) smaller ≡ false) ⊎ (are_sound_places (length symbols) (length variables) larger ≡ false) → HasLargeObjective rules
    sets (inl e) = many rules variables of.integers symbols name.Minimize (inl refl) smaller of.minimised.0 of.minimised.1 of.minimised.2 of.known_smaller e
    sets (inr e) = many rules variables of.integers symbols name.Maximize (inr refl) larger of.maximised.0 of.maximised.1 of.maximised.2 of.known_larger e

    apart : is_small_difference (length variables) (first_places smaller) (first_places larger) ≡ false
        → (is_small_form (difference of.minimised.0 (total of.maximised.0)) ≡ true) ⊎ (is_small_form (difference of.minimised.0 (total of.maximised.0)) ≡ false) → HasLargeObjective rules
    apart e (inl s) =
        absurd (true≢false (sym (small_totals variables symbols smaller larger of.minimised.0 of.maximised.0 of.minimised.2 of.maximised.2 s) ∙ e))
    apart e (inr s) = LargeDifference (record { smaller = of.minimised.0; larger = of.maximised.0; minimised = of.minimised.1; maximised = of.maximised.1; large = s })

    go : ((are_sound_places (length symbols) (length variables) smaller && are_sound_places (length symbols) (length variables) larger) ≡ false)
        ⊎ (is_small_difference (length variables) (first_places smaller) (first_places larger) ≡ false) → HasLargeObjective rules
    go (inl e) = sets (split (are_sound_places (length symbols) (length variables) smaller) (are_sound_places (length symbols) (length variables) larger) e)
    go (inr e) = apart e (bool_cases (is_small_form (difference of.minimised.0 (total of.maximised.0))))
