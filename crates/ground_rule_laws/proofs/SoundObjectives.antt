-- An objective that is not too large is sound.
use Rattle.std.proofs.Common.{◌≡◌, ◌⊎◌, ◌<◌, inl, inr, ℕ, zero, suc, nat_le, Bool, true, false, ◌&&◌, ◌==◌, ◌+◌, ℤ, pos, negsuc, ◌+ℤ◌, ◌-ℤ◌, ◌*ℤ◌, List, [], ◌∷◌, Option, length, map, None, Some, if◌then◌else◌, refl, sym, ◌∙◌, ap, subst, arith}
use Rattle.std.specs.List.{AllByRecursion, list_all, range_with_len}
use Rattle.std.specs.declared.cmp.Ordering.TheVariants.{Less}
use Rattle.std.proofs.lemmas.Bool.Decides.{nat_tests}
use Rattle.std.proofs.lemmas.Int.{ints}
use Rattle.std.proofs.lemmas.List.{length-map}
use Rattle.std.proofs.Math.IntN.{suc_ℤ-*ℤ, zero-*ℤ, *ℤ_comm, *ℤ-zero}
use Rattle.symbols.specs.Symbol.{Symbol}
use Rattle.symbols.specs.Order.{symbol_cmp}
use Rattle.syntax_tree.specs.declared.literal.TheoryName.{TheoryName}
use Rattle.syntax_tree.specs.declared.literal.TheoryName.TheVariants as name
use Rattle.ground_model.specs.declared.linear.Place.{Place}
use Rattle.ground_model.specs.Members.{IsMember}
use Rattle.ground_model.specs.Rule.{PlaceOf}
use Rattle.ground_model.specs.Sound.{most, is_small, coefficient, total_coefficient, total_constant, is_small_difference, first_places, has_few_variables, are_different, is_sound_place, are_sound_places}
use Rattle.ground_model.specs.Truth.{pairs_value}
use Rattle.ground_model.specs.View.{place_of}
use Rattle.ground_model.proofs.Bools.{and_elim, and_intro}
use Rattle.ground_model.proofs.MemberLemmas.{property_from_members}
use Rattle.program_meaning.specs.Read.{ReadRule}
use Rattle.program_meaning.specs.Ascending.{IsOrderedListOf}
use Rattle.program_meaning.specs.Instance.{bound_in_element}
use Rattle.program_meaning.specs.Theory.{place_cmp}
use Rattle.program_meaning.specs.Tuples.{OccursInForm}
use Rattle.program_meaning.specs.Canonical.{number_of, or_zero, variable_number, place_numbered, IsVariable, IsDirected}
use Rattle.program_meaning.specs.Collected.{scaled, is_small_form}
use Rattle.program_meaning.specs.Outside.{total, difference, IsDirectedVariable, HasLargeObjective, ManyTuples, ManyVariables, LargeDifference}
use Rattle.program_meaning.proofs.CollectedForms.{InOrder, sum_in_order, scaled_in_order}
use Rattle.program_meaning.proofs.CollectedValue.{pairs_sum, pairs_times, minus_one}
use Rattle.program_meaning.proofs.Known.{duty_member}
use Rattle.program_meaning.proofs.Lists.{ascends_apart, exceeds_all}
use Rattle.program_meaning.proofs.Numbers.{number_one}
use Rattle.program_meaning.proofs.Orders.{symbols_turn, places_turn, one_way}
use Rattle.program_meaning.proofs.SoundTuples.{heads, tails, nats_same, few_variables, occurs_from}
use Rattle.ground_rule_laws.specs.Laws.{AreKnownPlaces, SoundObjectiveLaw}
use Rattle.ground_rule_laws.proofs.SoundPlaces.{IsListedTuple, all_different, each_sound}

pub times_one : (c : ℤ) → c *ℤ pos 1 ≡ c
times_one c = *ℤ_comm c (pos 1) ∙ suc_ℤ-*ℤ (pos 0) c ∙ ap (λ z. z +ℤ c) (zero-*ℤ c) ∙ none c
  where
    none : (c : ℤ) → pos 0 +ℤ c ≡ c
    none c = omega (arith, ints)

module _ (variables : List Symbol) where
  abbrev numbered : Symbol × ℤ → ℕ × ℤ
  numbered pair = (variable_number variables pair.0, pair.1)

  -- 1 for the variable of a number, and 0 for all others
  abbrev pub one_at : ℕ → Symbol → ℤ
  one_at k x = (if variable_number variables x == k then pos 1 else pos 0)

  counted : (b : Bool) (c : ℤ) → (if b then c else pos 0) ≡ c *ℤ (if b then pos 1 else pos 0)
  counted true c = sym (times_one c)
  counted false c = sym (*ℤ-zero c)

  -- a coefficient over numbers is a value where this variable is 1
  coefficient_value : (k : ℕ) (ps : List (Symbol × ℤ)) → coefficient k (map numbered ps) ≡ pairs_value (one_at k) ps
  coefficient_value k [] = refl
  coefficient_value k (p ∷ ps) = λ i. counted (variable_number variables p.0 == k) p.1 i +ℤ coefficient_value k ps i

  -- ---- in a form in order it is one coefficient at most

  pub has_number : (o : Option ℕ) (k : ℕ) → 0 < k → or_zero o ≡ k → o ≡ Some k
  has_number None k l e = absurd (omega (arith, l, e))
  has_number (Some n) k l e = ap Some e

  pub none_left : (k : ℕ) → 0 < k → (x : Symbol) → variable_number variables x ≡ k → (ps : List (Symbol × ℤ)) → AllByRecursion (λ p. symbol_cmp x p.0 ≡ Less) ps
      → pairs_value (one_at k) ps ≡ pos 0
  none_left k l x e [] a = refl
  none_left k l x e (p ∷ ps) a = go (variable_number variables p.0 == k) refl (none_left k l x e ps a.1)
    where
      zero_sum : (c z : ℤ) → c ≡ pos 0 → z ≡ pos 0 → c +ℤ z ≡ pos 0
      zero_sum c z f g = omega (arith, ints, f, g)

      go : (b : Bool) → (variable_number variables p.0 == k) ≡ b → pairs_value (one_at k) ps ≡ pos 0
          → (p.1 *ℤ (if b then pos 1 else pos 0)) +ℤ pairs_value (one_at k) ps ≡ pos 0
      go true f rec =
          let same = number_one 1 variables x p.0 k (has_number (number_of variables x) k l e) (has_number (number_of variables p.0) k l (nats_same (variable_number variables p.0) k f)) in
          let less = subst (λ z. symbol_cmp x z ≡ Less) (sym same) a.0 in
          absurd (one_way symbol_cmp symbols_turn x x less less)
      go false f rec = zero_sum (p.1 *ℤ pos 0) (pairs_value (one_at k) ps) (*ℤ-zero p.1) rec

  small_value : (k : ℕ) → 0 < k → (ps : List (Symbol × ℤ)) → InOrder ps → list_all (λ (p : Symbol × ℤ). is_small p.1) ps ≡ true → is_small (pairs_value (one_at k) ps) ≡ true
  small_value k l [] i s = refl
  small_value k l (p ∷ ps) i s =
      let both = and_elim (is_small p.1) (list_all (λ (q : Symbol × ℤ). is_small q.1) ps) s in
      go both.0 (variable_number variables p.0 == k) refl (small_value k l ps i.1 both.1)
    where
      alone : (c z : ℤ) → z ≡ pos 0 → c ≡ c +ℤ z
      alone c z e = omega (arith, ints, e)

      left : (c z : ℤ) → c ≡ pos 0 → z ≡ c +ℤ z
      left c z e = omega (arith, ints, e)

      go : is_small p.1 ≡ true → (b : Bool) → (variable_number variables p.0 == k) ≡ b → is_small (pairs_value (one_at k) ps) ≡ true
          → is_small ((p.1 *ℤ (if b then pos 1 else pos 0)) +ℤ pairs_value (one_at k) ps) ≡ true
      go small true f rec =
          subst (λ z. is_small z ≡ true)
          (sym (times_one p.1) ∙ alone (p.1 *ℤ pos 1) (pairs_value (one_at k) ps) (none_left k l p.0 (nats_same (variable_number variables p.0) k f) ps i.0)) small
      go small false f rec = subst (λ z. is_small z ≡ true) (left (p.1 *ℤ pos 0) (pairs_value (one_at k) ps) (*ℤ-zero p.1)) rec

  -- ---- totals

  total_value : (k : ℕ) (symbols : List Symbol) (held : List Place) (places : List (PlaceOf Symbol)) → map (place_of symbols) held ≡ map (place_numbered variables) places
      → total_coefficient k (first_places held) ≡ pairs_value (one_at k) (total places).pairs
  total_value k symbols [] [] e = refl
  total_value k symbols [] (p ∷ places) e = cc
  total_value k symbols (h ∷ held) [] e = cc
  total_value k symbols (h ∷ held) (p ∷ places) e =
      let first = ap (λ z. z.linear.pairs) (heads _ _ _ _ e) in
      (λ i. (ap (coefficient k) first ∙ coefficient_value k p.linear.pairs) i +ℤ total_value k symbols held places (tails _ _ _ _ e) i)
      ∙ sym (pairs_sum (one_at k) p.linear.pairs (total places).pairs)

  pub total_number : (symbols : List Symbol) (held : List Place) (places : List (PlaceOf Symbol)) → map (place_of symbols) held ≡ map (place_numbered variables) places
      → total_constant (first_places held) ≡ (total places).constant
  total_number symbols [] [] e = refl
  total_number symbols [] (p ∷ places) e = cc
  total_number symbols (h ∷ held) [] e = cc
  total_number symbols (h ∷ held) (p ∷ places) e =
      λ i. ap (λ z. z.linear.constant) (heads _ _ _ _ e) i +ℤ total_number symbols held places (tails _ _ _ _ e) i

  pub total_in_order : (places : List (PlaceOf Symbol)) → InOrder (total places).pairs
  total_in_order [] = tt
  total_in_order (p ∷ places) = sum_in_order p.linear.pairs (total places).pairs (total_in_order places)

  minus_sum : (a b : ℤ) → a -ℤ b ≡ a +ℤ (pos 0 -ℤ b)
  minus_sum a b = omega (arith, ints)

  pub difference_value : (symbols : List Symbol) (held more : List Place) (places others : List (PlaceOf Symbol))
      → map (place_of symbols) held ≡ map (place_numbered variables) places → map (place_of symbols) more ≡ map (place_numbered variables) others
      → (k : ℕ) → total_coefficient k (first_places held) -ℤ total_coefficient k (first_places more) ≡ pairs_value (one_at k) (difference places (total others)).pairs
  difference_value symbols held more places others e f k =
      minus_sum (total_coefficient k (first_places held)) (total_coefficient k (first_places more))
      ∙ (λ i. total_value k symbols held places e i +ℤ (pos 0 -ℤ total_value k symbols more others f i))
      ∙ ap (λ z. pairs_value (one_at k) (total places).pairs +ℤ z) (sym (pairs_times (one_at k) (negsuc 0) (total others).pairs ∙ minus_one (pairs_value (one_at k) (total others).pairs)))
      ∙ sym (pairs_sum (one_at k) (total places).pairs (scaled (negsuc 0) (total others)).pairs)

  pub difference_number : (symbols : List Symbol) (held more : List Place) (places others : List (PlaceOf Symbol))
      → map (place_of symbols) held ≡ map (place_numbered variables) places → map (place_of symbols) more ≡ map (place_numbered variables) others
      → total_constant (first_places held) -ℤ total_constant (first_places more) ≡ (difference places (total others)).constant
  difference_number symbols held more places others e f =
      minus_sum (total_constant (first_places held)) (total_constant (first_places more))
      ∙ (λ i. total_number symbols held places e i +ℤ (pos 0 -ℤ total_number symbols more others f i))
      ∙ ap (λ z. (total places).constant +ℤ z) (sym (minus_one (total others).constant))

  pub difference_in_order : (places others : List (PlaceOf Symbol)) → InOrder (difference places (total others)).pairs
  difference_in_order places others =
      sum_in_order (total places).pairs (scaled (negsuc 0) (total others)).pairs (scaled_in_order (negsuc 0) (total others).pairs (total_in_order others))

  -- the totals of two lists of tuples, over numbers and over symbols
  pub small_totals : (symbols : List Symbol) (held more : List Place) (places others : List (PlaceOf Symbol))
      → map (place_of symbols) held ≡ map (place_numbered variables) places → map (place_of symbols) more ≡ map (place_numbered variables) others
      → is_small_form (difference places (total others)) ≡ true → is_small_difference (length variables) (first_places held) (first_places more) ≡ true
  small_totals symbols held more places others e f s =
      let both = and_elim (list_all (λ (p : Symbol × ℤ). is_small p.1) (difference places (total others)).pairs) (is_small (difference places (total others)).constant) s in
      let up = difference_in_order places others in
      and_intro (list_all (λ x. is_small (total_coefficient x (first_places held) -ℤ total_coefficient x (first_places more))) (range_with_len 1 (length variables)))
      (is_small (total_constant (first_places held) -ℤ total_constant (first_places more)))
      (each up both.0 1 (length variables) (omega arith))
      (ap is_small (difference_number symbols held more places others e f) ∙ both.1)
    where
      each : InOrder (difference places (total others)).pairs → list_all (λ (p : Symbol × ℤ). is_small p.1) (difference places (total others)).pairs ≡ true
          → (from count : ℕ) → 0 < from → list_all (λ x. is_small (total_coefficient x (first_places held) -ℤ total_coefficient x (first_places more))) (range_with_len from count) ≡ true
      each up small from zero l = refl
      each up small from (suc count) l =
          and_intro (is_small (total_coefficient from (first_places held) -ℤ total_coefficient from (first_places more))) _
          (ap is_small (difference_value symbols held more places others e f from) ∙ small_value from l (difference places (total others)).pairs up small)
          (each up small (from + 1) count (omega (arith, l)))

-- ---- the tuples of a directive

abbrev pub IsAim : TheoryName → Type 0
IsAim directive = (directive ≡ name.Minimize) ⊎ (directive ≡ name.Maximize)

not_show : (directive : TheoryName) → IsAim directive → directive ≡ name.Show → ⊥
not_show directive (inl e) d = other (sym e ∙ d)
  where
    other : name.Minimize ≡ name.Show → ⊥
    other e = cc
not_show directive (inr e) d = other (sym e ∙ d)
  where
    other : name.Maximize ≡ name.Show → ⊥
    other e = cc

not_dom : (directive : TheoryName) → IsAim directive → directive ≡ name.Dom → ⊥
not_dom directive (inl e) d = other (sym e ∙ d)
  where
    other : name.Minimize ≡ name.Dom → ⊥
    other e = cc
not_dom directive (inr e) d = other (sym e ∙ d)
  where
    other : name.Maximize ≡ name.Dom → ⊥
    other e = cc

is_true : (b : Bool) → (b ≡ false → ⊥) → b ≡ true
is_true true n = refl
is_true false n = absurd (n refl)

past : (m n : ℕ) → nat_le m n ≡ false → n < m
past m n t = grind (arith, nat_tests)

module _ (rules : List ReadRule) (variables : List Symbol) (all : IsOrderedListOf symbol_cmp (IsVariable rules) variables) (fits : HasLargeObjective rules → ⊥) (symbols : List Symbol) where
  module _ (directive : TheoryName) (aim : IsAim directive) (held : List Place) (places : List (PlaceOf Symbol)) (ordered : IsOrderedListOf place_cmp (IsDirected rules directive) places)
      (same : map (place_of symbols) held ≡ map (place_numbered variables) places) (known : AreKnownPlaces (length symbols) held) where
    -- the variables of its tuples are the program's
    listed : (p : PlaceOf Symbol) → IsDirected rules directive p → (x : Symbol) → OccursInForm x p.linear → IsMember variables x
    listed p d x o =
        (all.all x).1 (
          d.0,
          d.1,
          d.2,
          record {
            relevant = d.3.relevant;
            member = duty_member d.1 d.2 d.3.head;
            other = λ e. not_show directive aim (sym d.3.name ∙ e);
            occurs = inl (λ e. not_dom directive aim (sym d.3.name ∙ e), (p, d.3.tuple, o));
          },
        )

    tuple : (p : PlaceOf Symbol) → IsMember places p → IsListedTuple variables p
    tuple p m =
        let d = (ordered.all p).0 m in
        let t = d.3.tuple in record {
          bound = bound_in_element d.1 d.0.values t.1 t.0.values;
          element = t.1;
          tuple = t.3;
          listed = listed p d;
        }

    pub places_sound : are_sound_places (length symbols) (length variables) held ≡ true
    places_sound =
        let tuples = property_from_members (IsListedTuple variables) places tuple in
        and_intro ((list_all (is_sound_place (length symbols) (length variables)) held && are_different held) && nat_le (length held) most)
        (has_few_variables (length variables) (first_places held))
        (and_intro (list_all (is_sound_place (length symbols) (length variables)) held && are_different held) (nat_le (length held) most)
        (and_intro (list_all (is_sound_place (length symbols) (length variables)) held) (are_different held)
        (each_sound variables all.ascend symbols held places same tuples known) (all_different variables symbols held places same tuples ordered.ascend))
        (is_true (nat_le (length held) most) (λ e. many (past (length held) most e))))
        (few_variables variables (IsDirectedVariable rules directive) (first_places held) (λ e. fits (ManyVariables directive aim e))
        (λ k h. let r = occurs_from variables symbols held places same k h in (r.0, r.1, (r.2.0, (ordered.all r.2.0).0 r.2.1, r.2.2))))
      where
        lengths : length held ≡ length places
        lengths = sym (length-map held (place_of symbols)) ∙ ap length same ∙ length-map places (place_numbered variables)

        many : most < length held → ⊥
        many l =
            fits (ManyTuples directive aim
            ((exceeds_all (IsDirected rules directive) places most (ascends_apart place_cmp places_turn places ordered.ascend) ordered.all).1 (subst (λ n. most < n) lengths l)))

pub sound_objective_law : SoundObjectiveLaw
sound_objective_law rules variables all fits symbols smaller larger low high low_known high_known =
    and_intro (are_sound_places (length symbols) (length variables) smaller && are_sound_places (length symbols) (length variables) larger)
    (is_small_difference (length variables) (first_places smaller) (first_places larger))
    (and_intro (are_sound_places (length symbols) (length variables) smaller) (are_sound_places (length symbols) (length variables) larger)
    (places_sound rules variables all fits symbols name.Minimize (inl refl) smaller low.0 low.1 low.2 low_known)
    (places_sound rules variables all fits symbols name.Maximize (inr refl) larger high.0 high.1 high.2 high_known))
    (small_totals variables symbols smaller larger low.0 high.0 low.2 high.2
    (is_true (is_small_form (difference low.0 (total high.0)))
    (λ large. fits (LargeDifference (record { smaller = low.0; larger = high.0; minimised = low.1; maximised = high.1; large = large })))))
