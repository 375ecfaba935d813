-- A relation within its limits is sound over numbers.
use Rattle.std.proofs.Common.{◌≡◌, ◌⊎◌, ◌<◌, inl, inr, ℕ, zero, suc, nat_le, Bool, true, false, ◌&&◌, ◌==◌, ◌+◌, ℤ, pos, negsuc, ◌+ℤ◌, ◌-ℤ◌, ◌*ℤ◌, List, [], ◌∷◌, Option, length, map, None, Some, if◌then◌else◌, refl, sym, ◌∙◌, ap, subst, true≢false, arith}
use Rattle.std.specs.List.{AllByRecursion, list_all, list_any, range_with_len}
use Rattle.std.specs.declared.cmp.Ordering.TheVariants.{Less}
use Rattle.std.proofs.lemmas.Int.{ints}
use Rattle.std.proofs.Math.IntN.{suc_ℤ-*ℤ, zero-*ℤ, *ℤ_comm, *ℤ-zero}
use Rattle.symbols.specs.declared.ends.Ends.{Ends}
use Rattle.symbols.specs.Symbol.{Symbol}
use Rattle.symbols.specs.Order.{symbol_cmp}
use Rattle.syntax_tree.specs.declared.literal.Guard.{Guard}
use Rattle.syntax_tree.specs.declared.literal.TheoryName.{TheoryName}
use Rattle.syntax_tree.specs.declared.literal.TheoryName.TheVariants as name
use Rattle.ground_model.specs.declared.linear.Linear.{Linear}
use Rattle.ground_model.specs.declared.linear.Place.{Place}
use Rattle.ground_model.specs.Members.{IsMember}
use Rattle.ground_model.specs.Rule.{LinearOf, PlaceOf}
use Rattle.ground_model.specs.Sound.{most, is_small, are_known, least_product, greatest_product, least_sum, greatest_sum, is_small_over, coefficient, total_coefficient, total_constant, is_small_difference, first_places, occurs, has_few_variables, are_different, is_sound_linear, is_sound_place, are_sound_places, is_sound_relation}
use Rattle.ground_model.specs.Truth.{pairs_value}
use Rattle.ground_model.specs.View.{linear_of, place_of}
use Rattle.ground_model.proofs.Bools.{and_elim, and_intro, or_elim}
use Rattle.program_meaning.specs.Read.{ReadTheory, ReadRule}
use Rattle.program_meaning.specs.Ascending.{Ascends, IsOrderedListOf, Exceeds}
use Rattle.program_meaning.specs.Substitution.{Value}
use Rattle.program_meaning.specs.Theory.{place_cmp}
use Rattle.program_meaning.specs.Canonical.{number_of, or_zero, variable_number, linear_numbered, place_numbered}
use Rattle.program_meaning.specs.Collected.{scaled, is_small_form}
use Rattle.program_meaning.specs.Ground.{is_relation, GuardAs}
use Rattle.program_meaning.specs.Instance.{bound_in, IsPossible}
use Rattle.program_meaning.specs.Outside.{total, difference, least_of, greatest_of, is_small_within, IsVariableIn}
use Rattle.program_meaning.specs.Tuples.{IsTuple, OccursInForm, OccursInGuard}
use Rattle.program_meaning.specs.Laws.{SoundRelationLaw, SoundValuesLaw}
use Rattle.program_meaning.proofs.CollectedForms.{InOrder, sum_in_order, scaled_in_order, form_law, sound_term_law}
use Rattle.program_meaning.proofs.CollectedValue.{pairs_sum, pairs_times, minus_one}
use Rattle.program_meaning.proofs.Numbers.{number_one}
use Rattle.program_meaning.proofs.Orders.{symbols_turn, one_way}
use Rattle.program_meaning.proofs.SoundTuples.{heads, tails, sound_tuples_law, few_variables, few_tuple_variables_law, occurs_from, any_found, mapped_from, nats_same}

times_one : (c : ℤ) → c *ℤ pos 1 ≡ c
times_one c = *ℤ_comm c (pos 1) ∙ suc_ℤ-*ℤ (pos 0) c ∙ ap (λ z. z +ℤ c) (zero-*ℤ c) ∙ none c
  where
    none : (c : ℤ) → pos 0 +ℤ c ≡ c
    none c = omega (arith, ints)

module _ (variables : List Symbol) where
  abbrev numbered : Symbol × ℤ → ℕ × ℤ
  numbered pair = (variable_number variables pair.0, pair.1)

  -- 1 for the variable of a number, and 0 for all others
  abbrev one_at : ℕ → Symbol → ℤ
  one_at k x = (if variable_number variables x == k then pos 1 else pos 0)

  counted : (b : Bool) (c : ℤ) → (if b then c else pos 0) ≡ c *ℤ (if b then pos 1 else pos 0)
  counted true c = sym (times_one c)
  counted false c = sym (*ℤ-zero c)

  -- a coefficient over numbers is a value where this variable is 1
  coefficient_value : (k : ℕ) (ps : List (Symbol × ℤ)) → coefficient k (map numbered ps) ≡ pairs_value (one_at k) ps
  coefficient_value k [] = refl
  coefficient_value k (p ∷ ps) = λ i. counted (variable_number variables p.0 == k) p.1 i +ℤ coefficient_value k ps i

  -- ---- in a form in order it is one coefficient at most

  has_number : (o : Option ℕ) (k : ℕ) → 0 < k → or_zero o ≡ k → o ≡ Some k
  has_number None k l e = absurd (omega (arith, l, e))
  has_number (Some n) k l e = ap Some e

  none_left : (k : ℕ) → 0 < k → (x : Symbol) → variable_number variables x ≡ k → (ps : List (Symbol × ℤ)) → AllByRecursion (λ p. symbol_cmp x p.0 ≡ Less) ps
      → pairs_value (one_at k) ps ≡ pos 0
  none_left k l x e [] a = refl
  none_left k l x e (p ∷ ps) a = go (variable_number variables p.0 == k) refl (none_left k l x e ps a.1)
    where
      zero_sum : (c z : ℤ) → c ≡ pos 0 → z ≡ pos 0 → c +ℤ z ≡ pos 0
      zero_sum c z f g = omega (arith, ints, f, g)

      go : (b : Bool) → (variable_number variables p.0 == k) ≡ b → pairs_value (one_at k) ps ≡ pos 0
          → (p.1 *ℤ (if b then pos 1 else pos 0)) +ℤ pairs_value (one_at k) ps ≡ pos 0
      go true f rec =
          let same = number_one 1 variables x p.0 k (has_number (number_of variables x) k l e) (has_number (number_of variables p.0) k l (nats_same (variable_number variables p.0) k f)) in
          let less = subst (λ z. symbol_cmp x z ≡ Less) (sym same) a.0 in
          absurd (one_way symbol_cmp symbols_turn x x less less)
      go false f rec = zero_sum (p.1 *ℤ pos 0) (pairs_value (one_at k) ps) (*ℤ-zero p.1) rec

  small_value : (k : ℕ) → 0 < k → (ps : List (Symbol × ℤ)) → InOrder ps → list_all (λ (p : Symbol × ℤ). is_small p.1) ps ≡ true → is_small (pairs_value (one_at k) ps) ≡ true
  small_value k l [] i s = refl
  small_value k l (p ∷ ps) i s =
      let both = and_elim (is_small p.1) (list_all (λ (q : Symbol × ℤ). is_small q.1) ps) s in
      go both.0 (variable_number variables p.0 == k) refl (small_value k l ps i.1 both.1)
    where
      alone : (c z : ℤ) → z ≡ pos 0 → c ≡ c +ℤ z
      alone c z e = omega (arith, ints, e)

      left : (c z : ℤ) → c ≡ pos 0 → z ≡ c +ℤ z
      left c z e = omega (arith, ints, e)

      go : is_small p.1 ≡ true → (b : Bool) → (variable_number variables p.0 == k) ≡ b → is_small (pairs_value (one_at k) ps) ≡ true
          → is_small ((p.1 *ℤ (if b then pos 1 else pos 0)) +ℤ pairs_value (one_at k) ps) ≡ true
      go small true f rec =
          subst (λ z. is_small z ≡ true)
          (sym (times_one p.1) ∙ alone (p.1 *ℤ pos 1) (pairs_value (one_at k) ps) (none_left k l p.0 (nats_same (variable_number variables p.0) k f) ps i.0)) small
      go small false f rec = subst (λ z. is_small z ≡ true) (left (p.1 *ℤ pos 0) (pairs_value (one_at k) ps) (*ℤ-zero p.1)) rec

  -- ---- totals

  total_value : (k : ℕ) (symbols : List Symbol) (held : List Place) (places : List (PlaceOf Symbol)) → map (place_of symbols) held ≡ map (place_numbered variables) places
      → total_coefficient k (first_places held) ≡ pairs_value (one_at k) (total places).pairs
  total_value k symbols [] [] e = refl
  total_value k symbols [] (p ∷ places) e = cc
  total_value k symbols (h ∷ held) [] e = cc
  total_value k symbols (h ∷ held) (p ∷ places) e =
      let first = ap (λ z. z.linear.pairs) (heads _ _ _ _ e) in
      (λ i. (ap (coefficient k) first ∙ coefficient_value k p.linear.pairs) i +ℤ total_value k symbols held places (tails _ _ _ _ e) i)
      ∙ sym (pairs_sum (one_at k) p.linear.pairs (total places).pairs)

  total_number : (symbols : List Symbol) (held : List Place) (places : List (PlaceOf Symbol)) → map (place_of symbols) held ≡ map (place_numbered variables) places
      → total_constant (first_places held) ≡ (total places).constant
  total_number symbols [] [] e = refl
  total_number symbols [] (p ∷ places) e = cc
  total_number symbols (h ∷ held) [] e = cc
  total_number symbols (h ∷ held) (p ∷ places) e =
      λ i. ap (λ z. z.linear.constant) (heads _ _ _ _ e) i +ℤ total_number symbols held places (tails _ _ _ _ e) i

  minus_sum : (a b : ℤ) → a -ℤ (b +ℤ pos 0) ≡ a +ℤ (pos 0 -ℤ b)
  minus_sum a b = omega (arith, ints)

  difference_value : (k : ℕ) (symbols : List Symbol) (held : List Place) (places : List (PlaceOf Symbol)) (linear : Linear) (right : LinearOf Symbol)
      → map (place_of symbols) held ≡ map (place_numbered variables) places → linear_of linear ≡ linear_numbered variables right
      → total_coefficient k (first_places held) -ℤ total_coefficient k (linear ∷ []) ≡ pairs_value (one_at k) (difference places right).pairs
  difference_value k symbols held places linear right e f =
      minus_sum (total_coefficient k (first_places held)) (coefficient k linear.pairs)
      ∙ (λ i. total_value k symbols held places e i +ℤ (pos 0 -ℤ (ap (λ z. coefficient k z.pairs) f ∙ coefficient_value k right.pairs) i))
      ∙ ap (λ z. pairs_value (one_at k) (total places).pairs +ℤ z) (sym (pairs_times (one_at k) (negsuc 0) right.pairs ∙ minus_one (pairs_value (one_at k) right.pairs)))
      ∙ sym (pairs_sum (one_at k) (total places).pairs (scaled (negsuc 0) right).pairs)

  small_difference : (symbols : List Symbol) (held : List Place) (places : List (PlaceOf Symbol)) (linear : Linear) (right : LinearOf Symbol) → InOrder right.pairs
      → map (place_of symbols) held ≡ map (place_numbered variables) places → linear_of linear ≡ linear_numbered variables right
      → is_small_form (difference places right) ≡ true → is_small_difference (length variables) (first_places held) (linear ∷ []) ≡ true
  small_difference symbols held places linear right order e f s =
      let both = and_elim (list_all (λ (p : Symbol × ℤ). is_small p.1) (difference places right).pairs) (is_small (difference places right).constant) s in
      let up = sum_in_order (total places).pairs (scaled (negsuc 0) right).pairs (scaled_in_order (negsuc 0) right.pairs order) in
      and_intro (list_all (λ x. is_small (total_coefficient x (first_places held) -ℤ total_coefficient x (linear ∷ []))) (range_with_len 1 (length variables)))
      (is_small (total_constant (first_places held) -ℤ total_constant (linear ∷ [])))
      (each up both.0 1 (length variables) (omega arith))
      (ap is_small (minus_sum (total_constant (first_places held)) linear.constant
      ∙ (λ i. total_number symbols held places e i +ℤ (pos 0 -ℤ ap (λ z. z.constant) f i))
      ∙ ap (λ z. (total places).constant +ℤ z) (sym (minus_one right.constant))) ∙ both.1)
    where
      each : InOrder (difference places right).pairs → list_all (λ (p : Symbol × ℤ). is_small p.1) (difference places right).pairs ≡ true
          → (from count : ℕ) → 0 < from → list_all (λ x. is_small (total_coefficient x (first_places held) -ℤ total_coefficient x (linear ∷ []))) (range_with_len from count) ≡ true
      each up small from zero l = refl
      each up small from (suc count) l =
          and_intro (is_small (total_coefficient from (first_places held) -ℤ total_coefficient from (linear ∷ []))) _
          (ap is_small (difference_value from symbols held places linear right e f) ∙ small_value from l (difference places right).pairs up small)
          (each up small (from + 1) count (omega (arith, l)))

relation_name : (kind : TheoryName) → is_relation kind ≡ true → (kind ≡ name.Sum) ⊎ (kind ≡ name.Diff)
relation_name name.Sum e = inl refl
relation_name name.Diff e = inr refl
relation_name name.Dom e = absurd (true≢false (sym e))
relation_name name.Distinct e = absurd (true≢false (sym e))
relation_name name.Disjoint e = absurd (true≢false (sym e))
relation_name name.Minimize e = absurd (true≢false (sym e))
relation_name name.Maximize e = absurd (true≢false (sym e))
relation_name name.Show e = absurd (true≢false (sym e))
relation_name name.Unknown e = absurd (true≢false (sym e))

not_domain : (kind : TheoryName) → is_relation kind ≡ true → kind ≡ name.Dom → ⊥
not_domain kind e d = true≢false (sym (subst (λ k. is_relation k ≡ true) d e))

-- the tuples of a theory atom that is within its limits, and has no `&dom`, are sound
sound_places : (rules : List ReadRule) (rule : ReadRule) (values : List Value) (theory : ReadTheory) (variables symbols : List Symbol) (places : List (PlaceOf Symbol)) (held : List Place)
    → Ascends symbol_cmp variables → IsOrderedListOf place_cmp (IsTuple (IsPossible rules) rule values theory) places
    → (Exceeds (IsTuple (IsPossible rules) rule values theory) most → ⊥) → (Exceeds (IsVariableIn (IsPossible rules) rule values theory) most → ⊥)
    → (theory.name ≡ name.Dom → ⊥) → ((place : PlaceOf Symbol) → IsMember places place → (x : Symbol) → OccursInForm x place.linear → IsMember variables x)
    → map (place_of symbols) held ≡ map (place_numbered variables) places → AllByRecursion (λ place. are_known (length symbols) place.rest ≡ true) held
    → are_sound_places (length symbols) (length variables) held ≡ true
sound_places rules rule values theory variables symbols places held up ordered few_tuples few_names apart listed e known =
    let tuples = sound_tuples_law rules rule values theory variables places symbols held up ordered few_tuples listed e known in
    and_intro ((list_all (is_sound_place (length symbols) (length variables)) held && are_different held) && nat_le (length held) most)
    (has_few_variables (length variables) (first_places held))
    (and_intro (list_all (is_sound_place (length symbols) (length variables)) held && are_different held) (nat_le (length held) most)
    (and_intro (list_all (is_sound_place (length symbols) (length variables)) held) (are_different held) tuples.0 tuples.1) tuples.2)
    (few_tuple_variables_law rules rule values theory variables places symbols held ordered apart few_names e)

is_true : (b : Bool) → (b ≡ false → ⊥) → b ≡ true
is_true true n = refl
is_true false n = absurd (n refl)

pub sound_relation_law : SoundRelationLaw
sound_relation_law rules rule values theory variables symbols relation held up made few_tuples few_names small_total listed right_listed e known =
    with_guard theory.guard refl made.guard
  where
    elements : map (place_of symbols) held.elements ≡ map (place_numbered variables) relation.elements
    elements = ap (λ z. z.elements) e

    right : linear_of held.right ≡ linear_numbered variables relation.right
    right = ap (λ z. z.right) e

    sound_tuples : are_sound_places (length symbols) (length variables) held.elements ≡ true
    sound_tuples =
        sound_places rules rule values theory variables symbols relation.elements held.elements up made.tuples few_tuples few_names (not_domain theory.name made.name)
        listed elements known

    with_guard : (guard : Option Guard) → theory.guard ≡ guard → GuardAs (bound_in rule values) guard relation.rel relation.right
        → is_sound_relation (length symbols) (length variables) held ≡ true
    with_guard None f g = absurd g
    with_guard (Some guard) f g =
        and_intro ((are_sound_places (length symbols) (length variables) held.elements && is_sound_linear (length variables) held.right)
        && has_few_variables (length variables) (held.right ∷ first_places held.elements))
        (is_small_difference (length variables) (first_places held.elements) (held.right ∷ []))
        (and_intro (are_sound_places (length symbols) (length variables) held.elements && is_sound_linear (length variables) held.right)
        (has_few_variables (length variables) (held.right ∷ first_places held.elements))
        (and_intro (are_sound_places (length symbols) (length variables) held.elements) (is_sound_linear (length variables) held.right) sound_tuples
        (sound_term_law variables up (bound_in rule values) guard.right relation.right g.1 right_listed held.right right))
        (few_variables variables (IsVariableIn (IsPossible rules) rule values theory) (held.right ∷ first_places held.elements) few_names (λ k h. variable_at k h)))
        (small_difference variables symbols held.elements relation.elements held.right relation.right
        (subst (λ z. InOrder z.pairs) g.1.same (form_law (bound_in rule values) guard.right).0) elements right
        (is_true (is_small_form (difference relation.elements relation.right))
        (λ large. small_total (record {
          name = relation_name theory.name made.name;
          places = relation.elements;
          tuples = made.tuples;
          guard = guard;
          written = f;
          right = relation.right;
          form = g.1;
          large = large;
        }))))
      where
        variable_at : (k : ℕ) → occurs (held.right ∷ first_places held.elements) k ≡ true
            → (x : Symbol) × (variable_number variables x ≡ k) × IsVariableIn (IsPossible rules) rule values theory x
        variable_at k h = go (or_elim (list_any (λ (pair : ℕ × ℤ). pair.0 == k) held.right.pairs) (occurs (first_places held.elements) k) h)
          where
            go : (list_any (λ (pair : ℕ × ℤ). pair.0 == k) held.right.pairs ≡ true) ⊎ (occurs (first_places held.elements) k ≡ true)
                → (x : Symbol) × (variable_number variables x ≡ k) × IsVariableIn (IsPossible rules) rule values theory x
            go (inl s) =
                let pair = any_found (λ (z : ℕ × ℤ). z.0 == k) held.right.pairs s in
                let one = mapped_from (λ (q : Symbol × ℤ). (variable_number variables q.0, q.1)) relation.right.pairs pair.0 (subst (λ zs. IsMember zs pair.0) (ap (λ z. z.pairs) right) pair.1) in
                (one.0.0, sym (ap (λ z. z.0) one.2) ∙ nats_same pair.0.0 k pair.2, inr (subst (λ g. OccursInGuard (bound_in rule values) g one.0.0) (sym f) (relation.right, g.1, (one.0.1, one.1))))
            go (inr s) =
                let r = occurs_from variables symbols held.elements relation.elements elements k s in
                (r.0, r.1, inl (not_domain theory.name made.name, (r.2.0, (made.tuples.all r.2.0).0 r.2.1, r.2.2)))

-- ---- values over the ends

least_same : (ends : Ends) (variables : List Symbol) (ps : List (Symbol × ℤ)) → least_sum ends (map (numbered variables) ps) ≡ least_of ends ps
least_same ends variables [] = refl
least_same ends variables (p ∷ ps) = ap (λ z. least_product ends p.1 +ℤ z) (least_same ends variables ps)

greatest_same : (ends : Ends) (variables : List Symbol) (ps : List (Symbol × ℤ)) → greatest_sum ends (map (numbered variables) ps) ≡ greatest_of ends ps
greatest_same ends variables [] = refl
greatest_same ends variables (p ∷ ps) = ap (λ z. greatest_product ends p.1 +ℤ z) (greatest_same ends variables ps)

same_values : (ends : Ends) (variables : List Symbol) (linear : Linear) (form : LinearOf Symbol) → linear_of linear ≡ linear_numbered variables form
    → is_small_over ends linear ≡ is_small_within ends form
same_values ends variables linear form e =
    let pairs = ap (λ z. z.pairs) e in
    let constant = ap (λ z. z.constant) e in
    let least = ap (least_sum ends) pairs ∙ least_same ends variables form.pairs in
    let greatest = ap (greatest_sum ends) pairs ∙ greatest_same ends variables form.pairs in
    λ i. is_small (least i +ℤ constant i) && is_small (greatest i +ℤ constant i)

no_dom : (kind : TheoryName) → (kind ≡ name.Distinct) ⊎ (kind ≡ name.Disjoint) → kind ≡ name.Dom → ⊥
no_dom kind (inl e) d = other (sym e ∙ d)
  where
    other : name.Distinct ≡ name.Dom → ⊥
    other e = cc
no_dom kind (inr e) d = other (sym e ∙ d)
  where
    other : name.Disjoint ≡ name.Dom → ⊥
    other e = cc

pub sound_values_law : SoundValuesLaw
sound_values_law rules ends rule values theory variables places symbols held up ordered kind few_tuples few_names small listed e known =
    and_intro (are_sound_places (length symbols) (length variables) held) (list_all (is_small_over ends) (first_places held))
    (sound_places rules rule values theory variables symbols places held up ordered few_tuples few_names (no_dom theory.name kind) listed e known)
    (each held places (λ p m. m) e)
  where
    each : (hs : List Place) (ps : List (PlaceOf Symbol)) → ((p : PlaceOf Symbol) → IsMember ps p → IsMember places p)
        → map (place_of symbols) hs ≡ map (place_numbered variables) ps → list_all (is_small_over ends) (first_places hs) ≡ true
    each [] ps sub f = refl
    each (h ∷ hs) [] sub f = cc
    each (h ∷ hs) (p ∷ ps) sub f =
        and_intro (is_small_over ends h.linear) (list_all (is_small_over ends) (first_places hs))
        (same_values ends variables h.linear p.linear (ap (λ z. z.linear) (heads _ _ _ _ f))
        ∙ is_true (is_small_within ends p.linear)
        (λ large. small (record { name = kind; place = p; tuple = (ordered.all p).0 (sub p (inl refl)); large = large })))
        (each hs ps (λ q m. sub q (inr m)) (tails _ _ _ _ f))
