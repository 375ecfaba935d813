-- Tuples that are one variable, their marks, and what the flags of variables say.
use Rattle.std.proofs.Common.{◌≡◌, ◌<◌, ◌⊎◌, inl, inr, ◌==◌, ℕ, zero, suc, Bool, true, false, not, ◌&&◌, ◌||◌, if◌then◌else◌, ℤ, pos, List, [], ◌∷◌, length, map, Option, None, Some, refl, sym, ◌∙◌, ap, subst, true≢false, arith}
use Rattle.std.specs.Prelude.{slice_index_or, slice_set}
use Rattle.std.specs.List.{AllByRecursion, AllZip, list_any}
use Rattle.std.specs.Ordering.{int_eq}
use Rattle.std.proofs.lemmas.Bool.Decides.{nat_tests}
use Rattle.std.proofs.lemmas.Int.{ints}
use Rattle.symbols.specs.Symbol.{Symbol}
use Rattle.symbols.specs.Table.{symbol_at, IsOnce}
use Rattle.syntax_tree.specs.declared.literal.TheoryName.TheVariants as name
use Rattle.ground_model.proofs.Bools.{and_elim, or_elim, or_left, or_right, same_test}
use Rattle.ground_model.proofs.MemberLemmas.{any_member, member_any, property_member, member_map, map_member}
use Rattle.program_meaning.specs.declared.collected.CollectedPlace.{CollectedPlace}
use Rattle.program_meaning.specs.declared.collected.SymbolLinear.{SymbolLinear}
use Rattle.program_meaning.specs.Read.{ReadRule}
use Rattle.program_meaning.specs.Canonical.{has_directive, ShowsVariable, IsShownFlag}
use Rattle.program_meaning.specs.Collected.{variable_form}
use Rattle.program_meaning.specs.Said.{pair_in, linear_in, place_in}
use Rattle.symbol_rules.specs.Reading.{HasPlace}
use Rattle.directed_tuples.specs.Tuples.{AreTuplesOf}
use Rattle.shown_flags.specs.inner.Lone.{lone_from, lone_variable, is_it, is_lone, flag_of}

-- ---- one pair

pub lone_many : (pairs : List (ℕ × ℤ)) (constant : ℤ) → (length pairs ≡ 1 → ⊥) → lone_from pairs constant ≡ None
lone_many [] constant n = refl
lone_many (pair ∷ []) constant n = absurd (n refl)
lone_many (pair ∷ other ∷ rest) constant n = refl

pub lone_one : (pairs : List (ℕ × ℤ)) (constant : ℤ) (d : ℕ × ℤ) → length pairs ≡ 1
    → lone_from pairs constant
    ≡ (if int_eq (slice_index_or pairs 0 d).1 (pos 1) && int_eq constant (pos 0) then Some (slice_index_or pairs 0 d).0 else None)
lone_one [] constant d e = absurd (omega (arith, e))
lone_one (pair ∷ []) constant d e = refl
lone_one (pair ∷ other ∷ rest) constant d e = absurd (more (length rest) e)
  where
    more : (n : ℕ) → suc (suc n) ≡ 1 → ⊥
    more n e = omega (arith, e)

ints_same : (a b : ℤ) → int_eq a b ≡ true → a ≡ b
ints_same a b e = grind (arith, ints)

some_same : (a b : ℕ) → Some a ≡ Some b → a ≡ b
some_same a b e = cc

-- what the test finds is the one pair
lone_pairs : (pairs : List (ℕ × ℤ)) (constant : ℤ) (id : ℕ) → lone_from pairs constant ≡ Some id → (pairs ≡ (id, pos 1) ∷ []) × (constant ≡ pos 0)
lone_pairs [] constant id e = absurd (nothing e)
  where
    nothing : None ≡ Some id → ⊥
    nothing e = cc
lone_pairs (pair ∷ []) constant id e = go (int_eq pair.1 (pos 1) && int_eq constant (pos 0)) refl e
  where
    found : (int_eq pair.1 (pos 1) && int_eq constant (pos 0)) ≡ true → pair.0 ≡ id → (pair ∷ [] ≡ (id, pos 1) ∷ []) × (constant ≡ pos 0)
    found t f =
        let both = and_elim (int_eq pair.1 (pos 1)) (int_eq constant (pos 0)) t in
        let second = ints_same pair.1 (pos 1) both.0 in
        ((λ i. (f i, second i) ∷ []), ints_same constant (pos 0) both.1)

    go : (t : Bool) → (int_eq pair.1 (pos 1) && int_eq constant (pos 0)) ≡ t → (if t then Some pair.0 else None) ≡ Some id → (pair ∷ [] ≡ (id, pos 1) ∷ []) × (constant ≡ pos 0)
    go true t e = found t (some_same pair.0 id e)
    go false t e = absurd (nothing e)
      where
        nothing : None ≡ Some id → ⊥
        nothing e = cc
lone_pairs (pair ∷ other ∷ rest) constant id e = absurd (nothing e)
  where
    nothing : None ≡ Some id → ⊥
    nothing e = cc

pub lone_known : (size : ℕ) (place : CollectedPlace) (id : ℕ) → HasPlace size place → lone_variable place ≡ Some id → id < size
lone_known size place id known e =
    let pairs = (lone_pairs place.linear.pairs place.linear.constant id e).0 in
    (subst (AllByRecursion (λ pair. pair.0 < size)) pairs known.linear).0

-- ---- marks

pub set_flag : (flags : List Bool) (id other : ℕ) → id < length flags → flag_of (slice_set flags id true) other ≡ ((id == other) || flag_of flags other)
set_flag [] id other l = absurd (omega (arith, l))
set_flag (flag ∷ flags) zero zero l = refl
set_flag (flag ∷ flags) zero (suc other) l = ap (λ t. t || flag_of flags other) (sym (apart other))
  where
    apart : (n : ℕ) → (0 == suc n) ≡ false
    apart n = grind (arith, nat_tests)
set_flag (flag ∷ flags) (suc id) zero l = ap (λ t. t || flag) (sym (apart id))
  where
    apart : (n : ℕ) → (suc n == 0) ≡ false
    apart n = grind (arith, nat_tests)
set_flag (flag ∷ flags) (suc id) (suc other) l = set_flag flags id other (omega (arith, l)) ∙ ap (λ t. t || flag_of flags other) (one (id == other) (suc id == suc other) less more)
  where
    one : (a b : Bool) → (a ≡ true → b ≡ true) → (b ≡ true → a ≡ true) → a ≡ b
    one a b f g = same_test a b f g

    less : (id == other) ≡ true → (suc id == suc other) ≡ true
    less e = grind (arith, nat_tests)

    more : (suc id == suc other) ≡ true → (id == other) ≡ true
    more e = grind (arith, nat_tests)

pub mark_some : (flags : List Bool) (place : CollectedPlace) (id : ℕ) → lone_variable place ≡ Some id → id < length flags
    → (other : ℕ) → flag_of (slice_set flags id true) other ≡ (is_lone other place || flag_of flags other)
mark_some flags place id e l other = set_flag flags id other l ∙ ap (λ o. is_it other o || flag_of flags other) (sym e)

pub mark_none : (flags : List Bool) (place : CollectedPlace) → lone_variable place ≡ None
    → (other : ℕ) → flag_of flags other ≡ (is_lone other place || flag_of flags other)
mark_none flags place e other = ap (λ o. is_it other o || flag_of flags other) (sym e)

pub mark_more : (places rest : List CollectedPlace) (place : CollectedPlace) (old new : List Bool) (all : ℕ → Bool)
    → ((id : ℕ) → (list_any (is_lone id) (place ∷ rest) || flag_of old id) ≡ all id)
    → ((id : ℕ) → flag_of new id ≡ (is_lone id place || flag_of old id))
    → (id : ℕ) → (list_any (is_lone id) rest || flag_of new id) ≡ all id
mark_more places rest place old new all so_far step id =
    ap (λ t. list_any (is_lone id) rest || t) (step id) ∙ turn (list_any (is_lone id) rest) (is_lone id place) (flag_of old id) ∙ so_far id
  where
    turn : (a b c : Bool) → (a || (b || c)) ≡ ((b || a) || c)
    turn true true c = refl
    turn true false c = refl
    turn false true c = refl
    turn false false c = refl

-- ---- flags

module _ (rules : List ReadRule) (symbols : List Symbol) (once : IsOnce symbols) (shows : Bool) (shown : List CollectedPlace) (marks : List Bool)
    (known : AllByRecursion (HasPlace (length symbols)) shown) (is : has_directive rules name.Show ≡ shows) (of : AreTuplesOf rules symbols name.Show shown)
    (marked : (id : ℕ) → flag_of marks id ≡ list_any (is_lone id) shown) where
  is_it_true : (id : ℕ) (o : Option ℕ) → is_it id o ≡ true → o ≡ Some id
  is_it_true id None e = absurd (true≢false (sym e))
  is_it_true id (Some other) e = ap Some (nats other id e)
    where
      nats : (a b : ℕ) → (a == b) ≡ true → a ≡ b
      nats a b e = grind (arith, nat_tests)

  it_is : (id other : ℕ) (o : Option ℕ) → o ≡ Some other → other ≡ id → is_it id o ≡ true
  it_is id other o e f = ap (is_it id) e ∙ nats other id f
    where
      nats : (a b : ℕ) → a ≡ b → (a == b) ≡ true
      nats a b e = grind (arith, nat_tests)

  form_of : (place : CollectedPlace) (id : ℕ) → lone_variable place ≡ Some id → (place_in symbols place).linear ≡ variable_form (symbol_at symbols id)
  form_of place id e =
      let r = lone_pairs place.linear.pairs place.linear.constant id e in
      λ i. record { pairs = map (pair_in symbols) (r.0 i); constant = r.1 i }

  to_shown : (id : ℕ) → (not shows || flag_of marks id) ≡ true → ShowsVariable rules (symbol_at symbols id)
  to_shown id e = go (or_elim (not shows) (flag_of marks id) e)
    where
      none : (t : Bool) → not t ≡ true → t ≡ false
      none true e = absurd (true≢false (sym e))
      none false e = refl

      go : (not shows ≡ true) ⊎ (flag_of marks id ≡ true) → ShowsVariable rules (symbol_at symbols id)
      go (inl f) = inl (is ∙ none shows f)
      go (inr f) =
          let p = member_any (is_lone id) shown (sym (marked id) ∙ f) in
          inr (place_in symbols p.0, (of (place_in symbols p.0)).0 (member_map (place_in symbols) shown p.0 p.1), form_of p.0 id (is_it_true id (lone_variable p.0) p.2))

  -- a form that is a variable comes from a lone pair
  lone_back : (linear : SymbolLinear) (x : Symbol) → linear_in symbols linear ≡ variable_form x → (id : ℕ) × (lone_from linear.pairs linear.constant ≡ Some id) × (symbol_at symbols id ≡ x)
  lone_back linear x e = go linear.pairs linear.constant (ap (λ l. l.pairs) e) (ap (λ l. l.constant) e)
    where
      one : (t : ℤ) (c : ℤ) → t ≡ pos 1 → c ≡ pos 0 → (int_eq t (pos 1) && int_eq c (pos 0)) ≡ true
      one t c e f = λ i. int_eq (e i) (pos 1) && int_eq (f i) (pos 0)

      first : (a b : Symbol × ℤ) → a ∷ [] ≡ b ∷ [] → a ≡ b
      first a b e = cc

      go : (pairs : List (ℕ × ℤ)) (constant : ℤ) → map (pair_in symbols) pairs ≡ (x, pos 1) ∷ [] → constant ≡ pos 0
          → (id : ℕ) × (lone_from pairs constant ≡ Some id) × (symbol_at symbols id ≡ x)
      go [] constant e f = absurd (nothing (x, pos 1) e)
        where
          nothing : (a : Symbol × ℤ) → [] ≡ a ∷ [] → ⊥
          nothing a e = cc
      go (pair ∷ []) constant e f =
          let s = first (pair_in symbols pair) (x, pos 1) e in
          (pair.0, ap (λ t. if t then Some pair.0 else None) (one pair.1 constant (ap (λ p. p.1) s) f), ap (λ p. p.0) s)
      go (pair ∷ other ∷ rest) constant e f = absurd (nothing (pair_in symbols pair) (pair_in symbols other) (x, pos 1) (map (pair_in symbols) rest) e)
        where
          nothing : (a b c : Symbol × ℤ) (cs : List (Symbol × ℤ)) → a ∷ b ∷ cs ≡ c ∷ [] → ⊥
          nothing a b c cs e = cc

  from_shown : (id : ℕ) → id < length symbols → ShowsVariable rules (symbol_at symbols id) → (not shows || flag_of marks id) ≡ true
  from_shown id l (inl e) = or_left (not shows) (flag_of marks id) (ap not (sym is ∙ e))
  from_shown id l (inr (place, d, e)) =
      let r = map_member (place_in symbols) shown place ((of place).1 d) in
      let back = lone_back r.0.linear (symbol_at symbols id) (sym (ap (λ p. p.linear) r.2) ∙ e) in
      let there = property_member (HasPlace (length symbols)) shown r.0 known r.1 in
      let other = lone_known (length symbols) r.0 back.0 there back.1 in
      or_right (not shows) (flag_of marks id)
      (marked id ∙ any_member (is_lone id) shown r.0 r.1 (it_is id back.0 (lone_variable r.0) back.1 (once back.0 id other l back.2)))

  pub flags_are : (variables : List ℕ) → AllByRecursion (λ id. id < length symbols) variables
      → AllZip (IsShownFlag rules) (map (symbol_at symbols) variables) (map (λ id. not shows || flag_of marks id) variables)
  flags_are [] k = tt
  flags_are (id ∷ variables) k = ((to_shown id, from_shown id k.0), flags_are variables k.1)
