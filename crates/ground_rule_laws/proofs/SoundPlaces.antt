-- Tuples in order, over numbers, are sound: each of them, and all different.
use Rattle.std.proofs.Common.{◌≡◌, ◌≤◌, ◌⊎◌, inl, inr, ℕ, suc, ◌+◌, nat_eq, Bool, true, false, not, ◌&&◌, ◌==◌, ℤ, pos, ◌≤ℤ◌, int_le, List, [], ◌∷◌, Option, length, map, None, Some, refl, sym, ◌∙◌, ap, subst, true≢false, arith}
use Rattle.std.specs.Cmp.Lexicographic.{pointwise}
use Rattle.std.specs.List.{AllByRecursion, list_all, list_any}
use Rattle.std.specs.Ordering.{int_eq}
use Rattle.std.specs.declared.cmp.Ordering.TheVariants.{Less}
use Rattle.std.proofs.lemmas.Int.{ints}
use Rattle.std.proofs.lemmas.Bool.Decides.{nat_tests}
use Rattle.symbols.specs.Symbol.{Symbol}
use Rattle.symbols.specs.Order.{symbol_cmp}
use Rattle.symbols.specs.Table.{symbol_at}
use Rattle.syntax_tree.specs.declared.term.Term.{Term}
use Rattle.syntax_tree.specs.Outcome.{Outcome}
use Rattle.ground_model.specs.declared.linear.Place.{Place}
use Rattle.ground_model.specs.Members.{IsMember}
use Rattle.ground_model.specs.Rule.{PlaceOf}
use Rattle.ground_model.specs.Sound.{same_pair, same_place, are_different, are_known, is_number, is_sound_linear, is_sound_place}
use Rattle.ground_model.specs.View.{place_of}
use Rattle.ground_model.proofs.Bools.{and_elim, and_intro, or_elim}
use Rattle.program_meaning.specs.Read.{ReadElement}
use Rattle.program_meaning.specs.Ascending.{Ascends}
use Rattle.program_meaning.specs.Canonical.{number_of, or_zero, variable_number, place_numbered}
use Rattle.program_meaning.specs.Theory.{HasDuration, HasTuple, place_cmp}
use Rattle.program_meaning.specs.Tuples.{OccursInForm}
use Rattle.program_meaning.proofs.CollectedForms.{sound_term_law}
use Rattle.program_meaning.proofs.Numbers.{number_least, number_most, number_found, number_one}
use Rattle.program_meaning.proofs.Orders.{places_turn, one_way}
use Rattle.program_meaning.proofs.SoundTuples.{heads, tails, nats_same}
use Rattle.ground_rule_laws.specs.Laws.{AreKnownPlaces}

-- ---- numbers

pub number_within : (symbols : List Symbol) (a : Symbol) (n : ℕ) → number_of symbols a ≡ Some n → is_number (length symbols) n ≡ true
number_within symbols a n e = within n (length symbols) (number_least 1 symbols a n e) (number_most 1 symbols a n e)
  where
    within : (n count : ℕ) → 1 ≤ n → suc n ≤ 1 + count → is_number count n ≡ true
    within n count l m = grind (arith, nat_tests)

pub variable_within : (variables : List Symbol) (x : Symbol) → IsMember variables x → is_number (length variables) (variable_number variables x) ≡ true
variable_within variables x m =
    let r = number_found 1 variables x m in
    subst (λ n. is_number (length variables) n ≡ true) (sym (ap or_zero r.1)) (number_within variables x r.0 r.1)

-- ---- tuples that look the same

ints_same : (a b : ℤ) → int_eq a b ≡ true → a ≡ b
ints_same a b e = grind (arith, ints)

lists_same : {X : Type 0} (test : X → X → Bool) → ((a b : X) → test a b ≡ true → a ≡ b) → (xs ys : List X) → pointwise test xs ys ≡ true → xs ≡ ys
lists_same test same [] [] e = refl
lists_same test same [] (y ∷ ys) e = absurd (true≢false (sym e))
lists_same test same (x ∷ xs) [] e = absurd (true≢false (sym e))
lists_same test same (x ∷ xs) (y ∷ ys) e =
    let both = and_elim (test x y) (pointwise test xs ys) e in
    let first = same x y both.0 in
    let rest = lists_same test same xs ys both.1 in
    λ i. first i ∷ rest i

pairs_same : (a b : ℕ × ℤ) → same_pair a b ≡ true → a ≡ b
pairs_same a b e =
    let both = and_elim (a.0 == b.0) (int_eq a.1 b.1) e in
    let first = nats_same a.0 b.0 both.0 in
    let second = ints_same a.1 b.1 both.1 in
    λ i. (first i, second i)

places_same : (symbols : List Symbol) (a b : Place) → same_place a b ≡ true → place_of symbols a ≡ place_of symbols b
places_same symbols a b e =
    let one = and_elim ((pointwise same_pair a.linear.pairs b.linear.pairs && int_eq a.linear.constant b.linear.constant) && int_eq a.duration b.duration) (pointwise nat_eq a.rest b.rest) e in
    let two = and_elim (pointwise same_pair a.linear.pairs b.linear.pairs && int_eq a.linear.constant b.linear.constant) (int_eq a.duration b.duration) one.0 in
    let three = and_elim (pointwise same_pair a.linear.pairs b.linear.pairs) (int_eq a.linear.constant b.linear.constant) two.0 in
    let pairs = lists_same same_pair pairs_same a.linear.pairs b.linear.pairs three.0 in
    let constant = ints_same a.linear.constant b.linear.constant three.1 in
    let duration = ints_same a.duration b.duration two.1 in
    let rest = lists_same nat_eq nats_same a.rest b.rest one.1 in
    λ i. record { linear = record { pairs = pairs i; constant = constant i }; duration = duration i; rest = map (symbol_at symbols) (rest i) }

module _ (variables : List Symbol) where
  -- ---- numbers tell variables apart

  same_variable : (x y : Symbol) → IsMember variables x → IsMember variables y → variable_number variables x ≡ variable_number variables y → x ≡ y
  same_variable x y m k e =
      let j = number_found 1 variables x m in
      let l = number_found 1 variables y k in
      number_one 1 variables x y j.0 j.1 (l.1 ∙ ap Some (sym (sym (ap or_zero j.1) ∙ e ∙ ap or_zero l.1)))

  abbrev numbered : Symbol × ℤ → ℕ × ℤ
  numbered pair = (variable_number variables pair.0, pair.1)

  abbrev Listed : List (Symbol × ℤ) → Type 0
  Listed ps = (p : Symbol × ℤ) → IsMember ps p → IsMember variables p.0

  same_pairs : (ps qs : List (Symbol × ℤ)) → Listed ps → Listed qs → map numbered ps ≡ map numbered qs → ps ≡ qs
  same_pairs [] [] k l e = refl
  same_pairs [] (q ∷ qs) k l e = cc
  same_pairs (p ∷ ps) [] k l e = cc
  same_pairs (p ∷ ps) (q ∷ qs) k l e =
      let first = heads _ _ _ _ e in
      let variable = same_variable p.0 q.0 (k p (inl refl)) (l q (inl refl)) (ap (λ z. z.0) first) in
      let coefficient = ap (λ z. z.1) first in
      let rest = same_pairs ps qs (λ r m. k r (inr m)) (λ r m. l r (inr m)) (tails _ _ _ _ e) in
      λ i. (variable i, coefficient i) ∷ rest i

  same_tuple : (p q : PlaceOf Symbol) → Listed p.linear.pairs → Listed q.linear.pairs → place_numbered variables p ≡ place_numbered variables q → p ≡ q
  same_tuple p q k l e =
      let pairs = same_pairs p.linear.pairs q.linear.pairs k l (ap (λ z. z.linear.pairs) e) in
      let constant = ap (λ z. z.linear.constant) e in
      let duration = ap (λ z. z.duration) e in
      let rest = ap (λ z. z.rest) e in
      λ i. record { linear = record { pairs = pairs i; constant = constant i }; duration = duration i; rest = rest i }

  -- ---- all of them are different

  -- the tuple is that of some element, and its variables are listed
  pub record IsListedTuple (place : PlaceOf Symbol) : Type 0 where
    pub bound : List Outcome
    pub element : ReadElement
    pub tuple : HasTuple bound element place
    pub listed : (x : Symbol) → OccursInForm x place.linear → IsMember variables x

  pairs_listed : (p : PlaceOf Symbol) → IsListedTuple p → Listed p.linear.pairs
  pairs_listed p l q m = l.listed q.0 (q.1, m)

  not_among : (symbols : List Symbol) (h : Place) (p : PlaceOf Symbol) (held : List Place) (places : List (PlaceOf Symbol))
      → map (place_of symbols) held ≡ map (place_numbered variables) places → place_of symbols h ≡ place_numbered variables p
      → IsListedTuple p → AllByRecursion IsListedTuple places → AllByRecursion (λ q. place_cmp p q ≡ Less) places → list_any (same_place h) held ≡ true → ⊥
  not_among symbols h p [] places e f k all a g = true≢false (sym g)
  not_among symbols h p (i ∷ held) [] e f k all a g = nothing e
    where
      nothing : map (place_of symbols) (i ∷ held) ≡ [] → ⊥
      nothing e = cc
  not_among symbols h p (i ∷ held) (q ∷ places) e f k all a g =
      go (or_elim (same_place h i) (list_any (same_place h) held) g) (not_among symbols h p held places (tails _ _ _ _ e) f k all.1 a.1)
    where
      go : (same_place h i ≡ true) ⊎ (list_any (same_place h) held ≡ true) → (list_any (same_place h) held ≡ true → ⊥) → ⊥
      go (inl s) rec =
          let same = same_tuple p q (pairs_listed p k) (pairs_listed q all.0) (sym f ∙ places_same symbols h i s ∙ heads _ _ _ _ e) in
          let less = subst (λ z. place_cmp p z ≡ Less) (sym same) a.0 in
          one_way place_cmp places_turn p p less less
      go (inr s) rec = rec s

  pub all_different : (symbols : List Symbol) (held : List Place) (places : List (PlaceOf Symbol)) → map (place_of symbols) held ≡ map (place_numbered variables) places
      → AllByRecursion IsListedTuple places → Ascends place_cmp places → are_different held ≡ true
  all_different symbols [] places e all a = refl
  all_different symbols (h ∷ held) [] e all a = absurd (nothing e)
    where
      nothing : map (place_of symbols) (h ∷ held) ≡ [] → ⊥
      nothing e = cc
  all_different symbols (h ∷ held) (p ∷ places) e all a =
      and_intro (not (list_any (same_place h) held)) (are_different held)
      (no (list_any (same_place h) held) (not_among symbols h p held places (tails _ _ _ _ e) (heads _ _ _ _ e) all.0 all.1 a.0))
      (all_different symbols held places (tails _ _ _ _ e) all.1 a.1)
    where
      no : (b : Bool) → (b ≡ true → ⊥) → not b ≡ true
      no true n = absurd (n refl)
      no false n = refl

  -- ---- each of them is sound

  not_negative : (d : ℤ) → pos 0 ≤ℤ d → int_le (pos 0) d ≡ true
  not_negative d l = grind (arith, ints)

  duration_from : (bound : List Outcome) (written : Option Term) (d : ℤ) → HasDuration bound written d → pos 0 ≤ℤ d
  duration_from bound None d h = subst (λ z. pos 0 ≤ℤ z) (sym h) zero_least
    where
      zero_least : pos 0 ≤ℤ pos 0
      zero_least = omega (arith, ints)
  duration_from bound (Some term) d h = h.1

  pub each_sound : Ascends symbol_cmp variables → (symbols : List Symbol) (held : List Place) (places : List (PlaceOf Symbol))
      → map (place_of symbols) held ≡ map (place_numbered variables) places → AllByRecursion IsListedTuple places → AreKnownPlaces (length symbols) held
      → list_all (is_sound_place (length symbols) (length variables)) held ≡ true
  each_sound up symbols [] places e all k = refl
  each_sound up symbols (h ∷ held) [] e all k = absurd (nothing e)
    where
      nothing : map (place_of symbols) (h ∷ held) ≡ [] → ⊥
      nothing e = cc
  each_sound up symbols (h ∷ held) (p ∷ places) e all k =
      and_intro (is_sound_place (length symbols) (length variables) h) (list_all (is_sound_place (length symbols) (length variables)) held)
      (one (heads _ _ _ _ e) all.0) (each_sound up symbols held places (tails _ _ _ _ e) all.1 k.1)
    where
      one : place_of symbols h ≡ place_numbered variables p → IsListedTuple p → is_sound_place (length symbols) (length variables) h ≡ true
      one f t =
          and_intro (is_sound_linear (length variables) h.linear && int_le (pos 0) h.duration) (are_known (length symbols) h.rest)
          (and_intro (is_sound_linear (length variables) h.linear) (int_le (pos 0) h.duration)
          (sound_term_law variables up t.bound t.element.first p.linear t.tuple.linear t.listed h.linear (ap (λ z. z.linear) f))
          (not_negative h.duration (subst (λ d. pos 0 ≤ℤ d) (sym (ap (λ z. z.duration) f)) (duration_from t.bound t.element.duration p.duration t.tuple.duration)))) k.0
