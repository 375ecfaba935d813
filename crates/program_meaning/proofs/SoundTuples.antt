-- The tuples of a theory atom are sound over numbers: each of them, and all of them together.
use Rattle.std.proofs.Common.{◌≡◌, ◌≤◌, ◌<◌, ◌⊎◌, inl, inr, ℕ, zero, suc, ◌+◌, nat_le, nat_eq, Bool, true, false, not, ◌&&◌, ◌==◌, ℤ, pos, ◌≤ℤ◌, int_le, List, [], ◌∷◌, Option, length, map, None, Some, refl, sym, ◌∙◌, ap, subst, true≢false, arith}
use Rattle.std.specs.Cmp.Lexicographic.{pointwise}
use Rattle.std.specs.List.{AllByRecursion, list_all, list_any, filter, range_with_len}
use Rattle.std.specs.Ordering.{int_eq}
use Rattle.std.specs.declared.cmp.Ordering.TheVariants.{Less}
use Rattle.std.proofs.lemmas.Bool.Decides.{nat_tests}
use Rattle.std.proofs.lemmas.Int.{ints}
use Rattle.std.proofs.lemmas.List.{length-map}
use Rattle.symbols.specs.Symbol.{Symbol}
use Rattle.symbols.specs.Table.{symbol_at}
use Rattle.syntax_tree.specs.declared.term.Term.{Term}
use Rattle.syntax_tree.specs.Outcome.{Outcome}
use Rattle.ground_model.specs.declared.linear.Linear.{Linear}
use Rattle.ground_model.specs.declared.linear.Place.{Place}
use Rattle.ground_model.specs.Members.{IsMember, IsApart}
use Rattle.ground_model.specs.Rule.{PlaceOf}
use Rattle.ground_model.specs.Sound.{most, occurs, first_places, has_few_variables, same_pair, same_place, are_different, are_known, is_sound_linear, is_sound_place}
use Rattle.ground_model.specs.View.{place_of}
use Rattle.ground_model.proofs.Bools.{and_elim, and_intro, or_elim}
use Rattle.program_meaning.specs.Ascending.{Ascends, Exceeds}
use Rattle.program_meaning.specs.Canonical.{or_zero, variable_number, place_numbered}
use Rattle.program_meaning.specs.Instance.{bound_in_element, IsPossible}
use Rattle.program_meaning.specs.Theory.{HasDuration, place_cmp}
use Rattle.program_meaning.specs.Tuples.{IsTuple, OccursInForm}
use Rattle.program_meaning.specs.Laws.{SoundTuplesLaw, FewVariablesLaw}
use Rattle.program_meaning.specs.Outside.{IsVariableIn}
use Rattle.program_meaning.proofs.CollectedForms.{sound_term_law}
use Rattle.program_meaning.proofs.Leaves.{filter_apart, filter_passes}
use Rattle.program_meaning.proofs.Lists.{ascends_apart, exceeds_all}
use Rattle.program_meaning.proofs.Numbers.{number_found, number_one}
use Rattle.program_meaning.proofs.Orders.{places_turn, one_way}

-- ---- tuples that look the same

ints_same : (a b : ℤ) → int_eq a b ≡ true → a ≡ b
ints_same a b e = grind (arith, ints)

pub nats_same : (a b : ℕ) → (a == b) ≡ true → a ≡ b
nats_same a b e = grind (arith, nat_tests)

lists_same : {X : Type 0} (test : X → X → Bool) → ((a b : X) → test a b ≡ true → a ≡ b) → (xs ys : List X) → pointwise test xs ys ≡ true → xs ≡ ys
lists_same test same [] [] e = refl
lists_same test same [] (y ∷ ys) e = absurd (true≢false (sym e))
lists_same test same (x ∷ xs) [] e = absurd (true≢false (sym e))
lists_same test same (x ∷ xs) (y ∷ ys) e =
    let both = and_elim (test x y) (pointwise test xs ys) e in
    let first = same x y both.0 in
    let rest = lists_same test same xs ys both.1 in
    λ i. first i ∷ rest i

pairs_same : (a b : ℕ × ℤ) → same_pair a b ≡ true → a ≡ b
pairs_same a b e =
    let both = and_elim (a.0 == b.0) (int_eq a.1 b.1) e in
    let first = nats_same a.0 b.0 both.0 in
    let second = ints_same a.1 b.1 both.1 in
    λ i. (first i, second i)

places_same : (symbols : List Symbol) (a b : Place) → same_place a b ≡ true → place_of symbols a ≡ place_of symbols b
places_same symbols a b e =
    let one = and_elim ((pointwise same_pair a.linear.pairs b.linear.pairs && int_eq a.linear.constant b.linear.constant) && int_eq a.duration b.duration) (pointwise nat_eq a.rest b.rest) e in
    let two = and_elim (pointwise same_pair a.linear.pairs b.linear.pairs && int_eq a.linear.constant b.linear.constant) (int_eq a.duration b.duration) one.0 in
    let three = and_elim (pointwise same_pair a.linear.pairs b.linear.pairs) (int_eq a.linear.constant b.linear.constant) two.0 in
    let pairs = lists_same same_pair pairs_same a.linear.pairs b.linear.pairs three.0 in
    let constant = ints_same a.linear.constant b.linear.constant three.1 in
    let duration = ints_same a.duration b.duration two.1 in
    let rest = lists_same nat_eq nats_same a.rest b.rest one.1 in
    λ i. record { linear = record { pairs = pairs i; constant = constant i }; duration = duration i; rest = map (symbol_at symbols) (rest i) }

pub heads : {X : Type 0} (x y : X) (xs ys : List X) → x ∷ xs ≡ y ∷ ys → x ≡ y
heads x y xs ys e = cc

pub tails : {X : Type 0} (x y : X) (xs ys : List X) → x ∷ xs ≡ y ∷ ys → xs ≡ ys
tails x y xs ys e = cc

module _ (variables : List Symbol) where
  -- ---- numbers tell variables apart

  same_variable : (x y : Symbol) → IsMember variables x → IsMember variables y → variable_number variables x ≡ variable_number variables y → x ≡ y
  same_variable x y m k e =
      let j = number_found 1 variables x m in
      let l = number_found 1 variables y k in
      number_one 1 variables x y j.0 j.1 (l.1 ∙ ap Some (sym (sym (ap or_zero j.1) ∙ e ∙ ap or_zero l.1)))

  abbrev Listed : List (Symbol × ℤ) → Type 0
  Listed ps = (p : Symbol × ℤ) → IsMember ps p → IsMember variables p.0

  abbrev numbered : Symbol × ℤ → ℕ × ℤ
  numbered pair = (variable_number variables pair.0, pair.1)

  same_pairs : (ps qs : List (Symbol × ℤ)) → Listed ps → Listed qs
      → map numbered ps ≡ map numbered qs → ps ≡ qs
  same_pairs [] [] k l e = refl
  same_pairs [] (q ∷ qs) k l e = cc
  same_pairs (p ∷ ps) [] k l e = cc
  same_pairs (p ∷ ps) (q ∷ qs) k l e =
      let first = heads _ _ _ _ e in
      let variable = same_variable p.0 q.0 (k p (inl refl)) (l q (inl refl)) (ap (λ z. z.0) first) in
      let coefficient = ap (λ z. z.1) first in
      let rest = same_pairs ps qs (λ r m. k r (inr m)) (λ r m. l r (inr m)) (tails _ _ _ _ e) in
      λ i. (variable i, coefficient i) ∷ rest i

  same_tuple : (p q : PlaceOf Symbol) → Listed p.linear.pairs → Listed q.linear.pairs → place_numbered variables p ≡ place_numbered variables q → p ≡ q
  same_tuple p q k l e =
      let pairs = same_pairs p.linear.pairs q.linear.pairs k l (ap (λ z. z.linear.pairs) e) in
      let constant = ap (λ z. z.linear.constant) e in
      let duration = ap (λ z. z.duration) e in
      let rest = ap (λ z. z.rest) e in
      λ i. record { linear = record { pairs = pairs i; constant = constant i }; duration = duration i; rest = rest i }

  -- ---- all of them are different

  abbrev AllListed : List (PlaceOf Symbol) → Type 0
  AllListed places = AllByRecursion (λ p. Listed p.linear.pairs) places

  not_among : (symbols : List Symbol) (h : Place) (p : PlaceOf Symbol) (held : List Place) (places : List (PlaceOf Symbol))
      → map (place_of symbols) held ≡ map (place_numbered variables) places → place_of symbols h ≡ place_numbered variables p
      → Listed p.linear.pairs → AllListed places → AllByRecursion (λ q. place_cmp p q ≡ Less) places → list_any (same_place h) held ≡ true → ⊥
  not_among symbols h p [] places e f k all a g = true≢false (sym g)
  not_among symbols h p (i ∷ held) [] e f k all a g = nothing e
    where
      nothing : map (place_of symbols) (i ∷ held) ≡ [] → ⊥
      nothing e = cc
  not_among symbols h p (i ∷ held) (q ∷ places) e f k all a g =
      go (or_elim (same_place h i) (list_any (same_place h) held) g)
      (not_among symbols h p held places (tails _ _ _ _ e) f k all.1 a.1)
    where
      go : (same_place h i ≡ true) ⊎ (list_any (same_place h) held ≡ true) → (list_any (same_place h) held ≡ true → ⊥) → ⊥
      go (inl s) rec =
          let same = same_tuple p q k all.0 (sym f ∙ places_same symbols h i s ∙ heads _ _ _ _ e) in
          let less = subst (λ z. place_cmp p z ≡ Less) (sym same) a.0 in
          one_way place_cmp places_turn p p less less
      go (inr s) rec = rec s

  all_different : (symbols : List Symbol) (held : List Place) (places : List (PlaceOf Symbol)) → map (place_of symbols) held ≡ map (place_numbered variables) places
      → AllListed places → Ascends place_cmp places → are_different held ≡ true
  all_different symbols [] places e all a = refl
  all_different symbols (h ∷ held) [] e all a = absurd (nothing e)
    where
      nothing : map (place_of symbols) (h ∷ held) ≡ [] → ⊥
      nothing e = cc
  all_different symbols (h ∷ held) (p ∷ places) e all a =
      and_intro (not (list_any (same_place h) held)) (are_different held)
      (no (list_any (same_place h) held) (not_among symbols h p held places (tails _ _ _ _ e) (heads _ _ _ _ e) all.0 all.1 a.0))
      (all_different symbols held places (tails _ _ _ _ e) all.1 a.1)
    where
      no : (b : Bool) → (b ≡ true → ⊥) → not b ≡ true
      no true n = absurd (n refl)
      no false n = refl

-- ---- each of them is sound

not_negative : (d : ℤ) → pos 0 ≤ℤ d → int_le (pos 0) d ≡ true
not_negative d l = grind (arith, ints)

no_bound : (a b : ℕ) → a ≤ b → nat_le a b ≡ true
no_bound a b l = grind (arith, nat_tests)

duration_from : (bound : List Outcome) (written : Option Term) (d : ℤ) → HasDuration bound written d → pos 0 ≤ℤ d
duration_from bound None d h = subst (λ z. pos 0 ≤ℤ z) (sym h) (zero_least)
  where
    zero_least : pos 0 ≤ℤ pos 0
    zero_least = omega (arith, ints)
duration_from bound (Some term) d h = h.1

pub sound_tuples_law : SoundTuplesLaw
sound_tuples_law rules rule values theory variables places symbols held up ordered few listed e known = (
  each held places (λ p m. m) e known,
  all_different variables symbols held places e (all_listed places (λ p m. m)) ordered.ascend,
  no_bound (length held) most (small (length held) (length places) (sym (length-map held (place_of symbols)) ∙ ap length e ∙ length-map places (place_numbered variables))
      (λ l. few ((exceeds_all (IsTuple (IsPossible rules) rule values theory) places most (ascends_apart place_cmp places_turn places ordered.ascend) ordered.all).1 l))),
)
  where
    small : (m n : ℕ) → m ≡ n → (most < n → ⊥) → m ≤ most
    small m n same h = go (nat_le n most) refl
      where
        within : nat_le n most ≡ true → m ≤ most
        within t = subst (λ k. k ≤ most) (sym same) (le n most t)
          where
            le : (a b : ℕ) → nat_le a b ≡ true → a ≤ b
            le a b t = grind (arith, nat_tests)

        past : nat_le n most ≡ false → most < n
        past t = lt n most t
          where
            lt : (a b : ℕ) → nat_le a b ≡ false → b < a
            lt a b t = grind (arith, nat_tests)

        go : (b : Bool) → nat_le n most ≡ b → m ≤ most
        go true t = within t
        go false t = absurd (h (past t))

    all_listed : (ps : List (PlaceOf Symbol)) → ((p : PlaceOf Symbol) → IsMember ps p → IsMember places p) → AllListed variables ps
    all_listed [] sub = tt
    all_listed (p ∷ ps) sub = (λ q m. listed p (sub p (inl refl)) q.0 (q.1, m), all_listed ps (λ q m. sub q (inr m)))

    one : (h : Place) (p : PlaceOf Symbol) → IsMember places p → place_of symbols h ≡ place_numbered variables p → are_known (length symbols) h.rest ≡ true
        → is_sound_place (length symbols) (length variables) h ≡ true
    one h p m f k =
        let tuple = (ordered.all p).0 m in
        let has = tuple.3 in
        and_intro (is_sound_linear (length variables) h.linear && int_le (pos 0) h.duration) (are_known (length symbols) h.rest)
        (and_intro (is_sound_linear (length variables) h.linear) (int_le (pos 0) h.duration)
        (sound_term_law variables up (bound_in_element rule values tuple.1 tuple.0.values) tuple.1.first p.linear has.linear (listed p m) h.linear (ap (λ z. z.linear) f))
        (not_negative h.duration (subst (λ d. pos 0 ≤ℤ d) (sym (ap (λ z. z.duration) f))
        (duration_from (bound_in_element rule values tuple.1 tuple.0.values) tuple.1.duration p.duration has.duration)))) k

    each : (hs : List Place) (ps : List (PlaceOf Symbol)) → ((p : PlaceOf Symbol) → IsMember ps p → IsMember places p)
        → map (place_of symbols) hs ≡ map (place_numbered variables) ps → AllByRecursion (λ h. are_known (length symbols) h.rest ≡ true) hs
        → list_all (is_sound_place (length symbols) (length variables)) hs ≡ true
    each [] ps sub f k = refl
    each (h ∷ hs) [] sub f k = absurd (nothing f)
      where
        nothing : map (place_of symbols) (h ∷ hs) ≡ [] → ⊥
        nothing e = cc
    each (h ∷ hs) (p ∷ ps) sub f k =
        and_intro (is_sound_place (length symbols) (length variables) h) (list_all (is_sound_place (length symbols) (length variables)) hs)
        (one h p (sub p (inl refl)) (heads _ _ _ _ f) k.0) (each hs ps (λ q m. sub q (inr m)) (tails _ _ _ _ f) k.1)

-- ---- they have few variables

range_from : (from count n : ℕ) → IsMember (range_with_len from count) n → from ≤ n
range_from from zero n m = absurd m
range_from from (suc count) n (inl e) = omega (arith, e)
range_from from (suc count) n (inr m) = let l = range_from (from + 1) count n m in omega (arith, l)

range_apart : (from count : ℕ) → IsApart (range_with_len from count)
range_apart from zero = tt
range_apart from (suc count) = (λ m. let l = range_from (from + 1) count from m in omega (arith, l), range_apart (from + 1) count)

pub any_found : {X : Type 0} (test : X → Bool) (xs : List X) → list_any test xs ≡ true → (x : X) × IsMember xs x × (test x ≡ true)
any_found test [] h = absurd (true≢false (sym h))
any_found test (x ∷ xs) h = go (or_elim (test x) (list_any test xs) h) (any_found test xs)
  where
    go : (test x ≡ true) ⊎ (list_any test xs ≡ true) → (list_any test xs ≡ true → (y : _) × IsMember xs y × (test y ≡ true))
        → (y : _) × IsMember (x ∷ xs) y × (test y ≡ true)
    go (inl e) rec = (x, inl refl, e)
    go (inr e) rec = let r = rec e in (r.0, inr r.1, r.2)

pub mapped_from : {X Y : Type 0} (f : X → Y) (xs : List X) (y : Y) → IsMember (map f xs) y → (x : X) × IsMember xs x × (y ≡ f x)
mapped_from f [] y m = absurd m
mapped_from f (x ∷ xs) y (inl e) = (x, inl refl, e)
mapped_from f (x ∷ xs) y (inr m) = let r = mapped_from f xs y m in (r.0, inr r.1, r.2)

mapped_to : {X Y : Type 0} (f : X → Y) (xs : List X) (x : X) → IsMember xs x → IsMember (map f xs) (f x)
mapped_to f [] x m = m
mapped_to f (z ∷ xs) x (inl e) = inl (ap f e)
mapped_to f (z ∷ xs) x (inr m) = inr (mapped_to f xs x m)

-- symbols of the property for numbers, one for each
record Shown (variables : List Symbol) (V : Symbol → Type 0) (ks : List ℕ) : Type 0 where
  shown : List Symbol
  same : length shown ≡ length ks
  apart : IsApart shown
  each : AllByRecursion V shown
  numbers : (x : Symbol) → IsMember shown x → IsMember ks (variable_number variables x)

shown_all : (variables : List Symbol) (V : Symbol → Type 0) (ks : List ℕ) → IsApart ks
    → ((k : ℕ) → IsMember ks k → (x : Symbol) × (variable_number variables x ≡ k) × V x) → Shown variables V ks
shown_all variables V [] a f = record { shown = []; same = refl; apart = tt; each = tt; numbers = λ x m. m }
shown_all variables V (k ∷ ks) a f =
    let r = shown_all variables V ks a.1 (λ j m. f j (inr m)) in
    let x = f k (inl refl) in record {
      shown = x.0 ∷ r.shown;
      same = ap suc r.same;
      apart = (λ m. a.0 (subst (IsMember ks) x.1 (r.numbers x.0 m)), r.apart);
      each = (x.2, r.each);
      numbers = λ y m. go x.0 x.1 r.shown r.numbers y m;
    }
  where
    go : (x : Symbol) → variable_number variables x ≡ k → (shown : List Symbol) → ((z : Symbol) → IsMember shown z → IsMember ks (variable_number variables z))
        → (y : Symbol) → IsMember (x ∷ shown) y → IsMember (k ∷ ks) (variable_number variables y)
    go x e shown numbers y (inl f) = inl (ap (variable_number variables) f ∙ e)
    go x e shown numbers y (inr m) = inr (numbers y m)

pub few_variables : (variables : List Symbol) (V : Symbol → Type 0) (linears : List Linear) → (Exceeds V most → ⊥)
    → ((k : ℕ) → occurs linears k ≡ true → (x : Symbol) × (variable_number variables x ≡ k) × V x) → has_few_variables (length variables) linears ≡ true
few_variables variables V linears few f =
    go (nat_le (length ks) most) refl
  where
    ks : List ℕ
    ks = filter (occurs linears) (range_with_len 1 (length variables))

    past : (a b : ℕ) → nat_le a b ≡ false → b < a
    past a b t = grind (arith, nat_tests)

    go : (b : Bool) → nat_le (length ks) most ≡ b → nat_le (length ks) most ≡ true
    go true t = t
    go false t =
        let r = shown_all variables V ks (filter_apart (occurs linears) (range_with_len 1 (length variables)) (range_apart 1 (length variables)))
        (λ k m. f k (filter_passes (occurs linears) (range_with_len 1 (length variables)) k m)) in
        absurd (few (record { shown = r.shown; apart = r.apart; each = r.each; more = subst (λ n. most < n) (sym r.same) (past (length ks) most t) }))

-- a number that occurs in held tuples is that of a variable in the tuples
pub occurs_from : (variables symbols : List Symbol) (held : List Place) (places : List (PlaceOf Symbol)) → map (place_of symbols) held ≡ map (place_numbered variables) places
    → (k : ℕ) → occurs (first_places held) k ≡ true
    → (x : Symbol) × (variable_number variables x ≡ k) × ((p : PlaceOf Symbol) × IsMember places p × OccursInForm x p.linear)
occurs_from variables symbols held places e k h =
    let linear = any_found (λ l. list_any (λ pair. pair.0 == k) l.pairs) (first_places held) h in
    let place = mapped_from (λ z. z.linear) held linear.0 linear.1 in
    let pair = any_found (λ z. z.0 == k) linear.0.pairs linear.2 in
    let seen = subst (λ zs. IsMember zs (place_of symbols place.0)) e (mapped_to (place_of symbols) held place.0 place.1) in
    let tuple = mapped_from (place_numbered variables) places (place_of symbols place.0) seen in
    let there : IsMember (map (λ q. (variable_number variables q.0, q.1)) tuple.0.linear.pairs) pair.0 =
    subst (λ zs. IsMember zs pair.0) (ap (λ z. z.pairs) place.2 ∙ ap (λ z. z.linear.pairs) tuple.2) pair.1 in
    let one = mapped_from (λ q. (variable_number variables q.0, q.1)) tuple.0.linear.pairs pair.0 there in
    (one.0.0, sym (ap (λ z. z.0) one.2) ∙ nats_same pair.0.0 k pair.2, (tuple.0, tuple.1, (one.0.1, one.1)))

pub few_tuple_variables_law : FewVariablesLaw
few_tuple_variables_law rules rule values theory variables places symbols held ordered not_domain few e =
    few_variables variables (IsVariableIn (IsPossible rules) rule values theory) (first_places held) few
    (λ k h.
    let r = occurs_from variables symbols held places e k h in
    (r.0, r.1, inl (not_domain, (r.2.0, (ordered.all r.2.0).0 r.2.1, r.2.2))))
