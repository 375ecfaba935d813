-- Sums and multiples of pairs, pair by pair.
use Rattle.std.proofs.Common.{◌≡◌, ◌≤◌, ◌<◌, ◌+◌, ℕ, zero, suc, Bool, true, false, ◌&&◌, ℤ, ◌+ℤ◌, ◌*ℤ◌, List, [], ◌∷◌, ◌++◌, map, drop, length, get_or, All, refl, sym, ◌∙◌, ap, subst, arith}
use Rattle.std.specs.List.{AllByRecursion}
use Rattle.std.proofs.lemmas.List.Folds.{list_all-append}
use Rattle.std.proofs.lemmas.List.{map-append}
use Rattle.std.specs.Ordering.{ordering_reverse}
use Rattle.std.specs.declared.cmp.Ordering.{Ordering}
use Rattle.std.specs.declared.cmp.Ordering.TheVariants.{Less, Equal, Greater}
use Rattle.symbols.specs.Symbol.{Symbol}
use Rattle.symbols.specs.Table.{symbol_at}
use Rattle.symbols.specs.Order.{symbol_cmp}
use Rattle.symbols.proofs.OrderLemmas.{symbol_cmp-less, symbol_cmp-level, symbol_cmp-itself, symbol_cmp-reverse}
use Rattle.ground_model.specs.Sound.{is_small}
use Rattle.ground_model.proofs.Products.{drop_next}
use Rattle.program_meaning.specs.Collected.{placed, pair_added, pairs_added}
use Rattle.program_meaning.specs.Said.{pair_in, IsKnownPair}
use Rattle.program_meaning.proofs.CollectedForms.{InOrder, sum_in_order, scaled_in_order}
use Rattle.collected_terms.specs.inner.Merging.{AreKnown, all_small}

abbrev Pairs : Type 0
Pairs = List (Symbol × ℤ)

abbrev Above : Symbol → Pairs → Type 0
Above y ps = AllByRecursion (λ p. symbol_cmp y p.0 ≡ Less) ps

abbrev Under : Symbol → Pairs → Type 0
Under y ps = AllByRecursion (λ p. symbol_cmp p.0 y ≡ Greater) ps

-- THE ORDER OF SYMBOLS

below_again : (o : Ordering) → ordering_reverse o ≡ Greater → o ≡ Less
below_again Less e = refl
below_again Equal e = cc
below_again Greater e = cc

turned : (x y : Symbol) → symbol_cmp x y ≡ Greater → symbol_cmp y x ≡ Less
turned x y e = below_again (symbol_cmp y x) (sym (symbol_cmp-reverse x y) ∙ e)

above_more : (y : Symbol) (x : Symbol) → symbol_cmp y x ≡ Less → (ps : Pairs) → Above x ps → Above y ps
above_more y x l [] a = tt
above_more y x l (p ∷ ps) a = (symbol_cmp-less y x p.0 l a.0, above_more y x l ps a.1)

above_added : (y x : Symbol) (c : ℤ) (ps : Pairs) → symbol_cmp y x ≡ Less → Above y ps → Above y (pair_added x c ps)
above_added y x c [] l a = (l, tt)
above_added y x c (p ∷ ps) l a = go (symbol_cmp x p.0) (above_added y x c ps l a.1)
  where
    go : (o : Ordering) → Above y (pair_added x c ps) → Above y (placed o x c p ps (pair_added x c ps))
    go Less rec = (l, a)
    go Equal rec = (l, a.1)
    go Greater rec = (a.0, rec)

-- THE FIRST PAIR OF A SUM

-- a pair that stands before all of the others stays before their sum
head_stays : (q : Symbol × ℤ) (ps qs : Pairs) → Under q.0 ps → pairs_added ps (q ∷ qs) ≡ q ∷ pairs_added ps qs
head_stays q [] qs u = refl
head_stays q (p ∷ ps) qs u =
    ap (λ (xs : Pairs). pair_added p.0 p.1 xs) (head_stays q ps qs u.1)
    ∙ ap (λ o. placed o p.0 p.1 q (pairs_added ps qs) (pair_added p.0 p.1 (pairs_added ps qs))) u.0

reversed : (x y : Symbol) → symbol_cmp x y ≡ Less → symbol_cmp y x ≡ Greater
reversed x y l = go (symbol_cmp y x) refl
  where
    go : (o : Ordering) → symbol_cmp y x ≡ o → o ≡ Greater
    go Less e = absurd (never (sym (symbol_cmp-less x y x l e) ∙ symbol_cmp-itself x))
      where
        never : Less ≡ Equal → ⊥
        never e = cc
    go Equal e = absurd (never (sym (ap (λ z. symbol_cmp x z) (symbol_cmp-level y x e) ∙ symbol_cmp-itself x) ∙ l))
      where
        never : Equal ≡ Less → ⊥
        never e = cc
    go Greater e = refl

under_from : (y : Symbol) (ps : Pairs) → Above y ps → Under y ps
under_from y [] a = tt
under_from y (p ∷ ps) a = (reversed y p.0 a.0, under_from y ps a.1)

sum_above : (y : Symbol) (ps qs : Pairs) → Above y ps → Above y qs → Above y (pairs_added ps qs)
sum_above y [] qs a b = b
sum_above y (p ∷ ps) qs a b = above_added y p.0 p.1 (pairs_added ps qs) a.0 (sum_above y ps qs a.1 b)

put_first : (p : Symbol × ℤ) (xs : Pairs) → Above p.0 xs → pair_added p.0 p.1 xs ≡ p ∷ xs
put_first p [] a = refl
put_first p (x ∷ xs) a = ap (λ o. placed o p.0 p.1 x xs (pair_added p.0 p.1 xs)) a.0

pub less_first : (p q : Symbol × ℤ) (ps qs : Pairs) → symbol_cmp p.0 q.0 ≡ Less → InOrder (p ∷ ps) → InOrder (q ∷ qs)
    → pairs_added (p ∷ ps) (q ∷ qs) ≡ p ∷ pairs_added ps (q ∷ qs)
less_first p q ps qs l i j = put_first p (pairs_added ps (q ∷ qs)) (sum_above p.0 ps (q ∷ qs) i.0 (l, above_more p.0 q.0 l qs j.0))

pub greater_first : (p q : Symbol × ℤ) (ps qs : Pairs) → symbol_cmp p.0 q.0 ≡ Greater → InOrder (p ∷ ps)
    → pairs_added (p ∷ ps) (q ∷ qs) ≡ q ∷ pairs_added (p ∷ ps) qs
greater_first p q ps qs g i =
    head_stays q (p ∷ ps) qs (g, under_from q.0 ps (above_more q.0 p.0 (turned p.0 q.0 g) ps i.0))

pub equal_first : (p q : Symbol × ℤ) (ps qs : Pairs) → symbol_cmp p.0 q.0 ≡ Equal → InOrder (p ∷ ps)
    → pairs_added (p ∷ ps) (q ∷ qs) ≡ (p.0, p.1 +ℤ q.1) ∷ pairs_added ps qs
equal_first p q ps qs e i =
    let same = symbol_cmp-level p.0 q.0 e in
    ap (λ (xs : Pairs). pair_added p.0 p.1 xs) (head_stays q ps qs (under_from q.0 ps (subst (λ y. Above y ps) same i.0)))
    ∙ ap (λ o. placed o p.0 p.1 q (pairs_added ps qs) (pair_added p.0 p.1 (pairs_added ps qs))) e

pub no_others : (ps : Pairs) → InOrder ps → pairs_added ps [] ≡ ps
no_others [] i = refl
no_others (p ∷ ps) i = ap (λ (xs : Pairs). pair_added p.0 p.1 xs) (no_others ps i.1) ∙ put_first p ps i.0

-- LISTS FROM A PLACE ON

abbrev Ids : Type 0
Ids = List (ℕ × ℤ)

abbrev pub read : List Symbol → Ids → Pairs
read symbols ids = map (pair_in symbols) ids

rest_in_order : (symbols : List Symbol) (ids : Ids) (n : ℕ) → InOrder (read symbols ids) → InOrder (read symbols (drop n ids))
rest_in_order symbols ids zero i = i
rest_in_order symbols [] (suc n) i = tt
rest_in_order symbols (x ∷ ids) (suc n) i = rest_in_order symbols ids n i.1

append_assoc : (xs ys zs : Pairs) → (xs ++ ys) ++ zs ≡ xs ++ (ys ++ zs)
append_assoc [] ys zs = refl
append_assoc (x ∷ xs) ys zs = ap (λ (r : Pairs). x ∷ r) (append_assoc xs ys zs)

-- one pair more was put out, and the rest has the same sum
one_more : (symbols : List Symbol) (out : Ids) (x : ℕ × ℤ) (rest after whole : Pairs) → rest ≡ pair_in symbols x ∷ after → read symbols out ++ rest ≡ whole
    → read symbols (out ++ x ∷ []) ++ after ≡ whole
one_more symbols out x rest after whole e is =
    ap (λ (ys : Pairs). ys ++ after) (map-append (pair_in symbols) out (x ∷ []))
    ∙ append_assoc (read symbols out) (pair_in symbols x ∷ []) after
    ∙ ap (λ (r : Pairs). read symbols out ++ r) (sym e) ∙ is

-- the loop's invariant: what is out and the sum of what is left are the whole sum
pub record IsMerging (symbols : List Symbol) (a b out : Ids) (at to : ℕ) : Type 0 where
  pub at_most : at ≤ length a
  pub to_most : to ≤ length b
  pub rise_a : InOrder (read symbols a)
  pub rise_b : InOrder (read symbols b)
  pub sum : read symbols out ++ pairs_added (read symbols (drop at a)) (read symbols (drop to b)) ≡ pairs_added (read symbols a) (read symbols b)
  pub each : All (IsKnownPair (length symbols)) out
  pub each_a : All (IsKnownPair (length symbols)) a
  pub each_b : All (IsKnownPair (length symbols)) b

pub merging_start : (symbols : List Symbol) (a b : Ids) → AreKnown symbols a → AreKnown symbols b → IsMerging symbols a b [] 0 0
merging_start symbols a b ka kb = record {
  at_most = omega arith;
  to_most = omega arith;
  rise_a = ka.rise;
  rise_b = kb.rise;
  sum = refl;
  each = λ i d below. absurd (omega (arith, below));
  each_a = ka.each;
  each_b = kb.each;
}

all_more : {X : Type 0} (P : X → Type 0) (xs : List X) (x : X) → All P xs → P x → All P (xs ++ x ∷ [])
all_more P [] x all p zero d below = p
all_more P [] x all p (suc i) d below = absurd (omega (arith, below))
all_more P (y ∷ xs) x all p zero d below = all 0 d (omega arith)
all_more P (y ∷ xs) x all p (suc i) d below = all_more P xs x (λ j e less. all (suc j) e (omega (arith, less))) p i d (omega (arith, below))

-- the pair at the place, and the rest
module _ (symbols : List Symbol) (a b out : Ids) (at to : ℕ) (m : IsMerging symbols a b out at to) (x y : ℕ × ℤ)
    (below_a : at < length a) (below_b : to < length b) (is_x : x ≡ get_or a at x) (is_y : y ≡ get_or b to y) where
  rest_a : read symbols (drop at a) ≡ pair_in symbols x ∷ read symbols (drop (at + 1) a)
  rest_a = ap (read symbols) (drop_next a at x below_a) ∙ ap (λ (z : ℕ × ℤ). pair_in symbols z ∷ read symbols (drop (at + 1) a)) (sym is_x)

  rest_b : read symbols (drop to b) ≡ pair_in symbols y ∷ read symbols (drop (to + 1) b)
  rest_b = ap (read symbols) (drop_next b to y below_b) ∙ ap (λ (z : ℕ × ℤ). pair_in symbols z ∷ read symbols (drop (to + 1) b)) (sym is_y)

  order_a : InOrder (pair_in symbols x ∷ read symbols (drop (at + 1) a))
  order_a = subst InOrder rest_a (rest_in_order symbols a at m.rise_a)

  order_b : InOrder (pair_in symbols y ∷ read symbols (drop (to + 1) b))
  order_b = subst InOrder rest_b (rest_in_order symbols b to m.rise_b)

  both : pairs_added (read symbols (drop at a)) (read symbols (drop to b))
      ≡ pairs_added (pair_in symbols x ∷ read symbols (drop (at + 1) a)) (pair_in symbols y ∷ read symbols (drop (to + 1) b))
  both = λ i. pairs_added (rest_a i) (rest_b i)

  known_x : IsKnownPair (length symbols) x
  known_x = subst (IsKnownPair (length symbols)) (sym is_x) (m.each_a at x below_a)

  known_y : IsKnownPair (length symbols) y
  known_y = subst (IsKnownPair (length symbols)) (sym is_y) (m.each_b to y below_b)

  pub merging_less : symbol_cmp (symbol_at symbols x.0) (symbol_at symbols y.0) ≡ Less → IsMerging symbols a b (out ++ x ∷ []) (at + 1) to
  merging_less l = record {
    at_most = omega (arith, below_a);
    to_most = m.to_most;
    rise_a = m.rise_a;
    rise_b = m.rise_b;
    sum =
        one_more symbols out x (pairs_added (read symbols (drop at a)) (read symbols (drop to b))) (pairs_added (read symbols (drop (at + 1) a)) (read symbols (drop to b)))
        (pairs_added (read symbols a) (read symbols b))
        (both ∙ less_first (pair_in symbols x) (pair_in symbols y) (read symbols (drop (at + 1) a)) (read symbols (drop (to + 1) b)) l order_a order_b
        ∙ ap (λ (r : Pairs). pair_in symbols x ∷ pairs_added (read symbols (drop (at + 1) a)) r) (sym rest_b))
        m.sum;
    each = all_more (IsKnownPair (length symbols)) out x m.each known_x;
    each_a = m.each_a;
    each_b = m.each_b;
  }

  pub merging_greater : symbol_cmp (symbol_at symbols x.0) (symbol_at symbols y.0) ≡ Greater → IsMerging symbols a b (out ++ y ∷ []) at (to + 1)
  merging_greater g = record {
    at_most = m.at_most;
    to_most = omega (arith, below_b);
    rise_a = m.rise_a;
    rise_b = m.rise_b;
    sum =
        one_more symbols out y (pairs_added (read symbols (drop at a)) (read symbols (drop to b))) (pairs_added (read symbols (drop at a)) (read symbols (drop (to + 1) b)))
        (pairs_added (read symbols a) (read symbols b))
        (both ∙ greater_first (pair_in symbols x) (pair_in symbols y) (read symbols (drop (at + 1) a)) (read symbols (drop (to + 1) b)) g order_a
        ∙ ap (λ (r : Pairs). pair_in symbols y ∷ pairs_added r (read symbols (drop (to + 1) b))) (sym rest_a))
        m.sum;
    each = all_more (IsKnownPair (length symbols)) out y m.each known_y;
    each_a = m.each_a;
    each_b = m.each_b;
  }

  pub merging_equal : symbol_cmp (symbol_at symbols x.0) (symbol_at symbols y.0) ≡ Equal → (total : ℤ) → total ≡ x.1 +ℤ y.1 → is_small total ≡ true
      → IsMerging symbols a b (out ++ (x.0, total) ∷ []) (at + 1) (to + 1)
  merging_equal e total t small = record {
    at_most = omega (arith, below_a);
    to_most = omega (arith, below_b);
    rise_a = m.rise_a;
    rise_b = m.rise_b;
    sum =
        one_more symbols out (x.0, total) (pairs_added (read symbols (drop at a)) (read symbols (drop to b)))
        (pairs_added (read symbols (drop (at + 1) a)) (read symbols (drop (to + 1) b))) (pairs_added (read symbols a) (read symbols b))
        (both ∙ equal_first (pair_in symbols x) (pair_in symbols y) (read symbols (drop (at + 1) a)) (read symbols (drop (to + 1) b)) e order_a
        ∙ ap (λ z. (symbol_at symbols x.0, z) ∷ pairs_added (read symbols (drop (at + 1) a)) (read symbols (drop (to + 1) b))) (sym t))
        m.sum;
    each = all_more (IsKnownPair (length symbols)) out (x.0, total) m.each (known_x.0, small);
    each_a = m.each_a;
    each_b = m.each_b;
  }

  pub merging_large : symbol_cmp (symbol_at symbols x.0) (symbol_at symbols y.0) ≡ Equal → is_small (x.1 +ℤ y.1) ≡ false
      → all_small (pairs_added (read symbols a) (read symbols b)) ≡ false
  merging_large e large =
      ap all_small (sym m.sum)
      ∙ list_all-append (λ (p : Symbol × ℤ). is_small p.1) (read symbols out) (pairs_added (read symbols (drop at a)) (read symbols (drop to b)))
      ∙ ap (λ z. all_small (read symbols out) && z)
      (ap all_small (both ∙ equal_first (pair_in symbols x) (pair_in symbols y) (read symbols (drop (at + 1) a)) (read symbols (drop (to + 1) b)) e order_a)
      ∙ ap (λ z. z && all_small (pairs_added (read symbols (drop (at + 1) a)) (read symbols (drop (to + 1) b)))) large)
      ∙ and_false (all_small (read symbols out))
    where
      and_false : (b : Bool) → (b && false) ≡ false
      and_false true = refl
      and_false false = refl

-- AT THE END

dropped_all : (ids : Ids) (n : ℕ) → length ids ≤ n → drop n ids ≡ []
dropped_all [] zero l = refl
dropped_all [] (suc n) l = refl
dropped_all (x ∷ ids) zero l = absurd (omega (arith, l))
dropped_all (x ∷ ids) (suc n) l = dropped_all ids n (omega (arith, l))

all_rest : {X : Type 0} (P : X → Type 0) (xs : List X) (n : ℕ) → All P xs → All P (drop n xs)
all_rest P xs zero all = all
all_rest P [] (suc n) all = λ i d below. absurd (omega (arith, below))
all_rest P (x ∷ xs) (suc n) all = all_rest P xs n (λ i d below. all (suc i) d (omega (arith, below)))

all_both : {X : Type 0} (P : X → Type 0) (xs ys : List X) → All P xs → All P ys → All P (xs ++ ys)
all_both P [] ys a b = b
all_both P (x ∷ xs) ys a b = go (all_both P xs ys (λ j e less. a (suc j) e (omega (arith, less))) b)
  where
    go : All P (xs ++ ys) → All P (x ∷ (xs ++ ys))
    go rest zero d below = a 0 d (omega arith)
    go rest (suc i) d below = rest i d (omega (arith, below))

module _ (symbols : List Symbol) (a b out : Ids) (at to : ℕ) (m : IsMerging symbols a b out at to) where
  pub ends_b : length a ≤ at → (all : Ids) → all ≡ out ++ drop to b → read symbols all ≡ pairs_added (read symbols a) (read symbols b)
  ends_b past all e =
      ap (read symbols) e ∙ map-append (pair_in symbols) out (drop to b)
      ∙ ap (λ (r : Pairs). read symbols out ++ pairs_added r (read symbols (drop to b))) (sym (ap (read symbols) (dropped_all a at past))) ∙ m.sum

  pub ends_a : length b ≤ to → (all : Ids) → all ≡ out ++ drop at a → read symbols all ≡ pairs_added (read symbols a) (read symbols b)
  ends_a past all e =
      ap (read symbols) e ∙ map-append (pair_in symbols) out (drop at a)
      ∙ ap (λ (r : Pairs). read symbols out ++ r) (sym (no_others (read symbols (drop at a)) (rest_in_order symbols a at m.rise_a)))
      ∙ ap (λ (r : Pairs). read symbols out ++ pairs_added (read symbols (drop at a)) r) (sym (ap (read symbols) (dropped_all b to past))) ∙ m.sum

  pub known_b : length a ≤ at → (all : Ids) → all ≡ out ++ drop to b → AreKnown symbols all
  known_b past all e = record {
    each = subst (λ (xs : Ids). All (IsKnownPair (length symbols)) xs) (sym e) (all_both (IsKnownPair (length symbols)) out (drop to b) m.each (all_rest (IsKnownPair (length symbols)) b to m.each_b));
    rise = subst InOrder (sym (ends_b past all e)) (sum_in_order (read symbols a) (read symbols b) m.rise_b);
  }

  pub known_a : length b ≤ to → (all : Ids) → all ≡ out ++ drop at a → AreKnown symbols all
  known_a past all e = record {
    each = subst (λ (xs : Ids). All (IsKnownPair (length symbols)) xs) (sym e) (all_both (IsKnownPair (length symbols)) out (drop at a) m.each (all_rest (IsKnownPair (length symbols)) a at m.each_a));
    rise = subst InOrder (sym (ends_a past all e)) (sum_in_order (read symbols a) (read symbols b) m.rise_b);
  }

-- MULTIPLES

abbrev pub times : ℤ → Pairs → Pairs
times k ps = map (λ pair. (pair.0, k *ℤ pair.1)) ps

-- what is out are the multiples of the pairs so far
pub record IsMultiplying (symbols : List Symbol) (k : ℤ) (pairs out : Ids) (at : ℕ) : Type 0 where
  pub made : read symbols out ++ times k (read symbols (drop at pairs)) ≡ times k (read symbols pairs)
  pub each : All (IsKnownPair (length symbols)) out

pub multiplying_start : (symbols : List Symbol) (k : ℤ) (pairs : Ids) → IsMultiplying symbols k pairs [] 0
multiplying_start symbols k pairs = record { made = refl; each = λ i d below. absurd (omega (arith, below)) }

module _ (symbols : List Symbol) (k : ℤ) (pairs out : Ids) (at : ℕ) (m : IsMultiplying symbols k pairs out at) (x : ℕ × ℤ)
    (below : at < length pairs) (is_x : x ≡ get_or pairs at x) where
  next : times k (read symbols (drop at pairs)) ≡ (symbol_at symbols x.0, k *ℤ x.1) ∷ times k (read symbols (drop (at + 1) pairs))
  next =
      ap (λ (r : Ids). times k (read symbols r)) (drop_next pairs at x below)
      ∙ ap (λ (z : ℕ × ℤ). (symbol_at symbols z.0, k *ℤ z.1) ∷ times k (read symbols (drop (at + 1) pairs))) (sym is_x)

  pub multiplying_more : All (IsKnownPair (length symbols)) pairs → (c : ℤ) → c ≡ k *ℤ x.1 → is_small c ≡ true
      → IsMultiplying symbols k pairs (out ++ (x.0, c) ∷ []) (at + 1)
  multiplying_more known c e small = record {
    made =
        one_more symbols out (x.0, c) (times k (read symbols (drop at pairs))) (times k (read symbols (drop (at + 1) pairs))) (times k (read symbols pairs))
        (next ∙ ap (λ z. (symbol_at symbols x.0, z) ∷ times k (read symbols (drop (at + 1) pairs))) (sym e)) m.made;
    each = all_more (IsKnownPair (length symbols)) out (x.0, c) m.each ((subst (IsKnownPair (length symbols)) (sym is_x) (known at x below)).0, small);
  }

  pub multiplying_large : is_small (k *ℤ x.1) ≡ false → all_small (times k (read symbols pairs)) ≡ false
  multiplying_large large =
      ap all_small (sym m.made)
      ∙ list_all-append (λ (p : Symbol × ℤ). is_small p.1) (read symbols out) (times k (read symbols (drop at pairs)))
      ∙ ap (λ b. all_small (read symbols out) && b) (ap all_small next ∙ ap (λ b. b && all_small (times k (read symbols (drop (at + 1) pairs)))) large)
      ∙ and_false (all_small (read symbols out))
    where
      and_false : (b : Bool) → (b && false) ≡ false
      and_false true = refl
      and_false false = refl

append_nil : (xs : Pairs) → xs ++ [] ≡ xs
append_nil [] = refl
append_nil (x ∷ xs) = ap (λ (r : Pairs). x ∷ r) (append_nil xs)

pub multiplied_all : (symbols : List Symbol) (k : ℤ) (pairs out : Ids) (at : ℕ) → IsMultiplying symbols k pairs out at → length pairs ≤ at
    → read symbols out ≡ times k (read symbols pairs)
multiplied_all symbols k pairs out at m past =
    sym (append_nil (read symbols out)) ∙ ap (λ (r : Pairs). read symbols out ++ r) (sym (ap (λ (r : Ids). times k (read symbols r)) (dropped_all pairs at past))) ∙ m.made

pub multiplied_known : (symbols : List Symbol) (k : ℤ) (pairs out : Ids) (at : ℕ) → IsMultiplying symbols k pairs out at → length pairs ≤ at → AreKnown symbols pairs
    → AreKnown symbols out
multiplied_known symbols k pairs out at m past known = record {
  each = m.each;
  rise = subst InOrder (sym (multiplied_all symbols k pairs out at m past)) (scaled_in_order k (read symbols pairs) known.rise);
}

-- THE REST OF A LIST

pub append_start : (out pairs : Ids) (from : ℕ) → out ++ drop from pairs ≡ out ++ drop from pairs
append_start out pairs from = refl

ids_assoc : (xs ys zs : Ids) → (xs ++ ys) ++ zs ≡ xs ++ (ys ++ zs)
ids_assoc [] ys zs = refl
ids_assoc (x ∷ xs) ys zs = ap (λ (r : Ids). x ∷ r) (ids_assoc xs ys zs)

ids_nil : (xs : Ids) → xs ++ [] ≡ xs
ids_nil [] = refl
ids_nil (x ∷ xs) = ap (λ (r : Ids). x ∷ r) (ids_nil xs)

pub append_more : (out pairs whole new : Ids) (at : ℕ) (x : ℕ × ℤ) → at < length pairs → x ≡ get_or pairs at x → out ++ drop at pairs ≡ whole → new ≡ out ++ x ∷ []
    → new ++ drop (at + 1) pairs ≡ whole
append_more out pairs whole new at x below is_x e n =
    ap (λ (r : Ids). r ++ drop (at + 1) pairs) n ∙ ids_assoc out (x ∷ []) (drop (at + 1) pairs)
    ∙ ap (λ (r : Ids). out ++ r) (sym (drop_next pairs at x below ∙ ap (λ (z : ℕ × ℤ). z ∷ drop (at + 1) pairs) (sym is_x))) ∙ e

pub append_end : (out pairs whole : Ids) (at : ℕ) → length pairs ≤ at → out ++ drop at pairs ≡ whole → out ≡ whole
append_end out pairs whole at past e = sym (ids_nil out) ∙ ap (λ (r : Ids). out ++ r) (sym (dropped_all pairs at past)) ∙ e
