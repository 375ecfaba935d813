-- The literals gathered for the items of a sum, and what follows for its least sum.
use Rattle.std.proofs.Common.{◌≡◌, ℕ, zero, suc, ◌+◌, ◌<◌, ◌≤◌, Bool, true, refl, sym, ◌∙◌, ap, arith, List, [], ◌∷◌, ◌++◌, length, get_or, take, drop, ℤ, pos, ◌+ℤ◌, ◌≤ℤ◌, ◌<ℤ◌, Result, Ok, Err, IfOk, inl, inr}
use Rattle.std.proofs.lemmas.Int.{ints}
use Rattle.std.proofs.lemmas.List.{append_assoc, append-nil, drop_more, drop_all}
use Rattle.std.proofs.Math.Seq.{take-suc}
use Rattle.literals.specs.declared.lit.Lit.{Lit}
use Rattle.linear_normal.specs.declared.constraint.Item.{Item}
use Rattle.linear_normal.specs.Bounds.{Bounds, bounds_named, least_item, greatest_item, least_sum, greatest_sum}
use Rattle.trail.specs.Implied.{implied}
use Rattle.trail.specs.Assignment.{Assignment, Names, is_true_on}
use Rattle.trail_bounds.specs.OnTrail.{bounds_on}
use Rattle.trail_bounds.specs.Sides.{side_least, side_sum}
use Rattle.trail_bounds.specs.Backing.{BacksOne}
use Rattle.sum_propagator.specs.Reasons.{sum_but, IsInstead, Backs}
use Rattle.trail_bounds.proofs.Backs.{each_append, each_front, each_back, each_as}

-- ONE ITEM LEFT OUT

sum-push : (side : Bool) (b : Bounds) (xs : List Item) (i : Item) → side_sum side b (xs ++ i ∷ []) ≡ side_sum side b xs +ℤ side_least side b i
sum-push side b [] i = turn (side_least side b i)
  where
    turn : (x : ℤ) → x +ℤ pos 0 ≡ pos 0 +ℤ x
    turn x = omega (arith, ints)
sum-push side b (x ∷ xs) i = add (side_least side b x) (side_sum side b (xs ++ i ∷ [])) (side_sum side b xs) (side_least side b i) (sum-push side b xs i)
  where
    add : (x u v w : ℤ) → u ≡ v +ℤ w → x +ℤ u ≡ (x +ℤ v) +ℤ w
    add x u v w e = omega (arith, ints, e)

but-other : (side : Bool) (b : Bounds) (xs : List Item) (i : Item) (but : ℕ) → (length xs ≡ but → ⊥) → sum_but side b (xs ++ i ∷ []) but ≡ sum_but side b xs but +ℤ side_least side b i
but-other side b [] i zero n = absurd (n refl)
but-other side b [] i (suc but) n = turn (side_least side b i)
  where
    turn : (x : ℤ) → x +ℤ pos 0 ≡ pos 0 +ℤ x
    turn x = omega (arith, ints)
but-other side b (x ∷ xs) i zero n = sum-push side b xs i
but-other side b (x ∷ xs) i (suc but) n = add (side_least side b x) (sum_but side b (xs ++ i ∷ []) but) (sum_but side b xs but) (side_least side b i) (but-other side b xs i but (λ e. n (ap suc e)))
  where
    add : (x u v w : ℤ) → u ≡ v +ℤ w → x +ℤ u ≡ (x +ℤ v) +ℤ w
    add x u v w e = omega (arith, ints, e)

but-same : (side : Bool) (b : Bounds) (xs : List Item) (i : Item) (but : ℕ) → length xs ≡ but → sum_but side b (xs ++ i ∷ []) but ≡ sum_but side b xs but
but-same side b [] i zero e = refl
but-same side b [] i (suc but) e = absurd (omega (arith, e))
but-same side b (x ∷ xs) i zero e = absurd (omega (arith, e))
but-same side b (x ∷ xs) i (suc but) e = ap (λ k. side_least side b x +ℤ k) (but-same side b xs i but (omega (arith, e)))

length-taken : (n : ℕ) (xs : List Item) → n < length xs → length (take n xs) ≡ n
length-taken zero xs lt = refl
length-taken (suc n) [] lt = absurd (omega (arith, lt))
length-taken (suc n) (x ∷ xs) lt = ap suc (length-taken n xs (omega (arith, lt)))

next-other : (side : Bool) (b : Bounds) (items : List Item) (but upto : ℕ) (i : Item) → upto < length items → (upto ≡ but → ⊥) → ((d : Item) → get_or items upto d ≡ i) → sum_but side b (take (upto + 1) items) but ≡ sum_but side b (take upto items) but +ℤ side_least side b i
next-other side b items but upto i lt n at =
    ap (λ m. sum_but side b (take m items) but) (one upto)
    ∙ ap (λ xs. sum_but side b xs but) (take-suc items upto i lt ∙ ap (λ j. take upto items ++ j ∷ []) (at i))
    ∙ but-other side b (take upto items) i but (λ e. n (sym (length-taken upto items lt) ∙ e))
  where
    one : (n : ℕ) → n + 1 ≡ suc n
    one n = omega arith

next-same : (side : Bool) (b : Bounds) (items : List Item) (but upto : ℕ) (d : Item) → upto < length items → upto ≡ but → sum_but side b (take (upto + 1) items) but ≡ sum_but side b (take upto items) but
next-same side b items but upto d lt e =
    ap (λ m. sum_but side b (take m items) but) (one upto)
    ∙ ap (λ xs. sum_but side b xs but) (take-suc items upto d lt)
    ∙ but-same side b (take upto items) (get_or items upto d) but (length-taken upto items lt ∙ e)
  where
    one : (n : ℕ) → n + 1 ≡ suc n
    one n = omega arith

-- the item at the place and the others make the sum
pub with_item : (side : Bool) (b : Bounds) (items : List Item) (but : ℕ) (d : Item) → but < length items → side_sum side b items ≡ sum_but side b items but +ℤ side_least side b (get_or items but d)
with_item side b [] but d lt = absurd (omega (arith, lt))
with_item side b (x ∷ xs) zero d lt = turn (side_least side b x) (side_sum side b xs)
  where
    turn : (x y : ℤ) → x +ℤ y ≡ y +ℤ x
    turn x y = omega (arith, ints)
with_item side b (x ∷ xs) (suc but) d lt = add (side_least side b x) (side_sum side b xs) (sum_but side b xs but) (side_least side b (get_or xs but d)) (with_item side b xs but d (omega (arith, lt)))
  where
    add : (x u v w : ℤ) → u ≡ v +ℤ w → x +ℤ u ≡ (x +ℤ v) +ℤ w
    add x u v w e = omega (arith, ints, e)

pub without_none : (side : Bool) (b : Bounds) (items : List Item) (but : ℕ) → length items ≤ but → sum_but side b items but ≡ side_sum side b items
without_none side b [] but le = refl
without_none side b (x ∷ xs) zero le = absurd (omega (arith, le))
without_none side b (x ∷ xs) (suc but) le = ap (λ k. side_least side b x +ℤ k) (without_none side b xs but (omega (arith, le)))

-- ITEM AFTER ITEM

pub backs_none : (t : Assignment) (side : Bool) (items : List Item) (but : ℕ) (instead : Lit) (slack : ℕ) (old : List Lit) → Backs t side items but instead slack slack 0 old old
backs_none t side items but instead slack old = record {
  more = [];
  added = sym (append-nil old);
  names = tt;
  each = tt;
  has = λ lits f lt. absurd (omega (arith, lt));
  covers = λ lits f. same slack;
}
  where
    same : (slack : ℕ) → (pos 0 +ℤ pos slack) ≤ℤ (pos 0 +ℤ pos slack)
    same slack = omega (arith, ints)

later : (t : Assignment) (but upto : ℕ) (instead m : Lit) → IsInstead t but upto instead m → IsInstead t but (upto + 1) instead m
later t but upto instead m (inl p) = inl ((let lt = p.0 in omega (arith, lt)), p.1)
later t but upto instead m (inr on) = inr on

before : (but upto : ℕ) → (upto ≡ but → ⊥) → but < upto + 1 → but < upto
before but upto ne lt = grind arith

pub backs_more : (t : Assignment) (side : Bool) (items : List Item) (but : ℕ) (instead : Lit) (slack left rest upto : ℕ) (i : Item) (old mid new : List Lit) → Backs t side items but instead slack left upto old mid → BacksOne t side i left rest mid new → upto < length items → (upto ≡ but → ⊥) → ((d : Item) → get_or items upto d ≡ i) → Backs t side items but instead slack rest (upto + 1) old new
backs_more t side items but instead slack left rest upto i old mid new b o lt ne at = record {
  more = b.more ++ o.more;
  added = o.added ∙ ap (λ (ls : List Lit). ls ++ o.more) b.added ∙ append_assoc old b.more o.more;
  names = each_append (Names t.shape) b.more o.more b.names o.names;
  each = each_append (IsInstead t but (upto + 1) instead) b.more o.more (each_as (IsInstead t but upto instead) (IsInstead t but (upto + 1) instead) b.more (later t but upto instead) b.each) (each_as (λ l. is_true_on t l ≡ true) (IsInstead t but (upto + 1) instead) o.more (λ m e. inr e) o.are_true);
  has = λ lits f lt. b.has lits (each_front (λ m. implied t.shape.ends lits m ≡ true) b.more o.more f) (before but upto ne lt);
  covers = λ lits f. more (sum_but side (bounds_on t) (take (upto + 1) items) but) (sum_but side (bounds_on t) (take upto items) but) (side_least side (bounds_on t) i)
      (sum_but side (bounds_named t.shape.ends lits) (take (upto + 1) items) but) (sum_but side (bounds_named t.shape.ends lits) (take upto items) but) (side_least side (bounds_named t.shape.ends lits) i)
      (next-other side (bounds_on t) items but upto i lt ne at) (next-other side (bounds_named t.shape.ends lits) items but upto i lt ne at)
      (b.covers lits (each_front (λ m. implied t.shape.ends lits m ≡ true) b.more o.more f))
      (o.backs lits (each_back (λ m. implied t.shape.ends lits m ≡ true) b.more o.more f));
}
  where
    more : (x a u y b v : ℤ) → x ≡ a +ℤ u → y ≡ b +ℤ v → (a +ℤ pos left) ≤ℤ (b +ℤ pos slack) → (u +ℤ pos rest) ≤ℤ (v +ℤ pos left) → (x +ℤ pos rest) ≤ℤ (y +ℤ pos slack)
    more x a u y b v e f h g = omega (arith, ints, e, f, h, g)

pub backs_instead : (t : Assignment) (side : Bool) (items : List Item) (but : ℕ) (instead : Lit) (slack left upto : ℕ) (d : Item) (old mid new : List Lit) → Names t.shape instead → Backs t side items but instead slack left upto old mid → upto < length items → upto ≡ but → new ≡ mid ++ instead ∷ [] → Backs t side items but instead slack left (upto + 1) old new
backs_instead t side items but instead slack left upto d old mid new n b lt e add = record {
  more = b.more ++ instead ∷ [];
  added = add ∙ ap (λ (ls : List Lit). ls ++ instead ∷ []) b.added ∙ append_assoc old b.more (instead ∷ []);
  names = each_append (Names t.shape) b.more (instead ∷ []) b.names (n, tt);
  each = each_append (IsInstead t but (upto + 1) instead) b.more (instead ∷ []) (each_as (IsInstead t but upto instead) (IsInstead t but (upto + 1) instead) b.more (later t but upto instead) b.each) (inl (omega (arith, e), refl), tt);
  has = λ lits f lt. (each_back (λ m. implied t.shape.ends lits m ≡ true) b.more (instead ∷ []) f).0;
  covers = λ lits f. same (sum_but side (bounds_on t) (take (upto + 1) items) but) (sum_but side (bounds_on t) (take upto items) but)
      (sum_but side (bounds_named t.shape.ends lits) (take (upto + 1) items) but) (sum_but side (bounds_named t.shape.ends lits) (take upto items) but)
      (next-same side (bounds_on t) items but upto d lt e) (next-same side (bounds_named t.shape.ends lits) items but upto d lt e)
      (b.covers lits (each_front (λ m. implied t.shape.ends lits m ≡ true) b.more (instead ∷ []) f));
}
  where
    same : (x a y b : ℤ) → x ≡ a → y ≡ b → (a +ℤ pos left) ≤ℤ (b +ℤ pos slack) → (x +ℤ pos left) ≤ℤ (y +ℤ pos slack)
    same x a y b e f h = omega (arith, ints, e, f, h)

pub back_ok : (t : Assignment) (side : Bool) (items : List Item) (but : ℕ) (instead : Lit) (at left : ℕ) (i : Item) (mid new : List Lit) {E : Type 0} (r : Result ℕ E) → IfOk r (λ rest. BacksOne t side i left rest mid new) → at < length items → (at ≡ but → ⊥) → ((d : Item) → get_or items at d ≡ i) → IfOk r (λ rest. (slack : ℕ) (first : List Lit) → Backs t side items but instead slack left at first mid → Backs t side items but instead slack rest (at + 1) first new)
back_ok t side items but instead at left i mid new (Ok rest) o lt ne is = λ slack first b. backs_more t side items but instead slack left rest at i first mid new b o lt ne is
back_ok t side items but instead at left i mid new (Err e) o lt ne is = tt

-- SUMS

-- no item is left out: the sum is smaller by no more than the slack
pub sum_covers : (side : Bool) (a b : Bounds) (items : List Item) (slack : ℕ) → sum_but side a items (length items) ≤ℤ (sum_but side b items (length items) +ℤ pos slack) → side_sum side a items ≤ℤ (side_sum side b items +ℤ pos slack)
sum_covers side a b items slack h =
    go (sum_but side a items (length items)) (sum_but side b items (length items)) (side_sum side a items) (side_sum side b items)
    (without_none side a items (length items) (omega arith)) (without_none side b items (length items) (omega arith)) h
  where
    go : (x y u v : ℤ) → x ≡ u → y ≡ v → x ≤ℤ (y +ℤ pos slack) → u ≤ℤ (v +ℤ pos slack)
    go x y u v e f h = omega (arith, ints, e, f, h)

-- the others are smaller by no more than what is spared, and the item exceeds the slack and that: the sum exceeds the slack
pub sum_beyond : (side : Bool) (a b : Bounds) (items : List Item) (but slack spare : ℕ) (d : Item) → sum_but side a items but ≤ℤ (sum_but side b items but +ℤ pos spare) → but < length items → (side_least side a (get_or items but d) +ℤ pos (slack + spare)) <ℤ side_least side b (get_or items but d) → (side_sum side a items +ℤ pos slack) <ℤ side_sum side b items
sum_beyond side a b items but slack spare d h lt g =
    go (sum_but side a items but) (sum_but side b items but) (side_least side a (get_or items but d)) (side_least side b (get_or items but d)) (side_sum side a items) (side_sum side b items)
    (with_item side a items but d lt) (with_item side b items but d lt) h g
  where
    go : (x y u v p q : ℤ) → p ≡ x +ℤ u → q ≡ y +ℤ v → x ≤ℤ (y +ℤ pos spare) → (u +ℤ pos (slack + spare)) <ℤ v → (p +ℤ pos slack) <ℤ q
    go x y u v p q e f h g = omega (arith, ints, e, f, h, g)

-- item after item

pub least_next : (b : Bounds) (xs : List Item) (i : ℕ) (d : Item) → i < length xs → least_sum b (drop i xs) ≡ least_item b (get_or xs i d) +ℤ least_sum b (drop (i + 1) xs)
least_next b xs i d lt = ap (least_sum b) (drop_more xs i d lt)

pub least_end : (b : Bounds) (xs : List Item) (i : ℕ) → length xs ≤ i → least_sum b (drop i xs) ≡ pos 0
least_end b xs i le = ap (least_sum b) (drop_all i xs le)

pub greatest_next : (b : Bounds) (xs : List Item) (i : ℕ) (d : Item) → i < length xs → greatest_sum b (drop i xs) ≡ greatest_item b (get_or xs i d) +ℤ greatest_sum b (drop (i + 1) xs)
greatest_next b xs i d lt = ap (greatest_sum b) (drop_more xs i d lt)

pub greatest_end : (b : Bounds) (xs : List Item) (i : ℕ) → length xs ≤ i → greatest_sum b (drop i xs) ≡ pos 0
greatest_end b xs i le = ap (greatest_sum b) (drop_all i xs le)
