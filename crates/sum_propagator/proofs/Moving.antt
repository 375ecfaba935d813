-- One entry more moves a bound of one item at most, and the totals with it.
use Rattle.std.proofs.Common.{◌≡◌, ℕ, zero, suc, ◌+◌, ◌*◌, ◌^◌, ◌-◌, ◌<◌, ◌≤◌, ◌==◌, Bool, true, false, not, cond, refl, sym, ◌∙◌, ap, subst, arith, List, [], ◌∷◌, ◌++◌, length, get_or, take, Option, None, Some, ℤ, pos, negsuc, neg_ℤ, ◌+ℤ◌, ◌-ℤ◌, ◌*ℤ◌, ◌≤ℤ◌, FitsSigned, w32}
use Rattle.std.specs.Prelude.{int_le}
use Rattle.std.specs.Int.{int_max, int_min}
use Rattle.std.specs.Int.RustNames.{unsigned_abs}
use Rattle.std.specs.List.{AllByRecursion}
use Rattle.std.proofs.lemmas.Bool.Decides.{nat_tests}
use Rattle.std.proofs.lemmas.Int.{ints, unsigned_abs-mul}
use Rattle.std.proofs.lemmas.List.{map-append, take_more, take-map, take_all}
use Rattle.std.proofs.lemmas.List.Elements.{All-from_recursion}
use Rattle.symbols.specs.declared.ends.Ends.{Ends}
use Rattle.literals.specs.declared.lit.Lit.{Lit}
use Rattle.literals.specs.declared.lit.Lit.TheVariants.{Atom, Body, Constraint, AtMost, AtLeast}
use Rattle.linear_normal.specs.declared.constraint.Item.{Item}
use Rattle.linear_normal.specs.declared.constraint.Item.TheVariants.{Value, Truth}
use Rattle.linear_normal.specs.Bounds.{Bounds, bounds_named, least_times, greatest_times, least_item, greatest_item, least_sum, greatest_sum, raised, lowered, counted, discounted}
use Rattle.trail.specs.declared.shape.Shape.{Shape}
use Rattle.trail.specs.declared.entry.Entry.{Entry}
use Rattle.trail.specs.Implied.{truth_of, lower_of, upper_of, bound_before}
use Rattle.trail.specs.Assignment.{Assignment, IsAssignment, Follow, lits_of, truth_on}
use Rattle.trail.proofs.ImpliedLaws.{fold-push, open_is}
use Rattle.trail.proofs.KeptLaws.{follow_low}
use Rattle.trail.proofs.EntryLaws.{entry_is}
use Rattle.sum_propagator.specs.declared.sum.Totals.{Totals}
use Rattle.sum_propagator.specs.declared.moves.Move.{Move}
use Rattle.propagator_core.specs.Standing.{StandsFor}
use Rattle.numbering_laws.specs.Items.{same_counted}
use Rattle.sum_propagator.specs.Sums.{totals_after}
use Rattle.trail_bounds.specs.OnTrail.{bounds_on}
use Rattle.trail_bounds.specs.Items.{coefficient_of, low_in, high_in}
use Rattle.trail_bounds.specs.inner.Ranges.{InRange}
use Rattle.trail_bounds.specs.Sides.{side_least, side_sum}
use Rattle.sum_propagator.specs.Sides.{AreSmall}
use Rattle.sum_propagator.specs.Moves.{front, key_in, bit, bound_move, move_of, moves_least, step_by, AreTotals, AreCoefficients}
use Rattle.trail_bounds.proofs.Times.{product_small}
use Rattle.trail_bounds.proofs.Ranges.{implied-least, implied-most, low-named, high-named, least-named, greatest-named, range_is}
use Rattle.trail_bounds.proofs.ItemSums.{item_least, item_greatest, item_opposite, side-true, side-false}
use Rattle.trail_bounds.proofs.Following.{bounds_with, touches, other_item, other_items}
use Rattle.sum_propagator.proofs.Forcing.{NoRepeat, not_both, none_after}

-- THE FIRST ENTRIES ALONE

follow_take : (s : Shape) (before : List Lit) (level : ℕ) (es : List Entry) (high n : ℕ) → Follow s before level es high → Follow s before level (take n es) high
follow_take s before level es high zero h = follow_low s before level es high h
follow_take s before level [] high (suc n) h = h
follow_take s before level (e ∷ es) high (suc n) h = (h.0, h.1, h.2, follow_take s (before ++ e.lit ∷ []) e.level es high n h.3)

pub front_assignment : (t : Assignment) (n : ℕ) → IsAssignment t → IsAssignment (front t n)
front_assignment t n h = record { entries = follow_take t.shape [] 0 t.entries t.level n h.entries; variables = h.variables }

lits-front : (t : Assignment) (n : ℕ) → take n (lits_of t.entries) ≡ lits_of (front t n).entries
lits-front t n = take-map (λ (e : Entry). e.lit) n t.entries

pub front-all : (t : Assignment) (n : ℕ) → length t.entries ≤ n → bounds_on (front t n) ≡ bounds_on t
front-all t n le = ap (λ (es : List Entry). bounds_named t.shape.ends (lits_of es)) (take_all n t.entries le)

-- the entry at a place is the literal more
pub front-next : (t : Assignment) (n : ℕ) (e : Entry) → n < length t.entries → get_or t.entries n e ≡ e → bounds_on (front t (n + 1)) ≡ bounds_with (front t n) e.lit
front-next t n e lt is =
    ap (λ (es : List Entry). bounds_named t.shape.ends (lits_of es)) (take_more t.entries n e lt)
    ∙ ap (λ (ls : List Lit). bounds_named t.shape.ends ls) (map-append (λ (x : Entry). x.lit) (take n t.entries) (get_or t.entries n e ∷ []))
    ∙ ap (λ (x : Entry). bounds_with (front t n) x.lit) is

pub front_open : (t : Assignment) (n : ℕ) (e : Entry) → IsAssignment t → n < length t.entries → get_or t.entries n e ≡ e → truth_on (front t n) e.lit ≡ None
front_open t n e h lt is =
    subst (λ (x : Entry). truth_of t.shape.ends (lits_of (take n t.entries)) x.lit ≡ None) is
    (subst (λ (ls : List Lit). truth_of t.shape.ends ls (get_or t.entries n e).lit ≡ None) (lits-front t n) (entry_is t n e h lt).open_before)

-- WHICH ITEM

pub no_item : (l : Lit) (replaced : Option ℤ) (ends : Ends) (before : List Lit) → replaced ≡ bound_before ends before l → move_of l replaced ≡ None → (i : Item) → touches l i ≡ false
no_item (Atom n s) replaced ends before e h i = refl
no_item (Body n s) replaced ends before e h i = refl
no_item (Constraint n s) replaced ends before e h i = absurd (let f : Some (record { key = 2 * n + 1; lower = s; from = bit (not s); to = bit s }) ≡ None = h in cc)
no_item (AtMost x k) replaced ends before e h i = absurd (let f : bound_move x false k (Some (upper_of ends before x)) ≡ None = subst (λ (r : Option ℤ). bound_move x false k r ≡ None) e h in cc)
no_item (AtLeast x k) replaced ends before e h i = absurd (let f : bound_move x true k (Some (lower_of ends before x)) ≡ None = subst (λ (r : Option ℤ). bound_move x true k r ≡ None) e h in cc)

twice_apart : (a b : ℕ) → 2 * a ≡ 2 * b + 1 → ⊥
twice_apart a b e = omega (arith, e)

twice_same : (a b : ℕ) → 2 * a ≡ 2 * b → (b == a) ≡ true
twice_same a b e = grind (arith, nat_tests)

odd_same : (a b : ℕ) → 2 * a + 1 ≡ 2 * b + 1 → (b == a) ≡ true
odd_same a b e = grind (arith, nat_tests)

twice_other : (a b : ℕ) → (2 * a ≡ 2 * b → ⊥) → (b == a) ≡ false
twice_other a b n = unequal (b == a) refl
  where
    unequal : (q : Bool) → (b == a) ≡ q → (b == a) ≡ false
    unequal true e = absurd (n (let s : b ≡ a = grind (arith, nat_tests) in omega (arith, s)))
    unequal false e = e

odd_other : (a b : ℕ) → (2 * a + 1 ≡ 2 * b + 1 → ⊥) → (b == a) ≡ false
odd_other a b n = unequal (b == a) refl
  where
    unequal : (q : Bool) → (b == a) ≡ q → (b == a) ≡ false
    unequal true e = absurd (n (let s : b ≡ a = grind (arith, nat_tests) in omega (arith, s)))
    unequal false e = e

-- what a bound from one number to another is, on the lower or on the upper side
abbrev pub MovesTo : Bool → ℤ → ℤ → Bounds → Bounds → Item → Type 0
MovesTo true from to a b i = (low_in a i ≡ from) × (low_in b i ≡ to) × (high_in b i ≡ high_in a i)
MovesTo false from to a b i = (high_in a i ≡ from) × (high_in b i ≡ to) × (low_in b i ≡ low_in a i)

raised_here : (q : Bool) (low k : ℤ) → q ≡ true → low ≤ℤ k → cond q (int_max low k) low ≡ k
raised_here true low k e h = grind (arith, ints)
raised_here false low k e h = absurd (let no : false ≡ true = e in cc)

lowered_here : (q : Bool) (high k : ℤ) → q ≡ true → k ≤ℤ high → cond q (int_min high k) high ≡ k
lowered_here true high k e h = grind (arith, ints)
lowered_here false high k e h = absurd (let no : false ≡ true = e in cc)

counted_here : (q : Bool) (v w : ℤ) → q ≡ true → cond q v w ≡ v
counted_here q v w e = rw e refl

not_least : (k low : ℤ) → int_le k low ≡ false → low ≤ℤ k
not_least k low h = grind (arith, nat_tests, ints)

not_most : (k high : ℤ) → int_le high k ≡ false → k ≤ℤ high
not_most k high h = grind (arith, nat_tests, ints)

open_least : (f : Assignment) (y : ℕ) (k : ℤ) → truth_on f (AtLeast y k) ≡ None → (bounds_on f).low y ≤ℤ k
open_least f y k o = not_least k ((bounds_on f).low y) (sym (implied-least f.shape.ends (lits_of f.entries) (Value y (pos 0)) k refl) ∙ (open_is f.shape.ends (lits_of f.entries) (AtLeast y k) o).0)

open_most : (f : Assignment) (y : ℕ) (k : ℤ) → truth_on f (AtMost y k) ≡ None → k ≤ℤ (bounds_on f).high y
open_most f y k o = not_most k ((bounds_on f).high y) (sym (implied-most f.shape.ends (lits_of f.entries) (Value y (pos 0)) k refl) ∙ (open_is f.shape.ends (lits_of f.entries) (AtMost y k) o).0)

open_least_count : (f : Assignment) (n : ℕ) (s : Bool) → truth_on f (Constraint n s) ≡ None → ((bounds_on f).least n ≡ pos 0) × ((bounds_on f).greatest n ≡ pos 1)
open_least_count f n true o =
    let p = open_is f.shape.ends (lits_of f.entries) (Constraint n true) o in (
      least-named f.shape.ends (lits_of f.entries) n ∙ ap (λ b. cond b (pos 1) (pos 0)) p.0,
      greatest-named f.shape.ends (lits_of f.entries) n ∙ ap (λ b. cond b (pos 0) (pos 1)) p.1,
    )
open_least_count f n false o =
    let p = open_is f.shape.ends (lits_of f.entries) (Constraint n false) o in (
      least-named f.shape.ends (lits_of f.entries) n ∙ ap (λ b. cond b (pos 1) (pos 0)) p.1,
      greatest-named f.shape.ends (lits_of f.entries) n ∙ ap (λ b. cond b (pos 0) (pos 1)) p.0,
    )

-- the item that the key names is the one that moves
pub record Moves (f : Assignment) (l : Lit) (m : Move) : Type 0 where
  pub this : (i : Item) → key_in i ≡ m.key → (touches l i ≡ true) × MovesTo m.lower m.from m.to (bounds_on f) (bounds_with f l) i
  pub others : (i : Item) → (key_in i ≡ m.key → ⊥) → touches l i ≡ false

moves_up : (f : Assignment) (y : ℕ) (k : ℤ) → truth_on f (AtLeast y k) ≡ None → Moves f (AtLeast y k) (record { key = 2 * y; lower = true; from = lower_of f.shape.ends (lits_of f.entries) y; to = k })
moves_up f y k o = record { this = this; others = others }
  where
    this : (i : Item) → key_in i ≡ 2 * y → (touches (AtLeast y k) i ≡ true) × MovesTo true (lower_of f.shape.ends (lits_of f.entries) y) k (bounds_on f) (bounds_with f (AtLeast y k)) i
    this (Value x c) e =
        let q = twice_same x y e in
        let s : x ≡ y = omega (arith, e) in (
          q,
          (
            ap (bounds_on f).low s ∙ low-named f.shape.ends (lits_of f.entries) y,
            fold-push (raised x) f.shape.ends.min (lits_of f.entries) (AtLeast y k) ∙ raised_here (y == x) ((bounds_on f).low x) k q (subst (λ (z : ℕ). (bounds_on f).low z ≤ℤ k) (sym s) (open_least f y k o)),
            fold-push (lowered x) f.shape.ends.max (lits_of f.entries) (AtLeast y k),
          ),
        )
    this (Truth n c) e = absurd (twice_apart y n (sym e))

    others : (i : Item) → (key_in i ≡ 2 * y → ⊥) → touches (AtLeast y k) i ≡ false
    others (Value x c) n = twice_other x y n
    others (Truth m c) n = refl

moves_down : (f : Assignment) (y : ℕ) (k : ℤ) → truth_on f (AtMost y k) ≡ None → Moves f (AtMost y k) (record { key = 2 * y; lower = false; from = upper_of f.shape.ends (lits_of f.entries) y; to = k })
moves_down f y k o = record { this = this; others = others }
  where
    this : (i : Item) → key_in i ≡ 2 * y → (touches (AtMost y k) i ≡ true) × MovesTo false (upper_of f.shape.ends (lits_of f.entries) y) k (bounds_on f) (bounds_with f (AtMost y k)) i
    this (Value x c) e =
        let q = twice_same x y e in
        let s : x ≡ y = omega (arith, e) in (
          q,
          (
            ap (bounds_on f).high s ∙ high-named f.shape.ends (lits_of f.entries) y,
            fold-push (lowered x) f.shape.ends.max (lits_of f.entries) (AtMost y k) ∙ lowered_here (y == x) ((bounds_on f).high x) k q (subst (λ (z : ℕ). k ≤ℤ (bounds_on f).high z) (sym s) (open_most f y k o)),
            fold-push (raised x) f.shape.ends.min (lits_of f.entries) (AtMost y k),
          ),
        )
    this (Truth n c) e = absurd (twice_apart y n (sym e))

    others : (i : Item) → (key_in i ≡ 2 * y → ⊥) → touches (AtMost y k) i ≡ false
    others (Value x c) n = twice_other x y n
    others (Truth m c) n = refl

moves_true : (f : Assignment) (n : ℕ) → truth_on f (Constraint n true) ≡ None → Moves f (Constraint n true) (record { key = 2 * n + 1; lower = true; from = pos 0; to = pos 1 })
moves_true f n o = record { this = this; others = others }
  where
    this : (i : Item) → key_in i ≡ 2 * n + 1 → (touches (Constraint n true) i ≡ true) × MovesTo true (pos 0) (pos 1) (bounds_on f) (bounds_with f (Constraint n true)) i
    this (Value x c) e = absurd (twice_apart x n e)
    this (Truth m c) e =
        let q = odd_same m n e in
        let s : m ≡ n = omega (arith, e) in (
          q,
          (
            ap (bounds_on f).least s ∙ (open_least_count f n true o).0,
            fold-push (counted m) (pos 0) (lits_of f.entries) (Constraint n true) ∙ counted_here (n == m) (pos 1) ((bounds_on f).least m) q,
            fold-push (discounted m) (pos 1) (lits_of f.entries) (Constraint n true),
          ),
        )

    others : (i : Item) → (key_in i ≡ 2 * n + 1 → ⊥) → touches (Constraint n true) i ≡ false
    others (Value x c) ne = refl
    others (Truth m c) ne = odd_other m n ne

moves_false : (f : Assignment) (n : ℕ) → truth_on f (Constraint n false) ≡ None → Moves f (Constraint n false) (record { key = 2 * n + 1; lower = false; from = pos 1; to = pos 0 })
moves_false f n o = record { this = this; others = others }
  where
    this : (i : Item) → key_in i ≡ 2 * n + 1 → (touches (Constraint n false) i ≡ true) × MovesTo false (pos 1) (pos 0) (bounds_on f) (bounds_with f (Constraint n false)) i
    this (Value x c) e = absurd (twice_apart x n e)
    this (Truth m c) e =
        let q = odd_same m n e in
        let s : m ≡ n = omega (arith, e) in (
          q,
          (
            ap (bounds_on f).greatest s ∙ (open_least_count f n false o).1,
            fold-push (discounted m) (pos 1) (lits_of f.entries) (Constraint n false) ∙ counted_here (n == m) (pos 0) ((bounds_on f).greatest m) q,
            fold-push (counted m) (pos 0) (lits_of f.entries) (Constraint n false),
          ),
        )

    others : (i : Item) → (key_in i ≡ 2 * n + 1 → ⊥) → touches (Constraint n false) i ≡ false
    others (Value x c) ne = refl
    others (Truth m c) ne = odd_other m n ne

pub moves_so : (f : Assignment) (l : Lit) (replaced : Option ℤ) (m : Move) → truth_on f l ≡ None → replaced ≡ bound_before f.shape.ends (lits_of f.entries) l → move_of l replaced ≡ Some m → Moves f l m
moves_so f (Atom n s) replaced m o e h = absurd (let g : None ≡ Some m = h in cc)
moves_so f (Body n s) replaced m o e h = absurd (let g : None ≡ Some m = h in cc)
moves_so f (Constraint n true) replaced m o e h = subst (Moves f (Constraint n true)) (is h) (moves_true f n o)
  where
    is : {x : Move} → Some x ≡ Some m → x ≡ m
    is g = cc
moves_so f (Constraint n false) replaced m o e h = subst (Moves f (Constraint n false)) (is h) (moves_false f n o)
  where
    is : {x : Move} → Some x ≡ Some m → x ≡ m
    is g = cc
moves_so f (AtMost x k) replaced m o e h = subst (Moves f (AtMost x k)) (is (subst (λ (r : Option ℤ). bound_move x false k r ≡ Some m) e h)) (moves_down f x k o)
  where
    is : {x : Move} → Some x ≡ Some m → x ≡ m
    is g = cc
moves_so f (AtLeast x k) replaced m o e h = subst (Moves f (AtLeast x k)) (is (subst (λ (r : Option ℤ). bound_move x true k r ≡ Some m) e h)) (moves_up f x k o)
  where
    is : {x : Move} → Some x ≡ Some m → x ≡ m
    is g = cc

-- BY HOW MUCH

step_on : (x y t f : ℤ) → x ≡ f → y ≡ t → y ≡ x +ℤ (t -ℤ f)
step_on x y t f e g = omega (arith, ints, e, g)

step_off : (x y : ℤ) → y ≡ x → y ≡ x +ℤ pos 0
step_off x y e = omega (arith, ints, e)

least_item_moves : (c : ℤ) (lower : Bool) (a b : Bounds) (i : Item) (from to : ℤ) → MovesTo lower from to a b i → least_times c (low_in b i) (high_in b i) ≡ least_times c (low_in a i) (high_in a i) +ℤ cond (moves_least c lower) (step_by c from to) (pos 0)
least_item_moves (pos n) true a b i from to h = step_on (pos n *ℤ low_in a i) (pos n *ℤ low_in b i) (pos n *ℤ to) (pos n *ℤ from) (ap (λ z. pos n *ℤ z) h.0) (ap (λ z. pos n *ℤ z) h.1)
least_item_moves (pos n) false a b i from to h = step_off (pos n *ℤ low_in a i) (pos n *ℤ low_in b i) (ap (λ z. pos n *ℤ z) h.2)
least_item_moves (negsuc n) true a b i from to h = step_off (negsuc n *ℤ high_in a i) (negsuc n *ℤ high_in b i) (ap (λ z. negsuc n *ℤ z) h.2)
least_item_moves (negsuc n) false a b i from to h = step_on (negsuc n *ℤ high_in a i) (negsuc n *ℤ high_in b i) (negsuc n *ℤ to) (negsuc n *ℤ from) (ap (λ z. negsuc n *ℤ z) h.0) (ap (λ z. negsuc n *ℤ z) h.1)

greatest_item_moves : (c : ℤ) (lower : Bool) (a b : Bounds) (i : Item) (from to : ℤ) → MovesTo lower from to a b i → greatest_times c (low_in b i) (high_in b i) ≡ greatest_times c (low_in a i) (high_in a i) +ℤ cond (moves_least c lower) (pos 0) (step_by c from to)
greatest_item_moves (pos n) true a b i from to h = step_off (pos n *ℤ high_in a i) (pos n *ℤ high_in b i) (ap (λ z. pos n *ℤ z) h.2)
greatest_item_moves (pos n) false a b i from to h = step_on (pos n *ℤ high_in a i) (pos n *ℤ high_in b i) (pos n *ℤ to) (pos n *ℤ from) (ap (λ z. pos n *ℤ z) h.0) (ap (λ z. pos n *ℤ z) h.1)
greatest_item_moves (negsuc n) true a b i from to h = step_on (negsuc n *ℤ low_in a i) (negsuc n *ℤ low_in b i) (negsuc n *ℤ to) (negsuc n *ℤ from) (ap (λ z. negsuc n *ℤ z) h.0) (ap (λ z. negsuc n *ℤ z) h.1)
greatest_item_moves (negsuc n) false a b i from to h = step_off (negsuc n *ℤ low_in a i) (negsuc n *ℤ low_in b i) (ap (λ z. negsuc n *ℤ z) h.2)

-- SUMS

same_turned : (i j : Item) → same_counted i j ≡ false → same_counted j i ≡ false
same_turned (Value x c) (Value y d) h = grind (arith, nat_tests)
same_turned (Truth n c) (Truth m d) h = grind (arith, nat_tests)
same_turned (Value x c) (Truth m d) h = refl
same_turned (Truth n c) (Value y d) h = refl

-- the sum moves as its item does
side_moves : (f : Assignment) (side : Bool) (l : Lit) (items : List Item) (at : ℕ) (i : Item) → NoRepeat items → at < length items → ((d : Item) → get_or items at d ≡ i) → touches l i ≡ true → side_sum side (bounds_with f l) items ≡ side_sum side (bounds_on f) items +ℤ (side_least side (bounds_with f l) i -ℤ side_least side (bounds_on f) i)
side_moves f side l [] at i r lt is h = absurd (omega (arith, lt))
side_moves f side l (j ∷ js) zero i r lt is h =
    let e : j ≡ i = is i in
    here (side_least side (bounds_on f) j) (side_least side (bounds_with f l) j) (side_least side (bounds_on f) i) (side_least side (bounds_with f l) i) (side_sum side (bounds_on f) js) (side_sum side (bounds_with f l) js)
    (ap (side_least side (bounds_on f)) e) (ap (side_least side (bounds_with f l)) e) (other_items f side l js (none_after l j js (ap (touches l) e ∙ h) r.0))
  where
    here : (x y a b u v : ℤ) → x ≡ a → y ≡ b → v ≡ u → y +ℤ v ≡ (x +ℤ u) +ℤ (b -ℤ a)
    here x y a b u v e g k = omega (arith, ints, e, g, k)
side_moves f side l (j ∷ js) (suc at) i r lt is h =
    let within : at < length js = omega (arith, lt) in
    let off : same_counted j i ≡ false = subst (λ (q : Item). same_counted j q ≡ false) (is i) (All-from_recursion (λ q. same_counted j q ≡ false) js r.0 at i within) in
    there (side_least side (bounds_on f) j) (side_least side (bounds_with f l) j) (side_least side (bounds_on f) i) (side_least side (bounds_with f l) i) (side_sum side (bounds_on f) js) (side_sum side (bounds_with f l) js)
    (other_item f side l j (not_both l i j h (same_turned j i off))) (side_moves f side l js at i r.1 within is h)
  where
    there : (x y a b u v : ℤ) → y ≡ x → v ≡ u +ℤ (b -ℤ a) → y +ℤ v ≡ (x +ℤ u) +ℤ (b -ℤ a)
    there x y a b u v e g = omega (arith, ints, e, g)

-- SIZES

range_small : (i : Item) (k : ℤ) → InRange i k → unsigned_abs k ≤ 2 ^ 30
range_small (Value x c) k r = wide k r.0 r.1
  where
    wide : (k : ℤ) → neg_ℤ (pos (2 ^ 30 - 1)) ≤ℤ k → k ≤ℤ pos (2 ^ 30 - 1) → unsigned_abs k ≤ 2 ^ 30
    wide k e f = grind (arith, ints)
range_small (Truth n c) k r = wide k r.0 r.1
  where
    wide : (k : ℤ) → pos 0 ≤ℤ k → k ≤ℤ pos 1 → unsigned_abs k ≤ 2 ^ 30
    wide k e f = grind (arith, ints)

least_small : (c low high : ℤ) → unsigned_abs c ≤ 2 ^ 63 → unsigned_abs low ≤ 2 ^ 30 → unsigned_abs high ≤ 2 ^ 30 → unsigned_abs (least_times c low high) ≤ 2 ^ 93
least_small (pos n) low high h e f = product_small (pos n) low h e
least_small (negsuc n) low high h e f = product_small (negsuc n) high h f

greatest_small : (c low high : ℤ) → unsigned_abs c ≤ 2 ^ 63 → unsigned_abs low ≤ 2 ^ 30 → unsigned_abs high ≤ 2 ^ 30 → unsigned_abs (greatest_times c low high) ≤ 2 ^ 93
greatest_small (pos n) low high h e f = product_small (pos n) high h f
greatest_small (negsuc n) low high h e f = product_small (negsuc n) low h e

item_small : (f : Assignment) (i : Item) → IsAssignment f → unsigned_abs (coefficient_of i) ≤ 2 ^ 63 → (unsigned_abs (least_item (bounds_on f) i) ≤ 2 ^ 93) × (unsigned_abs (greatest_item (bounds_on f) i) ≤ 2 ^ 93)
item_small f i a h =
    let r = range_is f i a in
    let low = range_small i (low_in (bounds_on f) i) r.0 in
    let high = range_small i (high_in (bounds_on f) i) r.1 in (
      subst (λ (z : ℤ). unsigned_abs z ≤ 2 ^ 93) (item_least (bounds_on f) i) (least_small (coefficient_of i) (low_in (bounds_on f) i) (high_in (bounds_on f) i) h low high),
      subst (λ (z : ℤ). unsigned_abs z ≤ 2 ^ 93) (item_greatest (bounds_on f) i) (greatest_small (coefficient_of i) (low_in (bounds_on f) i) (high_in (bounds_on f) i) h low high),
    )

add_small : (x y : ℤ) (n : ℕ) → unsigned_abs x ≤ 2 ^ 93 → unsigned_abs y ≤ n * 2 ^ 93 → unsigned_abs (x +ℤ y) ≤ suc n * 2 ^ 93
add_small x y n h g = grind (arith, ints)

sums_small : (f : Assignment) (items : List Item) → IsAssignment f → AreCoefficients items → (unsigned_abs (least_sum (bounds_on f) items) ≤ length items * 2 ^ 93) × (unsigned_abs (greatest_sum (bounds_on f) items) ≤ length items * 2 ^ 93)
sums_small f [] a h = (omega arith, omega arith)
sums_small f (i ∷ is) a h =
    let one = item_small f i a (h 0 i (omega arith)) in
    let rest = sums_small f is a (λ k d lt. h (suc k) d (omega (arith, lt))) in (
      add_small (least_item (bounds_on f) i) (least_sum (bounds_on f) is) (length is) one.0 rest.0,
      add_small (greatest_item (bounds_on f) i) (greatest_sum (bounds_on f) is) (length is) one.1 rest.1,
    )

pub totals_small : (f : Assignment) (items : List Item) (totals : Totals) → IsAssignment f → AreCoefficients items → length items ≤ 2 ^ 33 → totals.least ≡ least_sum (bounds_on f) items → totals.greatest ≡ greatest_sum (bounds_on f) items → AreTotals f items totals
totals_small f items totals a h few e g =
    let s = sums_small f items a h in
    record {
      least = e;
      greatest = g;
      small = record { least = bound totals.least (least_sum (bounds_on f) items) (length items) e few s.0; greatest = bound totals.greatest (greatest_sum (bounds_on f) items) (length items) g few s.1 };
    }
  where
    bound : (x y : ℤ) (n : ℕ) → x ≡ y → n ≤ 2 ^ 33 → unsigned_abs y ≤ n * 2 ^ 93 → unsigned_abs x ≤ 2 ^ 126
    bound x y n e few h = rw e (grind arith)

-- THE TOTALS AFTER ONE MORE ENTRY

pub at_other : (f : Assignment) (l : Lit) (items : List Item) → AllByRecursion (λ i. touches l i ≡ false) items → (least_sum (bounds_with f l) items ≡ least_sum (bounds_on f) items) × (greatest_sum (bounds_with f l) items ≡ greatest_sum (bounds_on f) items)
at_other f l items h = (
  sym (side-true (bounds_with f l) items) ∙ other_items f true l items h ∙ side-true (bounds_on f) items,
  turn (greatest_sum (bounds_with f l) items) (greatest_sum (bounds_on f) items) (sym (side-false (bounds_with f l) items) ∙ other_items f false l items h ∙ side-false (bounds_on f) items),
)
  where
    turn : (x y : ℤ) → neg_ℤ x ≡ neg_ℤ y → x ≡ y
    turn x y e = omega (arith, ints, e)

pub at_item : (f : Assignment) (l : Lit) (m : Move) (items : List Item) (at : ℕ) (i : Item) → Moves f l m → NoRepeat items → at < length items → ((d : Item) → get_or items at d ≡ i) → key_in i ≡ m.key → (least_sum (bounds_with f l) items ≡ least_sum (bounds_on f) items +ℤ cond (moves_least (coefficient_of i) m.lower) (step_by (coefficient_of i) m.from m.to) (pos 0)) × (greatest_sum (bounds_with f l) items ≡ greatest_sum (bounds_on f) items +ℤ cond (moves_least (coefficient_of i) m.lower) (pos 0) (step_by (coefficient_of i) m.from m.to))
at_item f l m items at i mv r lt is key =
    let h = mv.this i key in
    let a : Bounds = bounds_on f in
    let b : Bounds = bounds_with f l in (
      up (least_sum (bounds_on f) items) (least_sum (bounds_with f l) items) (side_sum true (bounds_on f) items) (side_sum true (bounds_with f l) items)
          (side_least true (bounds_on f) i) (side_least true (bounds_with f l) i) (cond (moves_least (coefficient_of i) m.lower) (step_by (coefficient_of i) m.from m.to) (pos 0))
          (side-true (bounds_on f) items) (side-true (bounds_with f l) items)
          (least_item_moves (coefficient_of i) m.lower (bounds_on f) (bounds_with f l) i m.from m.to h.1)
          (side_moves f true l items at i r lt is h.0),
      down (greatest_sum (bounds_on f) items) (greatest_sum (bounds_with f l) items) (side_sum false (bounds_on f) items) (side_sum false (bounds_with f l) items)
          (side_least false (bounds_on f) i) (side_least false (bounds_with f l) i) (greatest_item (bounds_on f) i) (greatest_item (bounds_with f l) i) (greatest_times (coefficient_of i) (low_in (bounds_on f) i) (high_in (bounds_on f) i)) (greatest_times (coefficient_of i) (low_in (bounds_with f l) i) (high_in (bounds_with f l) i)) (cond (moves_least (coefficient_of i) m.lower) (pos 0) (step_by (coefficient_of i) m.from m.to))
          (side-false (bounds_on f) items) (side-false (bounds_with f l) items)
          (item_opposite (bounds_on f) i) (item_opposite (bounds_with f l) i) (item_greatest (bounds_on f) i) (item_greatest (bounds_with f l) i)
          (greatest_item_moves (coefficient_of i) m.lower (bounds_on f) (bounds_with f l) i m.from m.to h.1)
          (side_moves f false l items at i r lt is h.0),
    )
  where
    up : (x y u v p q s : ℤ) → u ≡ x → v ≡ y → q ≡ p +ℤ s → v ≡ u +ℤ (q -ℤ p) → y ≡ x +ℤ s
    up x y u v p q s e f g h = omega (arith, ints, e, f, g, h)

    down : (x y u v p q a b c d s : ℤ) → u ≡ neg_ℤ x → v ≡ neg_ℤ y → p ≡ neg_ℤ a → q ≡ neg_ℤ b → c ≡ a → d ≡ b → d ≡ c +ℤ s → v ≡ u +ℤ (q -ℤ p) → y ≡ x +ℤ s
    down x y u v p q a b c d s e f g h i j k l = omega (arith, ints, e, f, g, h, i, j, k, l)

pub product_wide : (a b : ℤ) → unsigned_abs a ≤ 2 ^ 63 → FitsSigned w32 b → unsigned_abs (a *ℤ b) ≤ 2 ^ 94
product_wide a b h f = rw (unsigned_abs-mul a b) (bound (unsigned_abs a) (unsigned_abs b) h (size b f))
  where
    size : (z : ℤ) → FitsSigned w32 z → unsigned_abs z ≤ 2 ^ 31
    size z p = let b = p.sfits in omega (arith, ints)

    bound : (m n : ℕ) → m ≤ 2 ^ 63 → n ≤ 2 ^ 31 → m * n ≤ 2 ^ 94
    bound m n h g = grind arith

pub minus : (x y u v : ℤ) → x ≡ u → y ≡ v → x -ℤ y ≡ u -ℤ v
minus x y u v e f = rw (e, f) refl

pub stepped_least : (total after step : ℤ) (b : Bool) (c d from to : ℤ) (lower : Bool) → after ≡ total +ℤ cond b step (pos 0) → b ≡ moves_least c lower → step ≡ step_by c from to → c ≡ d → after ≡ total +ℤ cond (moves_least d lower) (step_by d from to) (pos 0)
stepped_least total after step b c d from to lower h e f g =
    h ∙ ap (λ x. total +ℤ cond x step (pos 0)) (e ∙ ap (λ z. moves_least z lower) g) ∙ ap (λ s. total +ℤ cond (moves_least d lower) s (pos 0)) (f ∙ ap (λ z. step_by z from to) g)

pub stepped_greatest : (total after step : ℤ) (b : Bool) (c d from to : ℤ) (lower : Bool) → after ≡ total +ℤ cond b (pos 0) step → b ≡ moves_least c lower → step ≡ step_by c from to → c ≡ d → after ≡ total +ℤ cond (moves_least d lower) (pos 0) (step_by d from to)
stepped_greatest total after step b c d from to lower h e f g =
    h ∙ ap (λ x. total +ℤ cond x (pos 0) step) (e ∙ ap (λ z. moves_least z lower) g) ∙ ap (λ s. total +ℤ cond (moves_least d lower) (pos 0) s) (f ∙ ap (λ z. step_by z from to) g)

pub totals_all : (t : Assignment) (n : ℕ) (items : List Item) (totals : Totals) → length t.entries ≤ n → AreTotals (front t n) items totals → AreTotals t items totals
totals_all t n items totals le h = record {
  least = h.least ∙ ap (λ (b : Bounds). least_sum b items) (front-all t n le);
  greatest = h.greatest ∙ ap (λ (b : Bounds). greatest_sum b items) (front-all t n le);
  small = h.small;
}

-- what is kept stands for the entries that were seen
pub totals_seen : (t : Assignment) (items : List Item) (kept : Option Totals) (totals : Totals) (seen : ℕ) → kept ≡ Some totals → StandsFor (λ ends entries. kept ≡ totals_after items ends entries) seen t → AreSmall totals → AreTotals (front t seen) items totals
totals_seen t items kept totals seen e h small = cases (take seen t.entries) (sym e ∙ h.for_these)
  where
    cases : (es : List Entry) → Some totals ≡ totals_after items t.shape.ends es → AreTotals (record t { entries = es }) items totals
    cases [] f = absurd (let g : Some totals ≡ None = f in cc)
    cases (x ∷ xs) f =
        let same : totals ≡ record { least = least_sum (bounds_named t.shape.ends (lits_of (x ∷ xs))) items; greatest = greatest_sum (bounds_named t.shape.ends (lits_of (x ∷ xs))) items } = some_same f in
        record { least = ap (λ (u : Totals). u.least) same; greatest = ap (λ (u : Totals). u.greatest) same; small = small }
      where
        some_same : {u v : Totals} → Some u ≡ Some v → u ≡ v
        some_same g = cc
