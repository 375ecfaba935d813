-- What follows from lists of literals, and one literal more on a trail: the range of one item alone is another, and its least value is within the slack.
use Rattle.std.proofs.Common.{◌≡◌, ℕ, ◌==◌, ◌||◌, Bool, true, false, cond, refl, sym, ◌∙◌, ap, subst, arith, List, [], ◌∷◌, ◌++◌, None, ℤ, pos, ◌+ℤ◌, ◌-ℤ◌, ◌≤ℤ◌, inl, inr}
use Rattle.std.specs.Prelude.{int_le}
use Rattle.std.specs.Int.{int_max, int_min}
use Rattle.std.specs.List.{AllByRecursion, list_any}
use Rattle.std.proofs.lemmas.Bool.Decides.{nat_tests}
use Rattle.std.proofs.lemmas.Int.{ints}
use Rattle.symbols.specs.declared.ends.Ends.{Ends}
use Rattle.literals.specs.declared.lit.Lit.{Lit}
use Rattle.literals.specs.declared.lit.Lit.TheVariants.{Atom, Body, Constraint, AtMost, AtLeast}
use Rattle.literals.specs.Lits.{implies_lit}
use Rattle.literals.proofs.LitLaws.{implies_refl}
use Rattle.linear_normal.specs.declared.constraint.Item.{Item}
use Rattle.linear_normal.specs.declared.constraint.Item.TheVariants.{Value, Truth}
use Rattle.linear_normal.specs.Bounds.{Bounds, bounds_named, raised, lowered, counted, discounted}
use Rattle.trail.specs.Implied.{ends_imply, implied}
use Rattle.trail.specs.Assignment.{Assignment, IsAssignment, lits_of, truth_on}
use Rattle.trail.proofs.ImpliedLaws.{implied-push, implied_stays, implied_trans, open_is, fold-push}
use Rattle.trail_bounds.specs.OnTrail.{bounds_on}
use Rattle.trail_bounds.specs.Items.{coefficient_of, low_in, high_in}
use Rattle.trail_bounds.specs.Sides.{signed_by, side_least, side_greatest, side_sum, Rests}
use Rattle.trail_bounds.specs.Backing.{Follow}
use Rattle.trail_bounds.specs.inner.Lists.{IsOrTrue}
use Rattle.trail_bounds.proofs.Times.{least_within}
use Rattle.trail_bounds.proofs.Ranges.{implied-least, implied-most, greatest-named, least-named, range_meets, Says}
use Rattle.trail_bounds.proofs.Backs.{each_as}

-- the literals of the trail and one more
abbrev pub with_lit : Assignment → Lit → List Lit
with_lit t l = lits_of t.entries ++ l ∷ []

abbrev pub bounds_with : Assignment → Lit → Bounds
bounds_with t l = bounds_named t.shape.ends (lits_of t.entries ++ l ∷ [])

-- a list each of whose literals follows from another says no more
any_says : (ends : Ends) (ls ms : List Lit) (q : Lit) → Follow ends ms ls → list_any (λ m. implies_lit m q) ls ≡ true → implied ends ms q ≡ true
any_says ends [] ms q f h = absurd (let no : false ≡ true = h in cc)
any_says ends (l ∷ ls) ms q f h = cases (implies_lit l q) refl h (any_says ends ls ms q f.1)
  where
    cases : (b : Bool) → implies_lit l q ≡ b → (b || list_any (λ m. implies_lit m q) ls) ≡ true → (list_any (λ m. implies_lit m q) ls ≡ true → implied ends ms q ≡ true) → implied ends ms q ≡ true
    cases true e h g = implied_trans ends ms l q e f.0
    cases false e h g = g h

pub follow_says : (ends : Ends) (ls ms : List Lit) → Follow ends ms ls → Says ends ls ms
follow_says ends ls ms f q h = cases (ends_imply ends q) refl h
  where
    cases : (b : Bool) → ends_imply ends q ≡ b → (b || list_any (λ m. implies_lit m q) ls) ≡ true → implied ends ms q ≡ true
    cases true e h = rw e refl
    cases false e h = any_says ends ls ms q f h

or_last : (a b : Bool) → b ≡ true → (a || b) ≡ true
or_last true b h = refl
or_last false b h = h

follows_with : (t : Assignment) (l m : Lit) → IsOrTrue t l m → implied t.shape.ends (with_lit t l) m ≡ true
follows_with t l m (inl e) = implied-push t.shape.ends (lits_of t.entries) l m ∙ or_last (implied t.shape.ends (lits_of t.entries) m) (implies_lit l m) (ap (implies_lit l) e ∙ implies_refl l)
follows_with t l m (inr on) = implied_stays t.shape.ends (lits_of t.entries) (l ∷ []) m on

pub says_with : (t : Assignment) (l : Lit) (ls : List Lit) → AllByRecursion (IsOrTrue t l) ls → Says t.shape.ends ls (with_lit t l)
says_with t l ls a = follow_says t.shape.ends ls (with_lit t l) (each_as (IsOrTrue t l) (λ m. implied t.shape.ends (with_lit t l) m ≡ true) ls (λ m o. follows_with t l m o) a)

-- the literal speaks of what the item counts
abbrev pub touches : Lit → Item → Bool
touches (AtMost y k) (Value x c) = y == x
touches (AtLeast y k) (Value x c) = y == x
touches (Constraint m s) (Truth n c) = m == n
touches l i = false

cond_off : (b : Bool) (v k : ℤ) → b ≡ false → cond b v k ≡ k
cond_off b v k e = rw e refl

raised_off : (x : ℕ) (c k : ℤ) (l : Lit) → touches l (Value x c) ≡ false → raised x k l ≡ k
raised_off x c k (Atom n s) e = refl
raised_off x c k (Body n s) e = refl
raised_off x c k (Constraint n s) e = refl
raised_off x c k (AtMost y j) e = refl
raised_off x c k (AtLeast y j) e = cond_off (y == x) (int_max k j) k e

lowered_off : (x : ℕ) (c k : ℤ) (l : Lit) → touches l (Value x c) ≡ false → lowered x k l ≡ k
lowered_off x c k (Atom n s) e = refl
lowered_off x c k (Body n s) e = refl
lowered_off x c k (Constraint n s) e = refl
lowered_off x c k (AtMost y j) e = cond_off (y == x) (int_min k j) k e
lowered_off x c k (AtLeast y j) e = refl

counted_off : (n : ℕ) (c k : ℤ) (l : Lit) → touches l (Truth n c) ≡ false → counted n k l ≡ k
counted_off n c k (Atom m s) e = refl
counted_off n c k (Body m s) e = refl
counted_off n c k (Constraint m true) e = cond_off (m == n) (pos 1) k e
counted_off n c k (Constraint m false) e = refl
counted_off n c k (AtMost y j) e = refl
counted_off n c k (AtLeast y j) e = refl

discounted_off : (n : ℕ) (c k : ℤ) (l : Lit) → touches l (Truth n c) ≡ false → discounted n k l ≡ k
discounted_off n c k (Atom m s) e = refl
discounted_off n c k (Body m s) e = refl
discounted_off n c k (Constraint m true) e = refl
discounted_off n c k (Constraint m false) e = cond_off (m == n) (pos 0) k e
discounted_off n c k (AtMost y j) e = refl
discounted_off n c k (AtLeast y j) e = refl

low_off : (t : Assignment) (l : Lit) (i : Item) → touches l i ≡ false → low_in (bounds_with t l) i ≡ low_in (bounds_on t) i
low_off t l (Value x c) e = fold-push (raised x) t.shape.ends.min (lits_of t.entries) l ∙ raised_off x c ((bounds_on t).low x) l e
low_off t l (Truth n c) e = fold-push (counted n) (pos 0) (lits_of t.entries) l ∙ counted_off n c ((bounds_on t).least n) l e

high_off : (t : Assignment) (l : Lit) (i : Item) → touches l i ≡ false → high_in (bounds_with t l) i ≡ high_in (bounds_on t) i
high_off t l (Value x c) e = fold-push (lowered x) t.shape.ends.max (lits_of t.entries) l ∙ lowered_off x c ((bounds_on t).high x) l e
high_off t l (Truth n c) e = fold-push (discounted n) (pos 1) (lits_of t.entries) l ∙ discounted_off n c ((bounds_on t).greatest n) l e

-- an item of which the literal does not speak is as it was
pub other_item : (t : Assignment) (side : Bool) (l : Lit) (i : Item) → touches l i ≡ false → side_least side (bounds_with t l) i ≡ side_least side (bounds_on t) i
other_item t side l i e = rw (low_off t l i e, high_off t l i e) refl

pub other_items : (t : Assignment) (side : Bool) (l : Lit) (items : List Item) → AllByRecursion (λ i. touches l i ≡ false) items → side_sum side (bounds_with t l) items ≡ side_sum side (bounds_on t) items
other_items t side l [] a = refl
other_items t side l (i ∷ is) a = add (other_item t side l i a.0) (other_items t side l is a.1)
  where
    add : {x y u v : ℤ} → x ≡ y → u ≡ v → x +ℤ u ≡ y +ℤ v
    add e f = rw (e, f) refl

-- an open literal leaves something of the range
not_before : (k high : ℤ) → int_le high (k -ℤ pos 1) ≡ false → k ≤ℤ high
not_before k high h = grind (arith, nat_tests, ints)

not_after : (k low : ℤ) → int_le (k +ℤ pos 1) low ≡ false → low ≤ℤ k
not_after k low h = grind (arith, nat_tests, ints)

same_number : (y x : ℕ) → (y == x) ≡ true → y ≡ x
same_number y x h = grind (arith, nat_tests)

cond_max : (b : Bool) (k j c : ℤ) → k ≤ℤ c → (b ≡ true → j ≤ℤ c) → cond b (int_max k j) k ≤ℤ c
cond_max true k j c h g = let f = g refl in grind (arith, ints)
cond_max false k j c h g = h

cond_min : (b : Bool) (k j c : ℤ) → c ≤ℤ k → (b ≡ true → c ≤ℤ j) → c ≤ℤ cond b (int_min k j) k
cond_min true k j c h g = let f = g refl in grind (arith, ints)
cond_min false k j c h g = h

cond_under : (b : Bool) (v k c : ℤ) → k ≤ℤ c → (b ≡ true → v ≤ℤ c) → cond b v k ≤ℤ c
cond_under true v k c h g = g refl
cond_under false v k c h g = h

cond_over : (b : Bool) (v k c : ℤ) → c ≤ℤ k → (b ≡ true → c ≤ℤ v) → c ≤ℤ cond b v k
cond_over true v k c h g = g refl
cond_over false v k c h g = h

open_low : (t : Assignment) (y : ℕ) (j : ℤ) → truth_on t (AtLeast y j) ≡ None → j ≤ℤ (bounds_on t).high y
open_low t y j o = not_before j ((bounds_on t).high y) (sym (implied-most t.shape.ends (lits_of t.entries) (Value y (pos 0)) (j -ℤ pos 1) refl) ∙ (open_is t.shape.ends (lits_of t.entries) (AtLeast y j) o).1)

open_high : (t : Assignment) (y : ℕ) (j : ℤ) → truth_on t (AtMost y j) ≡ None → (bounds_on t).low y ≤ℤ j
open_high t y j o = not_after j ((bounds_on t).low y) (sym (implied-least t.shape.ends (lits_of t.entries) (Value y (pos 0)) (j +ℤ pos 1) refl) ∙ (open_is t.shape.ends (lits_of t.entries) (AtMost y j) o).1)

open_true : (t : Assignment) (m : ℕ) → truth_on t (Constraint m true) ≡ None → pos 1 ≤ℤ (bounds_on t).greatest m
open_true t m o = let e = greatest-named t.shape.ends (lits_of t.entries) m ∙ ap (λ b. cond b (pos 0) (pos 1)) (open_is t.shape.ends (lits_of t.entries) (Constraint m true) o).1 in omega (arith, ints, e)

open_false : (t : Assignment) (m : ℕ) → truth_on t (Constraint m false) ≡ None → (bounds_on t).least m ≤ℤ pos 0
open_false t m o = let e = least-named t.shape.ends (lits_of t.entries) m ∙ ap (λ b. cond b (pos 1) (pos 0)) (open_is t.shape.ends (lits_of t.entries) (Constraint m false) o).1 in omega (arith, ints, e)

low_step : (t : Assignment) (l : Lit) (x : ℕ) → truth_on t l ≡ None → (bounds_on t).low x ≤ℤ (bounds_on t).high x → raised x ((bounds_on t).low x) l ≤ℤ (bounds_on t).high x
low_step t (Atom n s) x o h = h
low_step t (Body n s) x o h = h
low_step t (Constraint n s) x o h = h
low_step t (AtMost y j) x o h = h
low_step t (AtLeast y j) x o h = cond_max (y == x) ((bounds_on t).low x) j ((bounds_on t).high x) h (λ e. subst (λ (z : ℕ). j ≤ℤ (bounds_on t).high z) (same_number y x e) (open_low t y j o))

high_step : (t : Assignment) (l : Lit) (x : ℕ) → truth_on t l ≡ None → (bounds_on t).low x ≤ℤ (bounds_on t).high x → (bounds_on t).low x ≤ℤ lowered x ((bounds_on t).high x) l
high_step t (Atom n s) x o h = h
high_step t (Body n s) x o h = h
high_step t (Constraint n s) x o h = h
high_step t (AtMost y j) x o h = cond_min (y == x) ((bounds_on t).high x) j ((bounds_on t).low x) h (λ e. subst (λ (z : ℕ). (bounds_on t).low z ≤ℤ j) (same_number y x e) (open_high t y j o))
high_step t (AtLeast y j) x o h = h

least_step : (t : Assignment) (l : Lit) (n : ℕ) → truth_on t l ≡ None → (bounds_on t).least n ≤ℤ (bounds_on t).greatest n → counted n ((bounds_on t).least n) l ≤ℤ (bounds_on t).greatest n
least_step t (Atom m s) n o h = h
least_step t (Body m s) n o h = h
least_step t (Constraint m true) n o h = cond_under (m == n) (pos 1) ((bounds_on t).least n) ((bounds_on t).greatest n) h (λ e. subst (λ (z : ℕ). pos 1 ≤ℤ (bounds_on t).greatest z) (same_number m n e) (open_true t m o))
least_step t (Constraint m false) n o h = h
least_step t (AtMost y j) n o h = h
least_step t (AtLeast y j) n o h = h

greatest_step : (t : Assignment) (l : Lit) (n : ℕ) → truth_on t l ≡ None → (bounds_on t).least n ≤ℤ (bounds_on t).greatest n → (bounds_on t).least n ≤ℤ discounted n ((bounds_on t).greatest n) l
greatest_step t (Atom m s) n o h = h
greatest_step t (Body m s) n o h = h
greatest_step t (Constraint m true) n o h = h
greatest_step t (Constraint m false) n o h = cond_over (m == n) (pos 0) ((bounds_on t).greatest n) ((bounds_on t).least n) h (λ e. subst (λ (z : ℕ). (bounds_on t).least z ≤ℤ pos 0) (same_number m n e) (open_false t m o))
greatest_step t (AtMost y j) n o h = h
greatest_step t (AtLeast y j) n o h = h

pub low_left : (t : Assignment) (l : Lit) (i : Item) → IsAssignment t → truth_on t l ≡ None → low_in (bounds_with t l) i ≤ℤ high_in (bounds_on t) i
low_left t l (Value x c) h o = subst (λ (k : ℤ). k ≤ℤ (bounds_on t).high x) (sym (fold-push (raised x) t.shape.ends.min (lits_of t.entries) l)) (low_step t l x o (range_meets t (Value x c) h))
low_left t l (Truth n c) h o = subst (λ (k : ℤ). k ≤ℤ (bounds_on t).greatest n) (sym (fold-push (counted n) (pos 0) (lits_of t.entries) l)) (least_step t l n o (range_meets t (Truth n c) h))

pub high_left : (t : Assignment) (l : Lit) (i : Item) → IsAssignment t → truth_on t l ≡ None → low_in (bounds_on t) i ≤ℤ high_in (bounds_with t l) i
high_left t l (Value x c) h o = subst (λ (k : ℤ). (bounds_on t).low x ≤ℤ k) (sym (fold-push (lowered x) t.shape.ends.max (lits_of t.entries) l)) (high_step t l x o (range_meets t (Value x c) h))
high_left t l (Truth n c) h o = subst (λ (k : ℤ). (bounds_on t).least n ≤ℤ k) (sym (fold-push (discounted n) (pos 1) (lits_of t.entries) l)) (greatest_step t l n o (range_meets t (Truth n c) h))

pub this_item : (t : Assignment) (side : Bool) (l : Lit) (i : Item) (slack : ℕ) → IsAssignment t → truth_on t l ≡ None → Rests side (bounds_on t) slack i → side_least side (bounds_with t l) i ≤ℤ (side_least side (bounds_on t) i +ℤ pos slack)
this_item t side l i slack h o r =
    on (side_least side (bounds_with t l) i) (side_greatest side (bounds_on t) i) (side_least side (bounds_on t) i)
    (least_within (signed_by side (coefficient_of i)) (low_in (bounds_on t) i) (high_in (bounds_on t) i) (low_in (bounds_with t l) i) (high_in (bounds_with t l) i) (low_left t l i h o) (high_left t l i h o)) r
  where
    on : (x y z : ℤ) → x ≤ℤ y → y ≤ℤ (z +ℤ pos slack) → x ≤ℤ (z +ℤ pos slack)
    on x y z e f = omega (arith, ints, e, f)
