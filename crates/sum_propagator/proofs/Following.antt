-- The totals after the entry at a place, whatever it moves; and where the item of a key stands.
use Rattle.std.proofs.Common.{◌≡◌, ℕ, suc, ◌+◌, ◌-◌, ◌^◌, ◌<◌, ◌≤◌, false, IsTrue, sym, ◌∙◌, ap, subst, arith, List, [], ◌∷◌, length, get_or, take, Option, None, Some, Result, Ok, Err, IfOk, IfErr, IfSome, IfNone, ℤ, pos, ◌+ℤ◌, ◌⊎◌, inl, inr}
use Rattle.std.specs.Prelude.{cond, slice_get}
use Rattle.std.specs.Result.{result_ok}
use Rattle.std.specs.List.{AllByRecursion}
use Rattle.std.specs.List.Sorted.{IsSearchInRange, IsBinarySearchResult, IsNonDecreasingBy}
use Rattle.std.specs.Ordering.{nat_cmp, ordering_index}
use Rattle.std.proofs.lemmas.Cmp.{ranked}
use Rattle.std.proofs.lemmas.Option.{get_or_from_slice_get}
use Rattle.std.proofs.lemmas.List.{take-map}
use Rattle.std.proofs.lemmas.List.Sorted.{IsNonDecreasingBy-from_default}
use Rattle.std.proofs.lemmas.Bool.Decides.{nat_tests}
use Rattle.literals.specs.declared.lit.Lit.{Lit}
use Rattle.linear_normal.specs.declared.constraint.Item.{Item}
use Rattle.linear_normal.specs.declared.constraint.Item.TheVariants.{Value}
use Rattle.linear_normal.specs.Bounds.{Bounds, least_sum, greatest_sum}
use Rattle.trail.specs.declared.entry.Entry.{Entry}
use Rattle.trail.specs.Implied.{bound_before}
use Rattle.trail.specs.Assignment.{Assignment, IsAssignment, lits_of, truth_on}
use Rattle.sum_propagator.specs.declared.sum.Totals.{Totals}
use Rattle.sum_propagator.specs.declared.moves.Move.{Move}
use Rattle.numbering_laws.specs.Items.{are_items}
use Rattle.trail_bounds.specs.OnTrail.{bounds_on}
use Rattle.trail_bounds.specs.Items.{coefficient_of}
use Rattle.sum_propagator.specs.Moves.{front, key_in, AreRising, AreCoefficients, move_of, moves_least, step_by, AreTotals, MovesItem, Lacks, IsMoved}
use Rattle.trail_bounds.proofs.Following.{bounds_with, touches}
use Rattle.sum_propagator.proofs.Forcing.{once_rec}
use Rattle.sum_propagator.proofs.Moving.{front_assignment, front-next, front_open, no_item, Moves, moves_so, at_other, at_item, totals_small}

-- what the entry at a place is to the entries before it
pub record Here (t : Assignment) (n : ℕ) (l : Lit) (replaced : Option ℤ) : Type 0 where
  pub is_open : truth_on (front t n) l ≡ None
  pub kept : replaced ≡ bound_before t.shape.ends (lits_of (front t n).entries) l
  pub next : bounds_on (front t (n + 1)) ≡ bounds_with (front t n) l

pub here : (t : Assignment) (n : ℕ) (e : Entry) (l : Lit) (replaced : Option ℤ) → IsAssignment t → n < length t.entries → slice_get t.entries n ≡ Some e → l ≡ e.lit → ((x : Entry) → slice_get t.entries n ≡ Some x → replaced ≡ bound_before t.shape.ends (take n (lits_of t.entries)) x.lit) → Here t n l replaced
here t n e l replaced h lt at is r =
    let same : get_or t.entries n e ≡ e = get_or_from_slice_get t.entries n e e at in
    record {
      is_open = subst (λ (m : Lit). truth_on (front t n) m ≡ None) (sym is) (front_open t n e h lt same);
      kept = r e at ∙ ap (λ ls. bound_before t.shape.ends ls e.lit) (take-map (λ (x : Entry). x.lit) n t.entries) ∙ ap (bound_before t.shape.ends (lits_of (front t n).entries)) (sym is);
      next = front-next t n e lt same ∙ ap (bounds_with (front t n)) (sym is);
    }

still : (t : Assignment) (n : ℕ) (l : Lit) (items : List Item) (totals : Totals) → bounds_on (front t (n + 1)) ≡ bounds_with (front t n) l → AllByRecursion (λ i. touches l i ≡ false) items → AreTotals (front t n) items totals → AreTotals (front t (n + 1)) items totals
still t n l items totals e off h =
    let o = at_other (front t n) l items off in
    record {
      least = h.least ∙ sym o.0 ∙ ap (λ (b : Bounds). least_sum b items) (sym e);
      greatest = h.greatest ∙ sym o.1 ∙ ap (λ (b : Bounds). greatest_sum b items) (sym e);
      small = h.small;
    }

all_off : (l : Lit) (items : List Item) → ((i : Item) → touches l i ≡ false) → AllByRecursion (λ i. touches l i ≡ false) items
all_off l [] h = tt
all_off l (i ∷ is) h = (h i, all_off l is h)

pub moves_none : (t : Assignment) (n : ℕ) (l : Lit) (replaced : Option ℤ) (items : List Item) (totals : Totals) → Here t n l replaced → move_of l replaced ≡ None → AreTotals (front t n) items totals → AreTotals (front t (n + 1)) items totals
moves_none t n l replaced items totals h e a = still t n l items totals h.next (all_off l items (no_item l replaced t.shape.ends (lits_of (front t n).entries) h.kept e)) a

absent_off : (f : Assignment) (l : Lit) (m : Move) (items : List Item) → Moves f l m → Lacks items m.key → AllByRecursion (λ i. touches l i ≡ false) items
absent_off f l m [] mv h = tt
absent_off f l m (i ∷ is) mv h = (mv.others i (h 0 i (omega arith)), absent_off f l m is mv (λ k d lt. h (suc k) d (omega (arith, lt))))

pub moves_absent : (t : Assignment) (n : ℕ) (l : Lit) (replaced : Option ℤ) (m : Move) (items : List Item) (totals : Totals) → Here t n l replaced → move_of l replaced ≡ Some m → Lacks items m.key → AreTotals (front t n) items totals → AreTotals (front t (n + 1)) items totals
moves_absent t n l replaced m items totals h e none a = still t n l items totals h.next (absent_off (front t n) l m items (moves_so (front t n) l replaced m h.is_open h.kept e) none) a

pub moves_item : (t : Assignment) (n : ℕ) (l : Lit) (replaced : Option ℤ) (m : Move) (number : ℕ) (items : List Item) (totals after : Totals) → IsAssignment t → IsTrue (are_items number items) → AreCoefficients items → length items ≤ 2 ^ 33 → Here t n l replaced → move_of l replaced ≡ Some m → MovesItem items m totals after → AreTotals (front t n) items totals → AreTotals (front t (n + 1)) items after
moves_item t n l replaced m number items totals after ha hi hc few h e mv a =
    let i : Item = mv.item in
    let o = at_item (front t n) l m items mv.at mv.item (moves_so (front t n) l replaced m h.is_open h.kept e) (once_rec number items hi) mv.within mv.is mv.key in
    totals_small (front t (n + 1)) items after (front_assignment t (n + 1) ha) hc few
    (mv.least ∙ ap (λ z. z +ℤ cond (moves_least (coefficient_of mv.item) m.lower) (step_by (coefficient_of mv.item) m.from m.to) (pos 0)) a.least ∙ sym o.0 ∙ ap (λ (b : Bounds). least_sum b items) (sym h.next))
    (mv.greatest ∙ ap (λ z. z +ℤ cond (moves_least (coefficient_of mv.item) m.lower) (pos 0) (step_by (coefficient_of mv.item) m.from m.to)) a.greatest ∙ sym o.1 ∙ ap (λ (b : Bounds). greatest_sum b items) (sym h.next))

pub moves_either : (t : Assignment) (n : ℕ) (l : Lit) (replaced : Option ℤ) (m : Move) (number : ℕ) (items : List Item) (totals after : Totals) → IsAssignment t → IsTrue (are_items number items) → AreCoefficients items → length items ≤ 2 ^ 33 → Here t n l replaced → move_of l replaced ≡ Some m → IsMoved items m totals after → AreTotals (front t n) items totals → AreTotals (front t (n + 1)) items after
moves_either t n l replaced m number items totals after ha hi hc few h e (inl mv) a = subst (AreTotals (front t (n + 1)) items) (sym mv.1) (moves_absent t n l replaced m items totals h e mv.0 a)
moves_either t n l replaced m number items totals after ha hi hc few h e (inr mv) a = moves_item t n l replaced m number items totals after ha hi hc few h e mv a

-- PLACES

pub rising_next : (items : List Item) (at : ℕ) (p q : ℕ) → 1 ≤ at → ((d : Item) → p ≡ key_in (get_or items at d)) → ((d : Item) → q ≡ key_in (get_or items (at - 1) d)) → q < p → ((i j : ℕ) (d : Item) → i < j → j < at → key_in (get_or items i d) < key_in (get_or items j d)) → (i j : ℕ) (d : Item) → i < j → j < at + 1 → key_in (get_or items i d) < key_in (get_or items j d)
rising_next items at p q some here before lt rest i j d less within = cases (split i j at less within some)
  where
    split : (i j at : ℕ) → i < j → j < at + 1 → 1 ≤ at → (j < at) ⊎ ((j ≡ at) × ((i ≡ at - 1) ⊎ (i < at - 1)))
    split i j at a b c = grind arith

    last : (d : Item) → key_in (get_or items (at - 1) d) < key_in (get_or items at d)
    last d = let e = here d in let f = before d in omega (arith, e, f, lt)

    cases : (j < at) ⊎ ((j ≡ at) × ((i ≡ at - 1) ⊎ (i < at - 1))) → key_in (get_or items i d) < key_in (get_or items j d)
    cases (inl a) = rest i j d less a
    cases (inr (e, inl f)) = subst (λ (n : ℕ). key_in (get_or items i d) < key_in (get_or items n d)) (sym e) (subst (λ (n : ℕ). key_in (get_or items n d) < key_in (get_or items at d)) (sym f) (last d))
    cases (inr (e, inr g)) =
        subst (λ (n : ℕ). key_in (get_or items i d) < key_in (get_or items n d)) (sym e)
        (let a = rest i (at - 1) d g (omega (arith, some)) in let b = last d in omega (arith, a, b))

rises : (items : List Item) (key : ℕ) → AreRising items → IsNonDecreasingBy (λ (i : Item). ordering_index (nat_cmp (key_in i) key)) items
rises items key h = IsNonDecreasingBy-from_default (λ (i : Item). ordering_index (nat_cmp (key_in i) key)) items (Value 0 (pos 0)) (λ i j le lt.
    let up : key_in (get_or items i (Value 0 (pos 0))) ≤ key_in (get_or items j (Value 0 (pos 0))) = grind (arith, h i j (Value 0 (pos 0)), λ (same : i ≡ j). ap (λ n. key_in (get_or items n (Value 0 (pos 0)))) same) in
    grind (arith, nat_tests))

pub found_at : (items : List Item) (key : ℕ) (r : Result ℕ ℕ) → AreRising items → IsSearchInRange r (length items) → IsBinarySearchResult (λ (i : Item). nat_cmp (key_in i) key) items r → IfOk r (λ at. (at < length items) × ((d : Item) → key_in (get_or items at d) ≡ key)) × IfErr r (λ at. Lacks items key)
found_at items key (Ok at) h within equal = ((within, λ d. ranked _ key _ (sym (equal d))), tt)
found_at items key (Err at) h within parted = (tt, λ k d lt e. cases k d e lt (split k at))
  where
    split : (k at : ℕ) → (k < at) ⊎ (at ≤ k)
    split k at = grind arith

    cases : (k : ℕ) (d : Item) → key_in (get_or items k d) ≡ key → k < length items → (k < at) ⊎ (at ≤ k) → ⊥
    cases k d e lt (inl a) = let s : key_in (get_or items k d) < key = ranked _ key _ (sym ((parted (rises items key h)).0 k d (omega arith) a)) in omega (arith, s, e)
    cases k d e lt (inr a) = let s : key < key_in (get_or items k d) = ranked _ key _ (sym ((parted (rises items key h)).1 k d a lt)) in omega (arith, s, e)

pub place_some : (items : List Item) (key : ℕ) (r : Result ℕ ℕ) → IfOk r (λ at. (at < length items) × ((d : Item) → key_in (get_or items at d) ≡ key)) → IfSome (result_ok r) (λ at. (at < length items) × ((d : Item) → key_in (get_or items at d) ≡ key))
place_some items key (Ok at) h = h
place_some items key (Err at) h = tt

pub place_none : (items : List Item) (key : ℕ) (r : Result ℕ ℕ) → IfErr r (λ at. Lacks items key) → IfNone (result_ok r) (Lacks items key)
place_none items key (Ok at) h = tt
place_none items key (Err at) h = h
