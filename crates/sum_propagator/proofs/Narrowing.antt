-- A literal that an item needs is open, and its opposite makes the sum exceed its limit; what stays as the trail grows.
use Rattle.std.proofs.Common.{◌≡◌, ℕ, ◌+◌, ◌<◌, Bool, true, false, IsTrue, refl, sym, ◌∙◌, ap, subst, arith, List, [], ◌∷◌, length, get_or, ℤ, pos, ◌+ℤ◌, ◌≤ℤ◌, ◌<ℤ◌, ◌⊎◌, inl, inr}
use Rattle.std.specs.List.{AllByRecursion, All, list_all}
use Rattle.std.proofs.lemmas.Bool.Decides.{nat_tests}
use Rattle.std.proofs.lemmas.Int.{ints}
use Rattle.std.proofs.lemmas.List.Elements.{All-from_recursion}
use Rattle.literals.specs.declared.lit.Lit.{Lit}
use Rattle.literals.specs.declared.lit.Lit.TheVariants.{Constraint}
use Rattle.literals.specs.declared.reason.Reason.{Reason}
use Rattle.literals.specs.Lits.{complement_of}
use Rattle.linear_normal.specs.declared.constraint.Item.{Item}
use Rattle.linear_normal.specs.Bounds.{bounds_named}
use Rattle.trail.specs.declared.shape.Shape.{Shape}
use Rattle.trail.specs.declared.entry.Entry.{Entry}
use Rattle.trail.specs.declared.entry.Why.TheVariants.{Shown}
use Rattle.trail.specs.Assignment.{Assignment, Names, lits_of, is_true_on, entry_of}
use Rattle.trail.specs.Growth.{Grows}
use Rattle.trail.proofs.ImpliedLaws.{open_is}
use Rattle.trail.proofs.GrowthLaws.{grows_same, grows_shape, grows_length, grows_true}
use Rattle.propagator_core.specs.Shown.{IsShown}
use Rattle.trail_bounds.specs.OnTrail.{is_item_of, bounds_on}
use Rattle.sum_propagator.specs.Sums.{fits_sum}
use Rattle.trail_bounds.specs.Sides.{side_least, side_sum, Rests}
use Rattle.sum_propagator.specs.Sides.{limit_of}
use Rattle.trail_bounds.specs.inner.Lists.{IsOrTrue}
use Rattle.trail_bounds.specs.Needing.{IsNeeded}
use Rattle.sum_propagator.specs.Reasons.{Explains}
use Rattle.sum_propagator.specs.declared.sum.Kind.{Kind}
use Rattle.sum_propagator.specs.declared.sum.Kind.TheVariants as kind
use Rattle.sum_propagator.specs.Kinds.{meaning_of, own_lits, IsOn}
use Rattle.trail_bounds.proofs.Backs.{each_as}
use Rattle.sum_propagator.proofs.Backing.{sum_beyond}
use Rattle.sum_propagator.proofs.Validity.{valid_kind, spelled, reason_or_true}
use Rattle.trail_bounds.proofs.Needing.{forces_by}

-- FORCING

beyond_limit : (m x y : ℤ) (s : ℕ) → m ≤ℤ (x +ℤ pos s) → (x +ℤ pos s) <ℤ y → m <ℤ y
beyond_limit m x y s h g = omega (arith, ints, h, g)

-- what is true on the trail is it or the other literal
or_true : (t : Assignment) (instead : Lit) (ls : List Lit) → AllByRecursion (λ m. is_true_on t m ≡ true) ls → AllByRecursion (IsOrTrue t instead) ls
or_true t instead ls a = each_as (λ m. is_true_on t m ≡ true) (IsOrTrue t instead) ls (λ m e. inr e) a

-- the literal that the item at this place needs is shown by its reason, which gives away no more than is spared
pub press_shown : (t : Assignment) (kind : Kind) (number : ℕ) (items : List Item) (most : ℤ) (side : Bool) (at slack spare : ℕ) (i : Item) (l : Lit) (r : Reason) → IsOn t kind number side → at < length items → ((d : Item) → get_or items at d ≡ i) → limit_of side most ≤ℤ (side_sum side (bounds_on t) items +ℤ pos slack) → IsNeeded t side i (slack + spare) l → Explains t kind number items side at (complement_of l) spare r → IsShown (meaning_of kind number items most).valid t (entry_of t l (Shown r))
press_shown t kind number items most side at slack spare i l r on lt is limit w x =
    let never : is_true_on t (complement_of l) ≡ false = (open_is t.shape.ends (lits_of t.entries) l w.is_open).1 in
    record {
      reason = r;
      why = refl;
      is_valid = valid_kind kind number items most t.shape r side on.0 x.names x.step x.listed
          (beyond_limit (limit_of side most) (side_sum side (bounds_on t) items) (side_sum side (bounds_named t.shape.ends r.nogood) items) slack limit
          (sum_beyond side (bounds_on t) (bounds_named t.shape.ends r.nogood) items at slack spare i x.covers lt
          (subst (λ (j : Item). (side_least side (bounds_on t) j +ℤ pos (slack + spare)) <ℤ side_least side (bounds_named t.shape.ends r.nogood) j) (sym (is i)) (w.beyond r.nogood (x.has lt)))));
      spelled = spelled t kind number items side at (complement_of l) spare r x;
      forces = forces_by t r l never (x.has lt) (reason_or_true t kind number items side at (complement_of l) spare r (or_true t (complement_of l) (own_lits kind number side) on.1) x);
    }

-- AS THE TRAIL GROWS

pub fits_grows : (P : Assignment → Entry → Type 0) (a b : Assignment) (number : ℕ) (items : List Item) → Grows P a b → IsTrue (fits_sum number items a.shape) → IsTrue (fits_sum number items b.shape)
fits_grows P a b number items g h = subst (λ (s : Shape). IsTrue (fits_sum number items s)) (sym (grows_shape P a b g)) h

pub middle_same : (P : Assignment → Entry → Type 0) (a b c : Assignment) → Grows P a b → Grows P b c → c ≡ a → (b ≡ a) × (c ≡ b)
middle_same P a b c g h e =
    let one = grows_length P a b g in
    let two = grows_length P b c h in
    let same : length c.entries ≡ length a.entries = ap (λ (t : Assignment). length t.entries) e in
    let mid : b ≡ a = grows_same P a b g (omega (arith, one, two, same)) in
    (mid, e ∙ sym mid)

pub rests_more : (P : Assignment → Entry → Type 0) (a b c : Assignment) (side : Bool) (items : List Item) (slack at : ℕ) → Grows P a b → Grows P b c → (b ≡ a → (k : ℕ) (d : Item) → k < at → Rests side (bounds_on a) slack (get_or items k d)) → (c ≡ b → (d : Item) → Rests side (bounds_on b) slack (get_or items at d)) → c ≡ a → (k : ℕ) (d : Item) → k < at + 1 → Rests side (bounds_on a) slack (get_or items k d)
rests_more P a b c side items slack at g h before last e k d lt = cases (split k at lt)
  where
    same : (b ≡ a) × (c ≡ b)
    same = middle_same P a b c g h e

    split : (k at : ℕ) → k < at + 1 → (k < at) ⊎ (k ≡ at)
    split k at lt = grind arith

    cases : (k < at) ⊎ (k ≡ at) → Rests side (bounds_on a) slack (get_or items k d)
    cases (inl less) = before same.0 k d less
    cases (inr here) = subst (λ (n : ℕ). Rests side (bounds_on a) slack (get_or items n d)) (sym here) (subst (λ (t : Assignment). Rests side (bounds_on t) slack (get_or items at d)) same.0 (last same.1 d))

all_items : (s : Shape) (items : List Item) → list_all (is_item_of s) items ≡ true → AllByRecursion (λ item. IsTrue (is_item_of s item)) items
all_items s [] e = tt
all_items s (i ∷ is) e = (grind (arith, nat_tests), all_items s is (grind (arith, nat_tests)))

-- a shape that fits has what each item counts, and the constraint
pub items_of : (s : Shape) (number : ℕ) (items : List Item) → IsTrue (fits_sum number items s) → All (λ item. IsTrue (is_item_of s item)) items
items_of s number items h = All-from_recursion (λ item. IsTrue (is_item_of s item)) items (all_items s items (grind (arith, nat_tests)))

pub number_of : (s : Shape) (number : ℕ) (items : List Item) (side : Bool) → IsTrue (fits_sum number items s) → Names s (Constraint number side)
number_of s number items side h = record { literal = grind (arith, nat_tests); within = grind (arith, nat_tests) }

pub item_at : (s : Shape) (number : ℕ) (items : List Item) (at : ℕ) (i : Item) → IsTrue (fits_sum number items s) → at < length items → ((d : Item) → get_or items at d ≡ i) → IsTrue (is_item_of s i)
item_at s number items at i h lt is = subst (λ (j : Item). IsTrue (is_item_of s j)) (is i) (items_of s number items h at i lt)

-- BY KIND

pub grows_fits : (P : Assignment → Entry → Type 0) (a b : Assignment) (fits : Shape → Bool) → Grows P a b → IsTrue (fits a.shape) → IsTrue (fits b.shape)
grows_fits P a b fits g h = subst (λ (s : Shape). IsTrue (fits s)) (sym (grows_shape P a b g)) h

pub kind_items : (kind : Kind) (s : Shape) (number : ℕ) (items : List Item) (most : ℤ) → IsTrue ((meaning_of kind number items most).fits s) → All (λ item. IsTrue (is_item_of s item)) items
kind_items kind.Constraint s number items most h = items_of s number items h
kind_items kind.Unbounded s number items most h = All-from_recursion (λ item. IsTrue (is_item_of s item)) items (all_items s items h)
kind_items kind.Bounded s number items most h = All-from_recursion (λ item. IsTrue (is_item_of s item)) items (all_items s items h)

pub own_names : (kind : Kind) (s : Shape) (number : ℕ) (items : List Item) (most : ℤ) (side : Bool) → IsTrue ((meaning_of kind number items most).fits s) → AllByRecursion (Names s) (own_lits kind number side)
own_names kind.Constraint s number items most side h = (number_of s number items side h, tt)
own_names kind.Unbounded s number items most side h = tt
own_names kind.Bounded s number items most side h = tt

pub item_of_kind : (kind : Kind) (s : Shape) (number : ℕ) (items : List Item) (most : ℤ) (at : ℕ) (i : Item) → IsTrue ((meaning_of kind number items most).fits s) → at < length items → ((d : Item) → get_or items at d ≡ i) → IsTrue (is_item_of s i)
item_of_kind kind s number items most at i h lt is = subst (λ (j : Item). IsTrue (is_item_of s j)) (is i) (kind_items kind s number items most h at i lt)

pub on_later : (P : Assignment → Entry → Type 0) (a b : Assignment) (kind : Kind) (number : ℕ) (side : Bool) → Grows P a b → IsOn a kind number side → IsOn b kind number side
on_later P a b kind number side g h = (h.0, each_as (λ m. is_true_on a m ≡ true) (λ m. is_true_on b m ≡ true) (own_lits kind number side) (λ m e. grows_true P a b m g e) h.1)
