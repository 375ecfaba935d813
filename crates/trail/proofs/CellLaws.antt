-- Cells: where they lie, what one more literal says of the same place and of the others, and the last literal of a place.
use Rattle.std.proofs.Common.{◌≡◌, ℕ, suc, ◌+◌, ◌*◌, ◌<◌, ◌==◌, ◌||◌, Bool, true, false, cond, List, [], ◌∷◌, ◌++◌, length, get_or, set, Option, None, Some, refl, sym, ◌∙◌, ap, subst, arith, ℤ, pos, ◌+ℤ◌, ◌-ℤ◌}
use Rattle.std.specs.Prelude.{int_le, int_lt}
use Rattle.std.specs.Int.{int_max, int_min}
use Rattle.std.proofs.lemmas.Bool.Decides.{nat_tests}
use Rattle.std.proofs.lemmas.Grind.{elements}
use Rattle.std.proofs.lemmas.Int.{ints}
use Rattle.std.proofs.lemmas.List.{length-set}
use Rattle.symbols.specs.declared.ends.Ends.{Ends}
use Rattle.literals.specs.declared.lit.Lit.{Lit}
use Rattle.literals.specs.declared.lit.Lit.TheVariants.{Atom, Body, Constraint, AtMost, AtLeast}
use Rattle.literals.specs.declared.places.Counts.{Counts}
use Rattle.literals.specs.Lits.{implies_lit, same_lit, complement_of}
use Rattle.literals.specs.Nogoods.{index_of, same_place}
use Rattle.literals.specs.Places.{IsCounted, places_of}
use Rattle.literals.proofs.LitLaws.{implies_refl, implies_complements, complement-complement, same_lit-equal}
use Rattle.literals.proofs.PlaceLaws.{places_same, place_within}
use Rattle.trail.specs.declared.shape.Shape.{Shape}
use Rattle.trail.specs.Implied.{implied, truth_of, lower_after, upper_after, lower_of, upper_of}
use Rattle.trail.specs.Assignment.{IsOf}
use Rattle.trail.specs.inner.Cells.{Layout, is_fact, slot_of, HasBounds, HasPlace, upper_in, lower_in, truth_in, saved_in, with_truths, written}
use Rattle.trail.specs.inner.Kept.{last_from, latest, Fits, Shows, SavesBound}
use Rattle.trail.proofs.ShapeLaws.{of_counted}
use Rattle.trail.proofs.ImpliedLaws.{implied-push, open_is, truth-of, upper-push, lower-push, implied-at_most, implied-at_least}

pub get_other : {X : Type 0} (xs : List X) (i j : ℕ) (v d : X) → (i == j) ≡ false → get_or (set xs i v) j d ≡ get_or xs j d
get_other xs i j v d e = grind (arith, nat_tests, elements)

pub get_same : {X : Type 0} (xs : List X) (i j : ℕ) (v d : X) → i < length xs → (i == j) ≡ true → get_or (set xs i v) j d ≡ v
get_same xs i j v d h e = grind (arith, nat_tests, elements)

pub equal : (n p : ℕ) → (n == p) ≡ true → n ≡ p
equal n p e = grind (arith, nat_tests)

or_false : (b : Bool) → (b || false) ≡ b
or_false true = refl
or_false false = refl

or_true : (b : Bool) → (b || true) ≡ true
or_true true = refl
or_true false = refl

-- PLACES OF LITERALS IN A NOGOOD

pub place_sym : (a b : Lit) → same_place a b ≡ same_place b a
place_sym a b = grind (arith, nat_tests)

-- a literal of another place implies nothing of this one
pub apart_implies : (m l : Lit) → same_place m l ≡ false → implies_lit m l ≡ false
apart_implies (Atom n s) (Atom p r) = λ e. grind (arith, nat_tests)
apart_implies (Body n s) (Body p r) = λ e. grind (arith, nat_tests)
apart_implies (Constraint n s) (Constraint p r) = λ e. grind (arith, nat_tests)
apart_implies (AtMost x k) (AtMost y j) = λ e. grind (arith, nat_tests)
apart_implies (AtLeast x k) (AtLeast y j) = λ e. grind (arith, nat_tests)
apart_implies _ _ = λ e. refl

fact_same : (m l : Lit) → is_fact m ≡ true → same_place m l ≡ true → same_lit m l ≡ true
fact_same (Atom n s) (Atom p r) = λ f e. grind (arith, nat_tests)
fact_same (Body n s) (Body p r) = λ f e. grind (arith, nat_tests)
fact_same (Constraint n s) (Constraint p r) = λ f e. grind (arith, nat_tests)
fact_same _ _ = λ f e. cc

-- a fact alone stands at its place
pub fact_one : (m l : Lit) → is_fact m ≡ true → same_place m l ≡ true → m ≡ l
fact_one m l f e = same_lit-equal m l (fact_same m l f e)

pub fact_opposite : (l : Lit) → is_fact l ≡ true → is_fact (complement_of l) ≡ true
fact_opposite (Atom n s) f = refl
fact_opposite (Body n s) f = refl
fact_opposite (Constraint n s) f = refl
fact_opposite (AtMost x k) f = f
fact_opposite (AtLeast x k) f = f

own_apart : (m : Lit) → is_fact m ≡ true → same_place m (complement_of m) ≡ false
own_apart (Atom n true) f = grind (arith, nat_tests)
own_apart (Atom n false) f = grind (arith, nat_tests)
own_apart (Body n true) f = grind (arith, nat_tests)
own_apart (Body n false) f = grind (arith, nat_tests)
own_apart (Constraint n true) f = grind (arith, nat_tests)
own_apart (Constraint n false) f = grind (arith, nat_tests)
own_apart (AtMost x k) f = cc
own_apart (AtLeast x k) f = cc

pub bound_apart : (m l : Lit) → is_fact m ≡ false → is_fact l ≡ true → same_place m l ≡ false
bound_apart m l f g = grind (arith, nat_tests)

-- what is neither at the place of a literal nor at that of its opposite says nothing of it
pub apart_other : (m l : Lit) → same_place (complement_of m) l ≡ false → implies_lit m (complement_of l) ≡ false
apart_other m l e =
    implies_complements m (complement_of l)
    ∙ ap (λ x. implies_lit x (complement_of m)) (complement-complement l)
    ∙ apart_implies l (complement_of m) (place_sym l (complement_of m) ∙ e)

-- WHERE THE LITERALS OF A SHAPE LIE

counted : (s : Shape) (a : Layout) (l : Lit) → Fits s a → IsOf s l → IsCounted a.counts l
counted s a l f i = subst (λ (c : Counts). IsCounted c l) (sym f.counts) (of_counted s l i)

has_bounds : (s : Shape) (a : Layout) (l : Lit) → Fits s a → IsOf s l → HasBounds a l
has_bounds s a (Atom n r) f i = tt
has_bounds s a (Body n r) f i = tt
has_bounds s a (Constraint n r) f i = tt
has_bounds s a (AtMost x k) f i = omega (arith, f.pairs)
has_bounds s a (AtLeast x k) f i = omega (arith, f.pairs)

pub has_place : (s : Shape) (a : Layout) (l : Lit) → Fits s a → IsOf s l → HasPlace a l
has_place s a l f i = record { counted = counted s a l f i; truths = f.truths; marks = f.marks; bounds = has_bounds s a l f i }

pub slot_within : (s : Shape) (a : Layout) (l : Lit) → Fits s a → IsOf s l → slot_of a l < places_of a.counts
slot_within s a l f i = place_within a.counts l (counted s a l f i)

-- two literals lie at one place exactly where a nogood has one place for them
pub slots_same : (s : Shape) (a : Layout) (m l : Lit) → Fits s a → IsOf s m → IsOf s l → (slot_of a m == slot_of a l) ≡ same_place m l
slots_same s a m l f i j = places_same a.counts m l (counted s a m f i) (counted s a l f j)

pub of_opposite : (s : Shape) (l : Lit) → IsOf s l → IsOf s (complement_of l)
of_opposite s (Atom n r) i = i
of_opposite s (Body n r) i = i
of_opposite s (Constraint n r) i = i
of_opposite s (AtMost x k) i = i
of_opposite s (AtLeast x k) i = i

-- the truth of a literal once two are written: the one at the opposite, the one at the literal, or that which was there
pub fact_written : (s : Shape) (a : Layout) (m l : Lit) (known other now : Option Bool) → Fits s a → IsOf s m → IsOf s l
    → (same_place (complement_of m) l ≡ true → other ≡ now)
    → (same_place m l ≡ true → known ≡ now)
    → (same_place (complement_of m) l ≡ false → same_place m l ≡ false → get_or a.truths (slot_of a l) None ≡ now)
    → get_or (with_truths a m known other) (slot_of a l) None ≡ now
fact_written s a m l known other now f i j there here apart = outer (same_place (complement_of m) l) refl
  where
    first : slot_of a m < length a.truths
    first = subst (λ n. slot_of a m < n) (sym f.truths) (slot_within s a m f i)

    second : slot_of a (complement_of m) < length (set a.truths (slot_of a m) known)
    second = subst (λ n. slot_of a (complement_of m) < n) (sym (length-set a.truths (slot_of a m) known ∙ f.truths)) (slot_within s a (complement_of m) f (of_opposite s m i))

    inner : same_place (complement_of m) l ≡ false → (b : Bool) → same_place m l ≡ b → get_or (set a.truths (slot_of a m) known) (slot_of a l) None ≡ now
    inner e true g = get_same a.truths (slot_of a m) (slot_of a l) known None first (slots_same s a m l f i j ∙ g) ∙ here g
    inner e false g = get_other a.truths (slot_of a m) (slot_of a l) known None (slots_same s a m l f i j ∙ g) ∙ apart e g

    outer : (b : Bool) → same_place (complement_of m) l ≡ b → get_or (with_truths a m known other) (slot_of a l) None ≡ now
    outer true e = get_same (set a.truths (slot_of a m) known) (slot_of a (complement_of m)) (slot_of a l) other None second (slots_same s a (complement_of m) l f (of_opposite s m i) j ∙ e) ∙ there e
    outer false e = get_other (set a.truths (slot_of a m) known) (slot_of a (complement_of m)) (slot_of a l) other None (slots_same s a (complement_of m) l f (of_opposite s m i) j ∙ e) ∙ inner e (same_place m l) refl

-- the truths that are written for a fact, and those that stay for a bound
pub after_fact : (a : Layout) (m : Lit) (known other : Option Bool) (bound : ℤ) (mark : Option ℕ) → is_fact m ≡ true → (written a m known other bound mark).truths ≡ with_truths a m known other
after_fact a m known other bound mark e = ap (λ b. cond b (with_truths a m known other) a.truths) e

pub after_bound : (a : Layout) (m : Lit) (known other : Option Bool) (bound : ℤ) (mark : Option ℕ) → is_fact m ≡ false → (written a m known other bound mark).truths ≡ a.truths
after_bound a m known other bound mark e = ap (λ b. cond b (with_truths a m known other) a.truths) e

-- a mark once one is written
pub mark_written : (s : Shape) (a : Layout) (m l : Lit) (mark now : Option ℕ) → Fits s a → IsOf s m → IsOf s l
    → (same_place m l ≡ true → mark ≡ now)
    → (same_place m l ≡ false → get_or a.marks (slot_of a l) None ≡ now)
    → get_or (set a.marks (slot_of a m) mark) (slot_of a l) None ≡ now
mark_written s a m l mark now f i j here apart = cases (same_place m l) refl
  where
    within : slot_of a m < length a.marks
    within = subst (λ n. slot_of a m < n) (sym f.marks) (slot_within s a m f i)

    cases : (b : Bool) → same_place m l ≡ b → get_or (set a.marks (slot_of a m) mark) (slot_of a l) None ≡ now
    cases true e = get_same a.marks (slot_of a m) (slot_of a l) mark None within (slots_same s a m l f i j ∙ e) ∙ here e
    cases false e = get_other a.marks (slot_of a m) (slot_of a l) mark None (slots_same s a m l f i j ∙ e) ∙ apart e

-- the layout keeps its sizes
pub fits-written : (s : Shape) (a : Layout) (m : Lit) (known other : Option Bool) (bound : ℤ) (mark : Option ℕ) → Fits s a → Fits s (written a m known other bound mark)
fits-written s a m known other bound mark f = record {
  counts = f.counts;
  truths = truths (is_fact m) refl;
  pairs = pairs (is_fact m) refl;
  marks = length-set a.marks (slot_of a m) mark ∙ f.marks;
}
  where
    truths : (b : Bool) → is_fact m ≡ b → length (written a m known other bound mark).truths ≡ places_of a.counts
    truths true e =
        ap length (after_fact a m known other bound mark e)
        ∙ length-set (set a.truths (slot_of a m) known) (slot_of a (complement_of m)) other
        ∙ length-set a.truths (slot_of a m) known
        ∙ f.truths
    truths false e = ap length (after_bound a m known other bound mark e) ∙ f.truths

    pairs : (b : Bool) → is_fact m ≡ b → length (written a m known other bound mark).bounds ≡ 2 * (s.variables + 1)
    pairs true e = rw e f.pairs
    pairs false e = rw e (length-set a.bounds (index_of m) bound ∙ f.pairs)

-- TRUTHS WITH ONE LITERAL MORE

pub truth_apart : (ends : Ends) (lits : List Lit) (m l : Lit) → implies_lit m l ≡ false → implies_lit m (complement_of l) ≡ false → truth_of ends (lits ++ m ∷ []) l ≡ truth_of ends lits l
truth_apart ends lits m l a b =
    truth-of ends (lits ++ m ∷ []) l (implied ends lits l) (implied ends lits (complement_of l))
    (implied-push ends lits m l ∙ ap (λ c. implied ends lits l || c) a ∙ or_false (implied ends lits l))
    (implied-push ends lits m (complement_of l) ∙ ap (λ c. implied ends lits (complement_of l) || c) b ∙ or_false (implied ends lits (complement_of l)))

now_implied : (ends : Ends) (lits : List Lit) (m : Lit) → implied ends (lits ++ m ∷ []) m ≡ true
now_implied ends lits m = implied-push ends lits m m ∙ ap (λ c. implied ends lits m || c) (implies_refl m) ∙ or_true (implied ends lits m)

-- a literal that is set is true
pub truth_here : (ends : Ends) (lits : List Lit) (m : Lit) → truth_of ends (lits ++ m ∷ []) m ≡ Some true
truth_here ends lits m = truth-of ends (lits ++ m ∷ []) m true (implied ends (lits ++ m ∷ []) (complement_of m)) (now_implied ends lits m) refl

-- the opposite of a fact that was open and is set is false
pub truth_there : (ends : Ends) (lits : List Lit) (m : Lit) → is_fact m ≡ true → truth_of ends lits m ≡ None → truth_of ends (lits ++ m ∷ []) (complement_of m) ≡ Some false
truth_there ends lits m f new =
    let both = open_is ends lits m new in
    truth-of ends (lits ++ m ∷ []) (complement_of m) false true
    (implied-push ends lits m (complement_of m) ∙ ap (λ c. implied ends lits (complement_of m) || c) (apart_implies m (complement_of m) (own_apart m f)) ∙ or_false (implied ends lits (complement_of m)) ∙ both.1)
    (ap (implied ends (lits ++ m ∷ [])) (complement-complement m) ∙ now_implied ends lits m)

-- the opposite of an open literal is open
pub open_there : (ends : Ends) (lits : List Lit) (m : Lit) → truth_of ends lits m ≡ None → truth_of ends lits (complement_of m) ≡ None
open_there ends lits m new =
    let both = open_is ends lits m new in
    truth-of ends lits (complement_of m) false false both.1 (ap (implied ends lits) (complement-complement m) ∙ both.0)

-- a fact at neither place keeps its truth
pub fact_apart : (ends : Ends) (lits : List Lit) (m l : Lit) → same_place (complement_of m) l ≡ false → same_place m l ≡ false → truth_of ends (lits ++ m ∷ []) l ≡ truth_of ends lits l
fact_apart ends lits m l e g = truth_apart ends lits m l (apart_implies m l g) (apart_other m l e)

-- a fact keeps its truth under a bound
pub bound_keeps : (ends : Ends) (lits : List Lit) (m l : Lit) → is_fact m ≡ false → is_fact l ≡ true → truth_of ends (lits ++ m ∷ []) l ≡ truth_of ends lits l
bound_keeps ends lits m l e f = truth_apart ends lits m l (apart_implies m l (bound_apart m l e f)) (apart_implies m (complement_of l) (bound_apart m (complement_of l) e (fact_opposite l f)))

-- a bound that is set is the bound
pub here_upper : (ends : Ends) (lits : List Lit) (y x : ℕ) (j : ℤ) → (y == x) ≡ true → truth_of ends lits (AtMost y j) ≡ None → upper_of ends (lits ++ AtMost y j ∷ []) x ≡ j
here_upper ends lits y x j e h =
    let over : int_le (upper_of ends lits y) j ≡ false = sym (implied-at_most ends lits y j) ∙ (open_is ends lits (AtMost y j) h).0 in
    let same : upper_of ends lits y ≡ upper_of ends lits x = ap (upper_of ends lits) (equal y x e) in
    upper-push ends lits (AtMost y j) x ∙ least (upper_of ends lits x) (ap (λ b. int_le b j) (sym same) ∙ over)
  where
    least : (b : ℤ) → int_le b j ≡ false → cond (y == x) (int_min b j) b ≡ j
    least b o = grind (arith, nat_tests, ints)

pub here_lower : (ends : Ends) (lits : List Lit) (y x : ℕ) (j : ℤ) → (y == x) ≡ true → truth_of ends lits (AtLeast y j) ≡ None → lower_of ends (lits ++ AtLeast y j ∷ []) x ≡ j
here_lower ends lits y x j e h =
    let over : int_le j (lower_of ends lits y) ≡ false = sym (implied-at_least ends lits y j) ∙ (open_is ends lits (AtLeast y j) h).0 in
    let same : lower_of ends lits y ≡ lower_of ends lits x = ap (lower_of ends lits) (equal y x e) in
    lower-push ends lits (AtLeast y j) x ∙ most (lower_of ends lits x) (ap (λ b. int_le j b) (sym same) ∙ over)
  where
    most : (b : ℤ) → int_le j b ≡ false → cond (y == x) (int_max b j) b ≡ j
    most b o = grind (arith, nat_tests, ints)

pub apart_upper : (x y : ℕ) (b j : ℤ) → (y == x) ≡ false → upper_after x b (AtMost y j) ≡ b
apart_upper x y b j e = rw e refl

pub apart_lower : (x y : ℕ) (b j : ℤ) → (y == x) ≡ false → lower_after x b (AtLeast y j) ≡ b
apart_lower x y b j e = rw e refl

-- THE LAST LITERAL OF A PLACE

last-push : (place : ℕ) (last : Option ℕ) (lits : List Lit) (m l : Lit) → last_from place last (lits ++ m ∷ []) l ≡ cond (same_place m l) (Some (place + length lits)) (last_from place last lits l)
last-push place last [] m l = let e : place ≡ place + 0 = omega arith in ap (λ i. cond (same_place m l) (Some i) last) e
last-push place last (x ∷ xs) m l =
    let e : (place + 1) + length xs ≡ place + suc (length xs) = omega arith in
    last-push (place + 1) (cond (same_place x l) (Some place) last) xs m l
    ∙ ap (λ i. cond (same_place m l) (Some i) (last_from (place + 1) (cond (same_place x l) (Some place) last) xs l)) e

pub latest-push : (lits : List Lit) (m l : Lit) → latest (lits ++ m ∷ []) l ≡ cond (same_place m l) (Some (length lits)) (latest lits l)
latest-push lits m l = let e : 0 + length lits ≡ length lits = omega arith in last-push 0 None lits m l ∙ ap (λ i. cond (same_place m l) (Some i) (latest lits l)) e

pub cell_same : (x m l : Lit) → same_place m l ≡ true → same_place x m ≡ same_place x l
cell_same x m l e = grind (arith, nat_tests)

last_same : (place : ℕ) (last : Option ℕ) (lits : List Lit) (m l : Lit) → same_place m l ≡ true → last_from place last lits m ≡ last_from place last lits l
last_same place last [] m l e = refl
last_same place last (x ∷ xs) m l e =
    ap (λ b. last_from (place + 1) (cond b (Some place) last) xs m) (cell_same x m l e)
    ∙ last_same (place + 1) (cond (same_place x l) (Some place) last) xs m l e

pub latest_same : (lits : List Lit) (m l : Lit) → same_place m l ≡ true → latest lits m ≡ latest lits l
latest_same lits m l e = last_same 0 None lits m l e

-- READING

-- reading the cells is reading the literals
pub truth-shown : (s : Shape) (lits : List Lit) (a : Layout) (l : Lit) → IsOf s l → Shows s lits a → truth_in a l ≡ truth_of s.ends lits l
truth-shown s lits a (Atom n r) i h = h.truth (Atom n r) i refl
truth-shown s lits a (Body n r) i h = h.truth (Body n r) i refl
truth-shown s lits a (Constraint n r) i h = h.truth (Constraint n r) i refl
truth-shown s lits a (AtMost x k) i h =
    let upper : upper_in a x ≡ upper_of s.ends lits x = h.upper x i in
    let lower : lower_in a x ≡ lower_of s.ends lits x = h.lower x i in
    rw (upper, lower) (sym (truth-of s.ends lits (AtMost x k) (int_le (upper_of s.ends lits x) k) (int_lt k (lower_of s.ends lits x)) (implied-at_most s.ends lits x k) (implied-at_least s.ends lits x (k +ℤ pos 1) ∙ more (lower_of s.ends lits x))))
  where
    more : (b : ℤ) → int_le (k +ℤ pos 1) b ≡ int_lt k b
    more b = grind (arith, nat_tests, ints)
truth-shown s lits a (AtLeast x k) i h =
    let upper : upper_in a x ≡ upper_of s.ends lits x = h.upper x i in
    let lower : lower_in a x ≡ lower_of s.ends lits x = h.lower x i in
    rw (upper, lower) (sym (truth-of s.ends lits (AtLeast x k) (int_le k (lower_of s.ends lits x)) (int_lt (upper_of s.ends lits x) k) (implied-at_least s.ends lits x k) (implied-at_most s.ends lits x (k -ℤ pos 1) ∙ less (upper_of s.ends lits x))))
  where
    less : (b : ℤ) → int_le b (k -ℤ pos 1) ≡ int_lt b k
    less b = grind (arith, nat_tests, ints)

pub saved-shown : (s : Shape) (lits : List Lit) (a : Layout) (l : Lit) → IsOf s l → Shows s lits a → SavesBound s.ends lits l (saved_in a l)
saved-shown s lits a (Atom n r) i h = tt
saved-shown s lits a (Body n r) i h = tt
saved-shown s lits a (Constraint n r) i h = tt
saved-shown s lits a (AtMost x k) i h = h.upper x i
saved-shown s lits a (AtLeast x k) i h = h.lower x i
