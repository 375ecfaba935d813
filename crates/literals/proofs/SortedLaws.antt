-- Looking up in a sorted list: where a literal's place is, what stands there, and the bounds that stand there.
use Rattle.std.proofs.Common.{◌≡◌, ℕ, zero, suc, ◌<◌, ◌≤◌, ◌==◌, Bool, true, false, cond, ◌||◌, IsTrue, List, [], ◌∷◌, length, get_or, Option, None, Some, refl, sym, ◌∙◌, ap, arith, ℤ, pos}
use Rattle.std.specs.List.{fold, find, AllByRecursion}
use Rattle.std.specs.List.Sorted.{IsPartitionPoint, IsPartitionedBy}
use Rattle.std.specs.Int.{int_max, int_min}
use Rattle.std.proofs.lemmas.Bool.Decides.{nat_tests}
use Rattle.std.proofs.lemmas.Int.{ints}
use Rattle.symbols.specs.declared.ends.Ends.{Ends}
use Rattle.literals.specs.declared.lit.Lit.{Lit}
use Rattle.literals.specs.declared.lit.Lit.TheVariants.{Atom, Body, Constraint, AtMost, AtLeast}
use Rattle.literals.specs.Lits.{same_lit}
use Rattle.literals.specs.Nogoods.{is_before, same_place, Rises, has_lit, standing}
use Rattle.literals.specs.Bounds.{lower_after, upper_after, lower_of, upper_of}
use Rattle.literals.specs.Parts.{best_lower, best_upper}
use Rattle.literals.proofs.OrderLaws.{is_true, is_true_eq, before_trans, before_not, before_apart, same_before, same_not_before, same_sym, before_other}
use Rattle.literals.proofs.LitLaws.{same_lit-equal}
use Rattle.literals.proofs.Puts.{Behind}

shut : {X : Type 0} → true ≡ false → X
shut e = cc

-- what is behind a literal at one index is behind it
behind_at : (x : Lit) (xs : List Lit) (i : ℕ) (d : Lit) → Behind x xs → i < length xs → is_before x (get_or xs i d) ≡ true
behind_at x [] i d h l = absurd (omega arith)
behind_at x (y ∷ ys) zero d h l = is_true_eq h.0
behind_at x (y ∷ ys) (suc i) d h l = behind_at x ys i d h.1 (omega arith)

-- what stands before a literal of a sorted list stands after none that stands earlier
rises_at : (xs : List Lit) (t : Lit) (i j : ℕ) (d : Lit) → Rises xs → i ≤ j → j < length xs → is_before (get_or xs j d) t ≡ true → is_before (get_or xs i d) t ≡ true
rises_at [] t i j d r le l e = absurd (omega arith)
rises_at (x ∷ xs) t zero zero d r le l e = e
rises_at (x ∷ xs) t zero (suc j) d r le l e = before_trans x (get_or xs j d) t (behind_at x xs j d r.0 (omega arith)) e
rises_at (x ∷ xs) t (suc i) zero d r le l e = absurd (omega arith)
rises_at (x ∷ xs) t (suc i) (suc j) d r le l e = rises_at xs t i j d r.1 (omega arith) (omega arith) e

pub parted_by : (xs : List Lit) (t : Lit) → Rises xs → IsPartitionedBy (λ x. is_before x t) xs
parted_by xs t r i j d le l e = rises_at xs t i j d r le l e

apart_before : (x t : Lit) → is_before x t ≡ true → same_place x t ≡ false
apart_before x t b = before_apart' x t (before_apart x t b)
  where
    before_apart' : (x t : Lit) → same_place t x ≡ false → same_place x t ≡ false
    before_apart' x t h = grind (arith, nat_tests)

none_behind : (t : Lit) (xs : List Lit) → Behind t xs → standing xs t ≡ None
none_behind t [] h = refl
none_behind t (x ∷ xs) h = let apart : same_place x t ≡ false = before_apart t x (is_true_eq h.0) in rw apart (none_behind t xs h.1)

-- nothing stands at the place of a literal that all stand before
standing_end : (xs : List Lit) (t d : Lit) → ((k : ℕ) → k < length xs → is_before (get_or xs k d) t ≡ true) → standing xs t ≡ None
standing_end [] t d h = refl
standing_end (x ∷ xs) t d h =
    let apart : same_place x t ≡ false = apart_before x t (h 0 (omega arith)) in
    rw apart (standing_end xs t d (λ k l. h (suc k) (omega arith)))

first_cases : (x t : Lit) (xs : List Lit) → Behind x xs → is_before x t ≡ false → (b : Bool) → is_before t x ≡ b → standing (x ∷ xs) t ≡ cond b None (Some x)
first_cases x t xs h n true e =
    let apart : same_place x t ≡ false = before_apart t x e in
    rw apart (none_behind t xs (behind_all t x xs e h))
  where
    behind_all : (t x : Lit) (xs : List Lit) → is_before t x ≡ true → Behind x xs → Behind t xs
    behind_all t x [] b a = tt
    behind_all t x (z ∷ zs) b a = (is_true (before_trans t x z b (is_true_eq a.0)), behind_all t x zs b a.1)
first_cases x t xs h n false e =
    let at : same_place x t ≡ true = grind (arith, nat_tests) in
    rw at refl

-- what stands at the place of a literal is the first that does not stand before it, or nothing
standing_first : (xs : List Lit) (t d : Lit) (i : ℕ) → Rises xs → i < length xs → ((k : ℕ) → k < i → is_before (get_or xs k d) t ≡ true) → is_before (get_or xs i d) t ≡ false → standing xs t ≡ cond (is_before t (get_or xs i d)) None (Some (get_or xs i d))
standing_first [] t d i r l h n = absurd (omega arith)
standing_first (x ∷ xs) t d zero r l h n = first_cases x t xs r.0 n (is_before t x) refl
standing_first (x ∷ xs) t d (suc i) r l h n =
    let apart : same_place x t ≡ false = apart_before x t (h 0 (omega arith)) in
    rw apart (standing_first xs t d i r.1 (omega arith) (λ k lt. h (suc k) (omega arith)) n)

pub standing_none : (xs : List Lit) (t : Lit) (at : ℕ) → IsPartitionPoint (λ x. is_before x t ≡ true) (λ x. is_before x t ≡ false) xs at → length xs ≤ at → None ≡ standing xs t
standing_none xs t at p le = sym (standing_end xs t (Atom 1 true) (λ k l. p.0 k (Atom 1 true) (omega arith) (omega arith)))

pub standing_after : (xs : List Lit) (t d : Lit) (at : ℕ) → Rises xs → IsPartitionPoint (λ x. is_before x t ≡ true) (λ x. is_before x t ≡ false) xs at → at < length xs → is_before t (get_or xs at d) ≡ true → None ≡ standing xs t
standing_after xs t d at r p l e = sym (standing_first xs t d at r l (λ k lt. p.0 k d (omega arith) lt) (p.1 at d (omega arith) l) ∙ ap (λ b. cond b None (Some (get_or xs at d))) e)

pub standing_here : (xs : List Lit) (t d : Lit) (at : ℕ) → Rises xs → IsPartitionPoint (λ x. is_before x t ≡ true) (λ x. is_before x t ≡ false) xs at → at < length xs → is_before t (get_or xs at d) ≡ false → Some (get_or xs at d) ≡ standing xs t
standing_here xs t d at r p l e = sym (standing_first xs t d at r l (λ k lt. p.0 k d (omega arith) lt) (p.1 at d (omega arith) l) ∙ ap (λ b. cond b None (Some (get_or xs at d))) e)

-- A SORTED LIST HAS A LITERAL WHERE IT STANDS AT ITS PLACE

abbrev pub is_found : Option Lit → Lit → Bool
is_found None l = false
is_found (Some x) l = same_lit x l

same_apart : (x l : Lit) → same_place x l ≡ false → same_lit x l ≡ false
same_apart x l h = cases (same_lit x l) refl
  where
    one : (x l : Lit) → x ≡ l → same_place x l ≡ false → ⊥
    one x l e n = shut (sym (ap (λ y. same_place y l) e ∙ own l) ∙ n)
      where
        own : (l : Lit) → same_place l l ≡ true
        own l = grind (arith, nat_tests)

    cases : (b : Bool) → same_lit x l ≡ b → same_lit x l ≡ false
    cases true e = absurd (one x l (same_lit-equal x l e) h)
    cases false e = e

none_has : (x l : Lit) (xs : List Lit) → same_place x l ≡ true → Behind x xs → has_lit xs l ≡ false
none_has x l [] s h = refl
none_has x l (y ∷ ys) s h =
    let after : is_before l y ≡ true = grind (arith, nat_tests) in
    let apart : same_lit y l ≡ false = same_apart y l (before_apart l y after) in
    rw apart (none_has x l ys s h.1)

or_false : (a : Bool) → (a || false) ≡ a
or_false true = refl
or_false false = refl

pub has_standing : (xs : List Lit) (l : Lit) → Rises xs → has_lit xs l ≡ is_found (standing xs l) l
has_standing [] l r = refl
has_standing (x ∷ xs) l r = cases (same_place x l) refl (has_standing xs l r.1)
  where
    cases : (b : Bool) → same_place x l ≡ b → has_lit xs l ≡ is_found (standing xs l) l → (same_lit x l || has_lit xs l) ≡ is_found (cond b (Some x) (standing xs l)) l
    cases true e ih = ap (λ b. same_lit x l || b) (none_has x l xs e r.0) ∙ or_false (same_lit x l)
    cases false e ih = rw (same_apart x l e) ih

pub has_found : (xs : List Lit) (l x : Lit) → Rises xs → Some x ≡ standing xs l → same_lit x l ≡ has_lit xs l
has_found xs l x r e = sym (has_standing xs l r ∙ ap (λ o. is_found o l) (sym e))

pub has_none : (xs : List Lit) (l : Lit) → Rises xs → None ≡ standing xs l → false ≡ has_lit xs l
has_none xs l r e = sym (has_standing xs l r ∙ ap (λ o. is_found o l) (sym e))

-- THE BOUND AT ITS PLACE IS THE BOUND THAT THE LIST NAMES

lower_apart : (x : ℕ) (j bound : ℤ) (l : Lit) → same_place l (AtLeast x j) ≡ false → lower_after x bound l ≡ bound
lower_apart x j bound (Atom n s) h = refl
lower_apart x j bound (Body n s) h = refl
lower_apart x j bound (Constraint n s) h = refl
lower_apart x j bound (AtMost y k) h = refl
lower_apart x j bound (AtLeast y k) h = let other : (y == x) ≡ false = grind (arith, nat_tests) in rw other refl

upper_apart : (x : ℕ) (j bound : ℤ) (l : Lit) → same_place l (AtMost x j) ≡ false → upper_after x bound l ≡ bound
upper_apart x j bound (Atom n s) h = refl
upper_apart x j bound (Body n s) h = refl
upper_apart x j bound (Constraint n s) h = refl
upper_apart x j bound (AtMost y k) h = let other : (y == x) ≡ false = grind (arith, nat_tests) in rw other refl
upper_apart x j bound (AtLeast y k) h = refl

lower_at : (x : ℕ) (j bound : ℤ) (l : Lit) → same_place l (AtLeast x j) ≡ true → lower_after x bound l ≡ best_lower bound (Some l)
lower_at x j bound (Atom n s) h = shut (sym h)
lower_at x j bound (Body n s) h = shut (sym h)
lower_at x j bound (Constraint n s) h = shut (sym h)
lower_at x j bound (AtMost y k) h = refl
lower_at x j bound (AtLeast y k) h = let one : (y == x) ≡ true = grind (arith, nat_tests) in rw one refl

upper_at : (x : ℕ) (j bound : ℤ) (l : Lit) → same_place l (AtMost x j) ≡ true → upper_after x bound l ≡ best_upper bound (Some l)
upper_at x j bound (Atom n s) h = shut (sym h)
upper_at x j bound (Body n s) h = shut (sym h)
upper_at x j bound (Constraint n s) h = shut (sym h)
upper_at x j bound (AtMost y k) h = let one : (y == x) ≡ true = grind (arith, nat_tests) in rw one refl
upper_at x j bound (AtLeast y k) h = refl

apart_after : (x t : Lit) (y : Lit) → same_place x t ≡ true → is_before x y ≡ true → same_place y t ≡ false
apart_after x t y s b = grind (arith, nat_tests)

lower_rest : (x : ℕ) (j bound : ℤ) (l : Lit) (ls : List Lit) → same_place l (AtLeast x j) ≡ true → Behind l ls → fold (lower_after x) bound ls ≡ bound
lower_rest x j bound l [] s h = refl
lower_rest x j bound l (m ∷ ms) s h = ap (λ b. fold (lower_after x) b ms) (lower_apart x j bound m (apart_after l (AtLeast x j) m s (is_true_eq h.0))) ∙ lower_rest x j bound l ms s h.1

upper_rest : (x : ℕ) (j bound : ℤ) (l : Lit) (ls : List Lit) → same_place l (AtMost x j) ≡ true → Behind l ls → fold (upper_after x) bound ls ≡ bound
upper_rest x j bound l [] s h = refl
upper_rest x j bound l (m ∷ ms) s h = ap (λ b. fold (upper_after x) b ms) (upper_apart x j bound m (apart_after l (AtMost x j) m s (is_true_eq h.0))) ∙ upper_rest x j bound l ms s h.1

lower_cases : (x : ℕ) (j bound : ℤ) (l : Lit) (ls : List Lit) → Behind l ls → fold (lower_after x) bound ls ≡ best_lower bound (standing ls (AtLeast x j)) → (b : Bool) → same_place l (AtLeast x j) ≡ b → fold (lower_after x) (lower_after x bound l) ls ≡ best_lower bound (cond b (Some l) (standing ls (AtLeast x j)))
lower_cases x j bound l ls h ih true e = lower_rest x j (lower_after x bound l) l ls e h ∙ lower_at x j bound l e
lower_cases x j bound l ls h ih false e = ap (λ b. fold (lower_after x) b ls) (lower_apart x j bound l e) ∙ ih

lower_found : (x : ℕ) (j bound : ℤ) (lits : List Lit) → Rises lits → fold (lower_after x) bound lits ≡ best_lower bound (standing lits (AtLeast x j))
lower_found x j bound [] r = refl
lower_found x j bound (l ∷ ls) r = lower_cases x j bound l ls r.0 (lower_found x j bound ls r.1) (same_place l (AtLeast x j)) refl

upper_cases : (x : ℕ) (j bound : ℤ) (l : Lit) (ls : List Lit) → Behind l ls → fold (upper_after x) bound ls ≡ best_upper bound (standing ls (AtMost x j)) → (b : Bool) → same_place l (AtMost x j) ≡ b → fold (upper_after x) (upper_after x bound l) ls ≡ best_upper bound (cond b (Some l) (standing ls (AtMost x j)))
upper_cases x j bound l ls h ih true e = upper_rest x j (upper_after x bound l) l ls e h ∙ upper_at x j bound l e
upper_cases x j bound l ls h ih false e = ap (λ b. fold (upper_after x) b ls) (upper_apart x j bound l e) ∙ ih

upper_found : (x : ℕ) (j bound : ℤ) (lits : List Lit) → Rises lits → fold (upper_after x) bound lits ≡ best_upper bound (standing lits (AtMost x j))
upper_found x j bound [] r = refl
upper_found x j bound (l ∷ ls) r = upper_cases x j bound l ls r.0 (upper_found x j bound ls r.1) (same_place l (AtMost x j)) refl

-- the bounds that a sorted list names, by what stands at their places
pub lower_is : (ends : Ends) (lits : List Lit) (x : ℕ) (found : Option Lit) → Rises lits → found ≡ standing lits (AtLeast x (pos 0)) → best_lower ends.min found ≡ lower_of ends lits x
lower_is ends lits x found r e = ap (best_lower ends.min) e ∙ sym (lower_found x (pos 0) ends.min lits r)

pub upper_is : (ends : Ends) (lits : List Lit) (x : ℕ) (found : Option Lit) → Rises lits → found ≡ standing lits (AtMost x (pos 0)) → best_upper ends.max found ≡ upper_of ends lits x
upper_is ends lits x found r e = ap (best_upper ends.max) e ∙ sym (upper_found x (pos 0) ends.max lits r)
