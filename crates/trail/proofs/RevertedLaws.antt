-- The cells after the last literal is taken back.
use Rattle.std.proofs.Common.{◌≡◌, ℕ, ◌+◌, ◌*◌, ◌<◌, ◌≤◌, ◌==◌, Bool, true, false, cond, List, [], ◌∷◌, ◌++◌, length, get_or, set, Option, None, Some, refl, sym, ◌∙◌, ap, arith, ℤ, pos}
use Rattle.std.proofs.lemmas.Bool.Decides.{nat_tests}
use Rattle.literals.specs.declared.lit.Lit.{Lit}
use Rattle.literals.specs.declared.lit.Lit.TheVariants.{Atom, Body, Constraint, AtMost, AtLeast}
use Rattle.literals.specs.Lits.{complement_of}
use Rattle.trail.specs.declared.shape.Shape.{Shape}
use Rattle.trail.specs.Implied.{truth_of, lower_of, upper_of}
use Rattle.trail.specs.Assignment.{IsOf}
use Rattle.trail.specs.inner.Cells.{Layout, is_fact, slot_of, upper_in, lower_in, mark_in, reverted}
use Rattle.trail.specs.inner.Kept.{latest, Fits, Shows, SavesBound}
use Rattle.trail.proofs.ImpliedLaws.{upper-push, lower-push}
use Rattle.trail.proofs.CellLaws.{get_other, get_same, equal, fact_one, fact_opposite, fact_written, after_fact, after_bound, mark_written, fits-written, open_there, fact_apart, bound_keeps, apart_upper, apart_lower, latest-push, latest_same}

truth-reverted : (s : Shape) (lits : List Lit) (a : Layout) (m : Lit) (saved : ℤ) (mark : Option ℕ) → Fits s a → IsOf s m → truth_of s.ends lits m ≡ None → Shows s (lits ++ m ∷ []) a → (l : Lit) → IsOf s l → is_fact l ≡ true → get_or (reverted a m saved mark).truths (slot_of a l) None ≡ truth_of s.ends lits l
truth-reverted s lits a m saved mark f i new h l j fact = cases (is_fact m) refl
  where
    cases : (b : Bool) → is_fact m ≡ b → get_or (reverted a m saved mark).truths (slot_of a l) None ≡ truth_of s.ends lits l
    cases true e =
        ap (λ xs. get_or xs (slot_of a l) None) (after_fact a m None None saved mark e)
        ∙ fact_written s a m l None None (truth_of s.ends lits l) f i j
        (λ t. sym (open_there s.ends lits m new) ∙ ap (truth_of s.ends lits) (fact_one (complement_of m) l (fact_opposite m e) t))
        (λ t. sym new ∙ ap (truth_of s.ends lits) (fact_one m l e t))
        (λ t g. h.truth l j fact ∙ fact_apart s.ends lits m l t g)
    cases false e =
        ap (λ xs. get_or xs (slot_of a l) None) (after_bound a m None None saved mark e)
        ∙ h.truth l j fact
        ∙ bound_keeps s.ends lits m l e fact

upper_cases : (s : Shape) (lits : List Lit) (a : Layout) (y : ℕ) (k saved : ℤ) (x : ℕ) → Fits s a → y ≤ s.variables → x ≤ s.variables → saved ≡ upper_of s.ends lits y → Shows s (lits ++ AtMost y k ∷ []) a → (b : Bool) → (y == x) ≡ b → get_or (set a.bounds (2 * y) saved) (2 * x) (pos 0) ≡ upper_of s.ends lits x
upper_cases s lits a y k saved x f i g was h true e =
    let place : ((2 * y) == (2 * x)) ≡ true = grind (arith, nat_tests) in
    let inside : (2 * y) < length a.bounds = omega (arith, f.pairs) in
    get_same a.bounds (2 * y) (2 * x) saved (pos 0) inside place ∙ was ∙ ap (upper_of s.ends lits) (equal y x e)
upper_cases s lits a y k saved x f i g was h false e =
    let place : ((2 * y) == (2 * x)) ≡ false = grind (arith, nat_tests) in
    get_other a.bounds (2 * y) (2 * x) saved (pos 0) place ∙ h.upper x g ∙ upper-push s.ends lits (AtMost y k) x ∙ apart_upper x y (upper_of s.ends lits x) k e

lower_cases : (s : Shape) (lits : List Lit) (a : Layout) (y : ℕ) (k saved : ℤ) (x : ℕ) → Fits s a → y ≤ s.variables → x ≤ s.variables → saved ≡ lower_of s.ends lits y → Shows s (lits ++ AtLeast y k ∷ []) a → (b : Bool) → (y == x) ≡ b → get_or (set a.bounds (2 * y + 1) saved) (2 * x + 1) (pos 0) ≡ lower_of s.ends lits x
lower_cases s lits a y k saved x f i g was h true e =
    let place : ((2 * y + 1) == (2 * x + 1)) ≡ true = grind (arith, nat_tests) in
    let inside : (2 * y + 1) < length a.bounds = omega (arith, f.pairs) in
    get_same a.bounds (2 * y + 1) (2 * x + 1) saved (pos 0) inside place ∙ was ∙ ap (lower_of s.ends lits) (equal y x e)
lower_cases s lits a y k saved x f i g was h false e =
    let place : ((2 * y + 1) == (2 * x + 1)) ≡ false = grind (arith, nat_tests) in
    get_other a.bounds (2 * y + 1) (2 * x + 1) saved (pos 0) place ∙ h.lower x g ∙ lower-push s.ends lits (AtLeast y k) x ∙ apart_lower x y (lower_of s.ends lits x) k e

upper-reverted : (s : Shape) (lits : List Lit) (a : Layout) (m : Lit) (saved : ℤ) (mark : Option ℕ) → Fits s a → IsOf s m → SavesBound s.ends lits m saved → Shows s (lits ++ m ∷ []) a → (x : ℕ) → x ≤ s.variables → upper_in (reverted a m saved mark) x ≡ upper_of s.ends lits x
upper-reverted s lits a (Atom n t) saved mark f i was h x j = h.upper x j ∙ upper-push s.ends lits (Atom n t) x
upper-reverted s lits a (Body n t) saved mark f i was h x j = h.upper x j ∙ upper-push s.ends lits (Body n t) x
upper-reverted s lits a (Constraint n t) saved mark f i was h x j = h.upper x j ∙ upper-push s.ends lits (Constraint n t) x
upper-reverted s lits a (AtMost y k) saved mark f i was h x j = upper_cases s lits a y k saved x f i j was h (y == x) refl
upper-reverted s lits a (AtLeast y k) saved mark f i was h x j =
    let place : ((2 * y + 1) == (2 * x)) ≡ false = grind (arith, nat_tests) in
    get_other a.bounds (2 * y + 1) (2 * x) saved (pos 0) place ∙ h.upper x j ∙ upper-push s.ends lits (AtLeast y k) x

lower-reverted : (s : Shape) (lits : List Lit) (a : Layout) (m : Lit) (saved : ℤ) (mark : Option ℕ) → Fits s a → IsOf s m → SavesBound s.ends lits m saved → Shows s (lits ++ m ∷ []) a → (x : ℕ) → x ≤ s.variables → lower_in (reverted a m saved mark) x ≡ lower_of s.ends lits x
lower-reverted s lits a (Atom n t) saved mark f i was h x j = h.lower x j ∙ lower-push s.ends lits (Atom n t) x
lower-reverted s lits a (Body n t) saved mark f i was h x j = h.lower x j ∙ lower-push s.ends lits (Body n t) x
lower-reverted s lits a (Constraint n t) saved mark f i was h x j = h.lower x j ∙ lower-push s.ends lits (Constraint n t) x
lower-reverted s lits a (AtMost y k) saved mark f i was h x j =
    let place : ((2 * y) == (2 * x + 1)) ≡ false = grind (arith, nat_tests) in
    get_other a.bounds (2 * y) (2 * x + 1) saved (pos 0) place ∙ h.lower x j ∙ lower-push s.ends lits (AtMost y k) x
lower-reverted s lits a (AtLeast y k) saved mark f i was h x j = lower_cases s lits a y k saved x f i j was h (y == x) refl

mark-reverted : (s : Shape) (lits : List Lit) (a : Layout) (m : Lit) (saved : ℤ) (mark : Option ℕ) → Fits s a → IsOf s m → mark ≡ latest lits m → Shows s (lits ++ m ∷ []) a → (l : Lit) → IsOf s l → mark_in (reverted a m saved mark) l ≡ latest lits l
mark-reverted s lits a m saved mark f i e h l j =
    mark_written s a m l mark (latest lits l) f i j
    (λ g. e ∙ latest_same lits m l g)
    (λ g. h.mark l j ∙ latest-push lits m l ∙ ap (λ b. cond b (Some (length lits)) (latest lits l)) g)

pub fits-reverted : (s : Shape) (a : Layout) (m : Lit) (saved : ℤ) (mark : Option ℕ) → Fits s a → Fits s (reverted a m saved mark)
fits-reverted s a m saved mark f = fits-written s a m None None saved mark f

pub shows-reverted : (s : Shape) (lits : List Lit) (a : Layout) (m : Lit) (saved : ℤ) (mark : Option ℕ) → Fits s a → IsOf s m → truth_of s.ends lits m ≡ None → SavesBound s.ends lits m saved → mark ≡ latest lits m → Shows s (lits ++ m ∷ []) a → Shows s lits (reverted a m saved mark)
shows-reverted s lits a m saved mark f i new was e h = record {
  truth = truth-reverted s lits a m saved mark f i new h;
  upper = upper-reverted s lits a m saved mark f i was h;
  lower = lower-reverted s lits a m saved mark f i was h;
  mark = mark-reverted s lits a m saved mark f i e h;
}
