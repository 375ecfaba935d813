-- The cells after one more literal.
use Rattle.std.proofs.Common.{◌≡◌, ℕ, ◌+◌, ◌*◌, ◌<◌, ◌≤◌, ◌==◌, Bool, true, false, cond, List, [], ◌∷◌, ◌++◌, length, get_or, set, None, Some, refl, sym, ◌∙◌, ap, arith, ℤ, pos}
use Rattle.std.proofs.lemmas.Bool.Decides.{nat_tests}
use Rattle.literals.specs.declared.lit.Lit.{Lit}
use Rattle.literals.specs.declared.lit.Lit.TheVariants.{Atom, Body, Constraint, AtMost, AtLeast}
use Rattle.literals.specs.Lits.{complement_of}
use Rattle.trail.specs.declared.shape.Shape.{Shape}
use Rattle.trail.specs.Implied.{truth_of, lower_of, upper_of}
use Rattle.trail.specs.Assignment.{IsOf}
use Rattle.trail.specs.inner.Cells.{Layout, is_fact, slot_of, upper_in, lower_in, mark_in, bound_of, applied}
use Rattle.trail.specs.inner.Kept.{latest, Fits, Shows}
use Rattle.trail.proofs.ImpliedLaws.{upper-push, lower-push}
use Rattle.trail.proofs.CellLaws.{get_other, get_same, fact_one, fact_opposite, fact_written, after_fact, after_bound, mark_written, fits-written, truth_here, truth_there, fact_apart, bound_keeps, here_upper, here_lower, apart_upper, apart_lower, latest-push}

truth-applied : (s : Shape) (lits : List Lit) (a : Layout) (m : Lit) (at : ℕ) → Fits s a → IsOf s m → truth_of s.ends lits m ≡ None → Shows s lits a → (l : Lit) → IsOf s l → is_fact l ≡ true → get_or (applied a m at).truths (slot_of a l) None ≡ truth_of s.ends (lits ++ m ∷ []) l
truth-applied s lits a m at f i new h l j fact = cases (is_fact m) refl
  where
    cases : (b : Bool) → is_fact m ≡ b → get_or (applied a m at).truths (slot_of a l) None ≡ truth_of s.ends (lits ++ m ∷ []) l
    cases true e =
        ap (λ xs. get_or xs (slot_of a l) None) (after_fact a m (Some true) (Some false) (bound_of m) (Some at) e)
        ∙ fact_written s a m l (Some true) (Some false) (truth_of s.ends (lits ++ m ∷ []) l) f i j
        (λ t. sym (truth_there s.ends lits m e new) ∙ ap (truth_of s.ends (lits ++ m ∷ [])) (fact_one (complement_of m) l (fact_opposite m e) t))
        (λ t. sym (truth_here s.ends lits m) ∙ ap (truth_of s.ends (lits ++ m ∷ [])) (fact_one m l e t))
        (λ t g. h.truth l j fact ∙ sym (fact_apart s.ends lits m l t g))
    cases false e =
        ap (λ xs. get_or xs (slot_of a l) None) (after_bound a m (Some true) (Some false) (bound_of m) (Some at) e)
        ∙ h.truth l j fact
        ∙ sym (bound_keeps s.ends lits m l e fact)

upper_cases : (s : Shape) (lits : List Lit) (a : Layout) (y : ℕ) (k : ℤ) (x : ℕ) → Fits s a → y ≤ s.variables → x ≤ s.variables → truth_of s.ends lits (AtMost y k) ≡ None → Shows s lits a → (b : Bool) → (y == x) ≡ b → get_or (set a.bounds (2 * y) k) (2 * x) (pos 0) ≡ upper_of s.ends (lits ++ AtMost y k ∷ []) x
upper_cases s lits a y k x f i g new h true e =
    let place : ((2 * y) == (2 * x)) ≡ true = grind (arith, nat_tests) in
    let inside : (2 * y) < length a.bounds = omega (arith, f.pairs) in
    get_same a.bounds (2 * y) (2 * x) k (pos 0) inside place ∙ sym (here_upper s.ends lits y x k e new)
upper_cases s lits a y k x f i g new h false e =
    let place : ((2 * y) == (2 * x)) ≡ false = grind (arith, nat_tests) in
    get_other a.bounds (2 * y) (2 * x) k (pos 0) place ∙ h.upper x g ∙ sym (upper-push s.ends lits (AtMost y k) x ∙ apart_upper x y (upper_of s.ends lits x) k e)

lower_cases : (s : Shape) (lits : List Lit) (a : Layout) (y : ℕ) (k : ℤ) (x : ℕ) → Fits s a → y ≤ s.variables → x ≤ s.variables → truth_of s.ends lits (AtLeast y k) ≡ None → Shows s lits a → (b : Bool) → (y == x) ≡ b → get_or (set a.bounds (2 * y + 1) k) (2 * x + 1) (pos 0) ≡ lower_of s.ends (lits ++ AtLeast y k ∷ []) x
lower_cases s lits a y k x f i g new h true e =
    let place : ((2 * y + 1) == (2 * x + 1)) ≡ true = grind (arith, nat_tests) in
    let inside : (2 * y + 1) < length a.bounds = omega (arith, f.pairs) in
    get_same a.bounds (2 * y + 1) (2 * x + 1) k (pos 0) inside place ∙ sym (here_lower s.ends lits y x k e new)
lower_cases s lits a y k x f i g new h false e =
    let place : ((2 * y + 1) == (2 * x + 1)) ≡ false = grind (arith, nat_tests) in
    get_other a.bounds (2 * y + 1) (2 * x + 1) k (pos 0) place ∙ h.lower x g ∙ sym (lower-push s.ends lits (AtLeast y k) x ∙ apart_lower x y (lower_of s.ends lits x) k e)

upper-applied : (s : Shape) (lits : List Lit) (a : Layout) (m : Lit) (at : ℕ) → Fits s a → IsOf s m → truth_of s.ends lits m ≡ None → Shows s lits a → (x : ℕ) → x ≤ s.variables → upper_in (applied a m at) x ≡ upper_of s.ends (lits ++ m ∷ []) x
upper-applied s lits a (Atom n t) at f i new h x j = h.upper x j ∙ sym (upper-push s.ends lits (Atom n t) x)
upper-applied s lits a (Body n t) at f i new h x j = h.upper x j ∙ sym (upper-push s.ends lits (Body n t) x)
upper-applied s lits a (Constraint n t) at f i new h x j = h.upper x j ∙ sym (upper-push s.ends lits (Constraint n t) x)
upper-applied s lits a (AtMost y k) at f i new h x j = upper_cases s lits a y k x f i j new h (y == x) refl
upper-applied s lits a (AtLeast y k) at f i new h x j =
    let place : ((2 * y + 1) == (2 * x)) ≡ false = grind (arith, nat_tests) in
    get_other a.bounds (2 * y + 1) (2 * x) k (pos 0) place ∙ h.upper x j ∙ sym (upper-push s.ends lits (AtLeast y k) x)

lower-applied : (s : Shape) (lits : List Lit) (a : Layout) (m : Lit) (at : ℕ) → Fits s a → IsOf s m → truth_of s.ends lits m ≡ None → Shows s lits a → (x : ℕ) → x ≤ s.variables → lower_in (applied a m at) x ≡ lower_of s.ends (lits ++ m ∷ []) x
lower-applied s lits a (Atom n t) at f i new h x j = h.lower x j ∙ sym (lower-push s.ends lits (Atom n t) x)
lower-applied s lits a (Body n t) at f i new h x j = h.lower x j ∙ sym (lower-push s.ends lits (Body n t) x)
lower-applied s lits a (Constraint n t) at f i new h x j = h.lower x j ∙ sym (lower-push s.ends lits (Constraint n t) x)
lower-applied s lits a (AtMost y k) at f i new h x j =
    let place : ((2 * y) == (2 * x + 1)) ≡ false = grind (arith, nat_tests) in
    get_other a.bounds (2 * y) (2 * x + 1) k (pos 0) place ∙ h.lower x j ∙ sym (lower-push s.ends lits (AtMost y k) x)
lower-applied s lits a (AtLeast y k) at f i new h x j = lower_cases s lits a y k x f i j new h (y == x) refl

mark-applied : (s : Shape) (lits : List Lit) (a : Layout) (m : Lit) (at : ℕ) → Fits s a → IsOf s m → at ≡ length lits → Shows s lits a → (l : Lit) → IsOf s l → mark_in (applied a m at) l ≡ latest (lits ++ m ∷ []) l
mark-applied s lits a m at f i e h l j =
    mark_written s a m l (Some at) (latest (lits ++ m ∷ []) l) f i j
    (λ g. ap Some e ∙ sym (latest-push lits m l ∙ ap (λ b. cond b (Some (length lits)) (latest lits l)) g))
    (λ g. h.mark l j ∙ sym (latest-push lits m l ∙ ap (λ b. cond b (Some (length lits)) (latest lits l)) g))

pub fits-applied : (s : Shape) (a : Layout) (m : Lit) (at : ℕ) → Fits s a → Fits s (applied a m at)
fits-applied s a m at f = fits-written s a m (Some true) (Some false) (bound_of m) (Some at) f

pub shows-applied : (s : Shape) (lits : List Lit) (a : Layout) (m : Lit) (at : ℕ) → Fits s a → IsOf s m → truth_of s.ends lits m ≡ None → at ≡ length lits → Shows s lits a → Shows s (lits ++ m ∷ []) (applied a m at)
shows-applied s lits a m at f i new e h = record {
  truth = truth-applied s lits a m at f i new h;
  upper = upper-applied s lits a m at f i new h;
  lower = lower-applied s lits a m at f i new h;
  mark = mark-applied s lits a m at f i e h;
}
