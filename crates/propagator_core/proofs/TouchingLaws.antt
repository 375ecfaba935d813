-- A trail that grows by entries that touch none of these knows the same of each.
use Rattle.std.proofs.Common.{◌≡◌, ℕ, ◌&&◌, ◌||◌, Bool, true, false, cond, ℤ, List, [], ◌∷◌, ◌++◌, refl, ◌∙◌, ap}
use Rattle.std.specs.Int.{int_max, int_min}
use Rattle.std.specs.List.{AllByRecursion}
use Rattle.std.proofs.lemmas.List.{map-append}
use Rattle.literals.specs.declared.lit.Lit.{Lit}
use Rattle.literals.specs.declared.lit.Lit.TheVariants.{Atom, Body, Constraint, AtMost, AtLeast}
use Rattle.literals.specs.Truths.{signed}
use Rattle.literals.specs.Lits.{implies_lit}
use Rattle.trail.specs.Implied.{implied, lower_of, upper_of, lower_after, upper_after}
use Rattle.trail.specs.declared.entry.Entry.{Entry}
use Rattle.trail.specs.Assignment.{Assignment, lits_of, is_true_on, lower_on, upper_on, with_entry}
use Rattle.trail.specs.Growth.{with_entries}
use Rattle.trail.proofs.ImpliedLaws.{implied-push, lower-push, upper-push}
use Rattle.propagator_core.specs.declared.touch.Touch.{Touch}
use Rattle.propagator_core.specs.declared.touch.Touch.TheVariants.{Bounds, Truth}
use Rattle.propagator_core.specs.Touching.{touches_lit, is_touched, SameOf, SameOfAll}

lower_off : (x : ℕ) (b : ℤ) (l : Lit) → touches_lit l (Bounds x) ≡ false → lower_after x b l ≡ b
lower_off x b (Atom n s) e = refl
lower_off x b (Body n s) e = refl
lower_off x b (Constraint n s) e = refl
lower_off x b (AtMost y k) e = refl
lower_off x b (AtLeast y k) e = ap (λ q. cond q (int_max b k) b) e

upper_off : (x : ℕ) (b : ℤ) (l : Lit) → touches_lit l (Bounds x) ≡ false → upper_after x b l ≡ b
upper_off x b (Atom n s) e = refl
upper_off x b (Body n s) e = refl
upper_off x b (Constraint n s) e = refl
upper_off x b (AtMost y k) e = ap (λ q. cond q (int_min b k) b) e
upper_off x b (AtLeast y k) e = refl

truth_off : (c : ℕ) (s : Bool) (l : Lit) → touches_lit l (Truth c) ≡ false → implies_lit l (Constraint c s) ≡ false
truth_off c s (Atom n r) e = refl
truth_off c s (Body n r) e = refl
truth_off c s (Constraint n r) e = ap (λ q. q && signed r s) e
truth_off c s (AtMost y k) e = refl
truth_off c s (AtLeast y k) e = refl

or_off : (a b : Bool) → b ≡ false → (a || b) ≡ a
or_off true b e = refl
or_off false b e = e

one_off : (a b : Bool) → (a || b) ≡ false → (a ≡ false) × (b ≡ false)
one_off true b h = let no : true ≡ false = h in cc
one_off false b h = (refl, h)

lits-with : (t : Assignment) (e : Entry) → lits_of (with_entry t e).entries ≡ lits_of t.entries ++ e.lit ∷ []
lits-with t e = map-append (λ (x : Entry). x.lit) t.entries (e ∷ [])

true_off : (t : Assignment) (e : Entry) (c : ℕ) (s : Bool) → touches_lit e.lit (Truth c) ≡ false → is_true_on (with_entry t e) (Constraint c s) ≡ is_true_on t (Constraint c s)
true_off t e c s h =
    ap (λ ls. implied t.shape.ends ls (Constraint c s)) (lits-with t e)
    ∙ implied-push t.shape.ends (lits_of t.entries) e.lit (Constraint c s)
    ∙ or_off (is_true_on t (Constraint c s)) (implies_lit e.lit (Constraint c s)) (truth_off c s e.lit h)

same_one : (t : Assignment) (e : Entry) (touch : Touch) → touches_lit e.lit touch ≡ false → SameOf t (with_entry t e) touch
same_one t e (Bounds x) h = (
  ap (λ ls. lower_of t.shape.ends ls x) (lits-with t e) ∙ lower-push t.shape.ends (lits_of t.entries) e.lit x ∙ lower_off x (lower_on t x) e.lit h,
  ap (λ ls. upper_of t.shape.ends ls x) (lits-with t e) ∙ upper-push t.shape.ends (lits_of t.entries) e.lit x ∙ upper_off x (upper_on t x) e.lit h,
)
same_one t e (Truth c) h = (true_off t e c true h, true_off t e c false h)

-- after one entry that touches none of these
pub untouched : (t : Assignment) (e : Entry) (touches : List Touch) → is_touched touches e.lit ≡ false → SameOfAll t (with_entry t e) touches
untouched t e [] h = tt
untouched t e (touch ∷ touches) h =
    let o = one_off (touches_lit e.lit touch) (is_touched touches e.lit) h in
    (same_one t e touch o.0, untouched t e touches o.1)

same_then : (t u v : Assignment) (touch : Touch) → SameOf t u touch → SameOf u v touch → SameOf t v touch
same_then t u v (Bounds x) a b = (b.0 ∙ a.0, b.1 ∙ a.1)
same_then t u v (Truth c) a b = (b.0 ∙ a.0, b.1 ∙ a.1)

same_here : (t : Assignment) (touch : Touch) → SameOf t t touch
same_here t (Bounds x) = (refl, refl)
same_here t (Truth c) = (refl, refl)

pub same_of : (t : Assignment) (touches : List Touch) → SameOfAll t t touches
same_of t [] = tt
same_of t (touch ∷ touches) = (same_here t touch, same_of t touches)

pub same_on : (t u v : Assignment) (touches : List Touch) → SameOfAll t u touches → SameOfAll u v touches → SameOfAll t v touches
same_on t u v [] a b = tt
same_on t u v (touch ∷ touches) a b = (same_then t u v touch a.0 b.0, same_on t u v touches a.1 b.1)

-- after entries that touch none of these
pub all_untouched : (t : Assignment) (es : List Entry) (touches : List Touch) → AllByRecursion (λ e. is_touched touches e.lit ≡ false) es → SameOfAll t (with_entries t es) touches
all_untouched t [] touches a = same_of t touches
all_untouched t (e ∷ es) touches a = same_on t (with_entry t e) (with_entries (with_entry t e) es) touches (untouched t e touches a.0) (all_untouched (with_entry t e) es touches a.1)
