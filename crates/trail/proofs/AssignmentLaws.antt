-- What holds of every trail: a literal and its opposite are never both true, bounds meet, and undoing leaves the first entries.
use Rattle.std.proofs.Common.{◌≡◌, ℕ, ◌<◌, ◌≤◌, ◌||◌, nat_le, Bool, true, false, cond, List, [], ◌∷◌, ◌++◌, None, Some, refl, sym, ◌∙◌, ap, arith, ℤ, ◌≤ℤ◌, pos, ◌-ℤ◌, append_assoc}
use Rattle.std.specs.Prelude.{int_le}
use Rattle.std.specs.List.{filter}
use Rattle.std.proofs.lemmas.Bool.Decides.{nat_tests}
use Rattle.std.proofs.lemmas.Int.{ints}
use Rattle.std.proofs.lemmas.List.{map-append, append-nil}
use Rattle.symbols.specs.declared.ends.Ends.{Ends}
use Rattle.literals.specs.declared.lit.Lit.{Lit}
use Rattle.literals.specs.declared.lit.Lit.TheVariants.{Atom, Body, Constraint, AtMost, AtLeast}
use Rattle.literals.specs.Lits.{implies_lit, complement_of}
use Rattle.literals.proofs.LitLaws.{complement-complement, implies_complements}
use Rattle.trail.specs.declared.shape.Shape.{Shape}
use Rattle.trail.specs.declared.entry.Entry.{Entry}
use Rattle.trail.specs.Implied.{ends_imply, implied, truth_of}
use Rattle.trail.specs.Assignment.{Assignment, lits_of, is_true_on, truth_on, lower_on, upper_on, Follow, IsAssignment, undone_to}
use Rattle.trail.proofs.ImpliedLaws.{implied-push, implied_stays, implied_trans, implied-at_most, implied-at_least, open_is}
use Rattle.trail.proofs.KeptLaws.{follow_low}

clash : true ≡ false → ⊥
clash e = cc

ends_agree : (ends : Ends) (l : Lit) → ends_imply ends l ≡ true → ends_imply ends (complement_of l) ≡ false
ends_agree ends (Atom n s) = λ h. refl
ends_agree ends (Body n s) = λ h. refl
ends_agree ends (Constraint n s) = λ h. refl
ends_agree ends (AtMost x k) = λ h. let order : ends.min ≤ℤ ends.max = ends.ordered in grind (arith, nat_tests, ints)
ends_agree ends (AtLeast x k) = λ h. let order : ends.min ≤ℤ ends.max = ends.ordered in grind (arith, nat_tests, ints)

-- no literal implies two opposite ones
one_side : (m l : Lit) → implies_lit m l ≡ true → implies_lit m (complement_of l) ≡ false
one_side (Atom n s) (Atom p r) = λ h. grind (arith, nat_tests)
one_side (Body n s) (Body p r) = λ h. grind (arith, nat_tests)
one_side (Constraint n s) (Constraint p r) = λ h. grind (arith, nat_tests)
one_side (AtMost x k) (AtMost y j) = λ h. refl
one_side (AtLeast x k) (AtLeast y j) = λ h. refl
one_side _ _ = λ h. cc

or_both : (a b : Bool) → a ≡ false → b ≡ false → (a || b) ≡ false
or_both a b h e = rw (h, e) refl

push_agrees : (ends : Ends) (lits : List Lit) (m : Lit) → ((l : Lit) → implied ends lits l ≡ true → implied ends lits (complement_of l) ≡ false) → truth_of ends lits m ≡ None → (l : Lit) → implied ends (lits ++ m ∷ []) l ≡ true → implied ends (lits ++ m ∷ []) (complement_of l) ≡ false
push_agrees ends lits m agree new l h =
    implied-push ends lits m (complement_of l)
    ∙ cases (implied ends lits l) (implies_lit m l) (implied ends lits (complement_of l)) (implies_lit m (complement_of l)) refl refl refl refl (sym (implied-push ends lits m l) ∙ h)
  where
    shut : implied ends lits (complement_of m) ≡ true → ⊥
    shut e = clash (sym e ∙ (open_is ends lits m new).1)

    -- what is opposite to something that m implies is not implied before
    back : (q : Lit) → implies_lit m q ≡ true → implied ends lits (complement_of q) ≡ true → ⊥
    back q f e = shut (implied_trans ends lits (complement_of q) (complement_of m) (sym (implies_complements m q) ∙ f) e)

    cases : (a b c d : Bool) → implied ends lits l ≡ a → implies_lit m l ≡ b → implied ends lits (complement_of l) ≡ c → implies_lit m (complement_of l) ≡ d → (a || b) ≡ true → (c || d) ≡ false
    cases a b false false ea eb ec ed e = refl
    cases true b true d ea eb ec ed e = absurd (clash (sym ec ∙ agree l ea))
    cases false true true d ea eb ec ed e = absurd (back l eb ec)
    cases false false c d ea eb ec ed e = absurd (clash (sym e))
    cases a true false true ea eb ec ed e = absurd (clash (sym ed ∙ one_side m l eb))
    cases true false false true ea eb ec ed e = absurd (back (complement_of l) ed (ap (implied ends lits) (complement-complement l) ∙ ea))

follow_agrees : (s : Shape) (before : List Lit) (level : ℕ) (es : List Entry) (high : ℕ) → ((l : Lit) → implied s.ends before l ≡ true → implied s.ends before (complement_of l) ≡ false) → Follow s before level es high → (l : Lit) → implied s.ends (before ++ lits_of es) l ≡ true → implied s.ends (before ++ lits_of es) (complement_of l) ≡ false
follow_agrees s before level [] high agree h l e =
    ap (λ (ls : List Lit). implied s.ends ls (complement_of l)) (append-nil before) ∙ agree l (ap (λ (ls : List Lit). implied s.ends ls l) (sym (append-nil before)) ∙ e)
follow_agrees s before level (x ∷ xs) high agree h l e =
    ap (λ (ls : List Lit). implied s.ends ls (complement_of l)) (sym (append_assoc before (x.lit ∷ []) (lits_of xs)))
    ∙ follow_agrees s (before ++ x.lit ∷ []) x.level xs high (push_agrees s.ends before x.lit agree h.1) h.3 l (ap (λ (ls : List Lit). implied s.ends ls l) (append_assoc before (x.lit ∷ []) (lits_of xs)) ∙ e)

none_agree : (ends : Ends) (l : Lit) → implied ends [] l ≡ true → implied ends [] (complement_of l) ≡ false
none_agree ends l h = or_both (ends_imply ends (complement_of l)) false (ends_agree ends l (only (ends_imply ends l) h)) refl
  where
    only : (b : Bool) → (b || false) ≡ true → b ≡ true
    only true e = refl
    only false e = e

-- a literal and its opposite are never both true
pub agree_on : (t : Assignment) (l : Lit) → IsAssignment t → is_true_on t l ≡ true → is_true_on t (complement_of l) ≡ false
agree_on t l h e = follow_agrees t.shape [] 0 t.entries t.level (none_agree t.shape.ends) h.entries l e

-- every variable has a number between its bounds
pub bounds_meet : (t : Assignment) (x : ℕ) → IsAssignment t → lower_on t x ≤ℤ upper_on t x
bounds_meet t x h =
    let least : is_true_on t (AtLeast x (lower_on t x)) ≡ true = implied-at_least t.shape.ends (lits_of t.entries) x (lower_on t x) ∙ same (lower_on t x) in
    let under : int_le (upper_on t x) (lower_on t x -ℤ pos 1) ≡ false = sym (implied-at_most t.shape.ends (lits_of t.entries) x (lower_on t x -ℤ pos 1)) ∙ agree_on t (AtLeast x (lower_on t x)) h least in
    meet (lower_on t x) (upper_on t x) under
  where
    same : (a : ℤ) → int_le a a ≡ true
    same a = grind (arith, nat_tests, ints)

    meet : (a b : ℤ) → int_le b (a -ℤ pos 1) ≡ false → a ≤ℤ b
    meet a b e = grind (arith, nat_tests, ints)

-- a true literal stands as true, a literal whose opposite is true as false
pub truth-true : (t : Assignment) (l : Lit) → is_true_on t l ≡ true → truth_on t l ≡ Some true
truth-true t l h = rw h refl

pub truth-false : (t : Assignment) (l : Lit) → IsAssignment t → is_true_on t (complement_of l) ≡ true → truth_on t l ≡ Some false
truth-false t l h e =
    let other : is_true_on t l ≡ false = ap (is_true_on t) (sym (complement-complement l)) ∙ agree_on t (complement_of l) h e in
    rw (other, e) refl

pub true-truth : (t : Assignment) (l : Lit) → truth_on t l ≡ Some true → is_true_on t l ≡ true
true-truth t l h = cases (is_true_on t l) (is_true_on t (complement_of l)) h
  where
    cases : (a b : Bool) → cond a (Some true) (cond b (Some false) None) ≡ Some true → a ≡ true
    cases true b e = refl
    cases false true e = cc
    cases false false e = cc

pub false-truth : (t : Assignment) (l : Lit) → truth_on t l ≡ Some false → is_true_on t (complement_of l) ≡ true
false-truth t l h = cases (is_true_on t l) (is_true_on t (complement_of l)) h
  where
    cases : (a b : Bool) → cond a (Some true) (cond b (Some false) None) ≡ Some false → b ≡ true
    cases true b e = cc
    cases false true e = refl
    cases false false e = cc

filter_none : (s : Shape) (before : List Lit) (level cut : ℕ) (es : List Entry) (high : ℕ) → cut < level → Follow s before level es high → filter (λ e. nat_le e.level cut) es ≡ []
filter_none s before level cut [] high lt h = refl
filter_none s before level cut (x ∷ xs) high lt h =
    let over : cut < x.level = omega (arith, h.2) in
    let test : nat_le x.level cut ≡ false = grind (arith, nat_tests) in
    rw test (filter_none s (before ++ x.lit ∷ []) x.level cut xs high over h.3)

filter_front : (s : Shape) (before : List Lit) (level cut : ℕ) (es : List Entry) (high : ℕ) → Follow s before level es high → (more : List Entry) × (es ≡ filter (λ e. nat_le e.level cut) es ++ more)
filter_front s before level cut [] high h = ([], refl)
filter_front s before level cut (x ∷ xs) high h = cases (nat_le x.level cut) refl (filter_front s (before ++ x.lit ∷ []) x.level cut xs high h.3)
  where
    cases : (b : Bool) → nat_le x.level cut ≡ b → (more : List Entry) × (xs ≡ filter (λ e. nat_le e.level cut) xs ++ more) → (more : List Entry) × (x ∷ xs ≡ cond b (x ∷ filter (λ e. nat_le e.level cut) xs) (filter (λ e. nat_le e.level cut) xs) ++ more)
    cases true e rest = (rest.0, ap (λ (ys : List Entry). x ∷ ys) rest.1)
    cases false e rest =
        let over : cut < x.level = grind (arith, nat_tests) in
        let none : filter (λ e. nat_le e.level cut) xs ≡ [] = filter_none s (before ++ x.lit ∷ []) x.level cut xs high over h.3 in
        (x ∷ xs, rw none refl)

-- undoing leaves the first entries
pub undone_front : (t : Assignment) (level : ℕ) → IsAssignment t → (more : List Entry) × (t.entries ≡ (undone_to level t).entries ++ more)
undone_front t level h = filter_front t.shape [] 0 level t.entries t.level h.entries

-- what is true after undoing was true before
pub undone_true : (t : Assignment) (level : ℕ) (l : Lit) → IsAssignment t → is_true_on (undone_to level t) l ≡ true → is_true_on t l ≡ true
undone_true t level l h e =
    let front = undone_front t level h in
    let lits : lits_of t.entries ≡ lits_of (undone_to level t).entries ++ lits_of front.0 = ap lits_of front.1 ∙ map-append (λ (e : Entry). e.lit) (undone_to level t).entries front.0 in
    ap (λ (ls : List Lit). implied t.shape.ends ls l) lits ∙ implied_stays t.shape.ends (lits_of (undone_to level t).entries) (lits_of front.0) l e

follow_all : (s : Shape) (before : List Lit) (level cut : ℕ) (es : List Entry) (high : ℕ) → high ≤ cut → Follow s before level es high → filter (λ e. nat_le e.level cut) es ≡ es
follow_all s before level cut [] high le h = refl
follow_all s before level cut (x ∷ xs) high le h =
    let low : x.level ≤ high = follow_low s (before ++ x.lit ∷ []) x.level xs high h.3 in
    let test : nat_le x.level cut ≡ true = grind (arith, nat_tests) in
    rw test (ap (λ (ys : List Entry). x ∷ ys) (follow_all s (before ++ x.lit ∷ []) x.level cut xs high le h.3))

-- undoing to the open level, or above it, leaves every entry
pub undone_all : (t : Assignment) (level : ℕ) → IsAssignment t → t.level ≤ level → (undone_to level t).entries ≡ t.entries
undone_all t level h le = follow_all t.shape [] 0 level t.entries t.level le h.entries
