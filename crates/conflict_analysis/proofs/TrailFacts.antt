-- When literals became true on a trail, at which levels, and why entries stand.
use Rattle.std.proofs.Common.{◌≡◌, ℕ, zero, suc, ◌<◌, ◌≤◌, ◌||◌, Bool, true, false, List, [], ◌∷◌, ◌++◌, length, get_or, take, drop, Option, None, Some, refl, sym, ◌∙◌, ap, subst, arith, append_assoc, append-nil}
use Rattle.std.specs.Prelude.{is_some, nat_lt}
use Rattle.std.specs.List.{AllByRecursion, list_any}
use Rattle.std.proofs.lemmas.Bool.Decides.{nat_tests}
use Rattle.std.proofs.lemmas.Int.{ints}
use Rattle.std.proofs.Math.Seq.{take-nil}
use Rattle.std.proofs.lemmas.List.{length-take-le, take-append-drop}
use Rattle.literals.specs.declared.lit.Lit.{Lit}
use Rattle.literals.specs.declared.lit.Lit.TheVariants.{Atom, Body, Constraint, AtMost, AtLeast}
use Rattle.literals.specs.Lits.{implies_lit, complement_of}
use Rattle.literals.proofs.OrderLaws.{implies_trans}
use Rattle.trail.specs.declared.shape.Shape.{Shape}
use Rattle.trail.specs.declared.entry.Entry.{Entry}
use Rattle.trail.specs.Implied.{ends_imply, implied}
use Rattle.trail.specs.Assignment.{Assignment, Names, IsOf, Follow, IsAssignment, lits_of, is_true_on, since_on}
use Rattle.trail.proofs.ImpliedLaws.{implied_stays, implied_trans}
use Rattle.trail.proofs.EntryLaws.{lit_at, length-lits_of}
use Rattle.trail.proofs.SinceLaws.{true-since, since_found}
use Rattle.nogood_store.specs.Holding.{Held}
use Rattle.conflict_analysis.specs.Justified.{Stands, EachStands}
use Rattle.conflict_analysis.specs.Levels.{level_at, level_since, level_on}
use Rattle.conflict_analysis.specs.Marked.{IsBefore}

clash : {X : Type 0} → true ≡ false → X
clash h = cc

-- a list is its first items and some more
take_front : {X : Type 0} (xs : List X) (i j : ℕ) → i ≤ j → (more : List X) × (take j xs ≡ take i xs ++ more)
take_front [] i j h = ([], take-nil j ∙ sym (append-nil (take i []) ∙ take-nil i))
take_front (x ∷ xs) zero j h = (take j (x ∷ xs), refl)
take_front (x ∷ xs) (suc i) zero h = absurd (omega arith)
take_front (x ∷ xs) (suc i) (suc j) h = let rest = take_front xs i j (omega arith) in (rest.0, ap (λ ys. x ∷ ys) rest.1)

-- what the first entries imply became true before the place, or by the ends
pub before_since : (t : Assignment) (l : Lit) (i : ℕ) → implied t.shape.ends (take i (lits_of t.entries)) l ≡ true → IsBefore i (since_on t l)
before_since t l i h = cases (since_on t l) refl
  where
    cases : (o : Option ℕ) → since_on t l ≡ o → IsBefore i o
    cases None e = tt
    cases (Some j) e = test (nat_lt j i) refl
      where
        test : (b : Bool) → nat_lt j i ≡ b → j < i
        test true f = grind (arith, nat_tests)
        test false f =
            let le : i ≤ j = grind (arith, nat_tests) in
            let front = take_front (lits_of t.entries) i j le in
            clash (sym (ap (λ ls. implied t.shape.ends ls l) front.1 ∙ implied_stays t.shape.ends (take i (lits_of t.entries)) front.0 l h) ∙ (since_found t l j e).2)

-- what the first entries imply is true
pub before_true : (t : Assignment) (l : Lit) (i : ℕ) → implied t.shape.ends (take i (lits_of t.entries)) l ≡ true → is_true_on t l ≡ true
before_true t l i h = ap (λ ls. implied t.shape.ends ls l) (sym (take-append-drop i (lits_of t.entries))) ∙ implied_stays t.shape.ends (take i (lits_of t.entries)) (drop i (lits_of t.entries)) l h

-- a true literal with no entry is true by the ends
pub by_ends : (t : Assignment) (l : Lit) → is_true_on t l ≡ true → since_on t l ≡ None → ends_imply t.shape.ends l ≡ true
by_ends t l h e = cases (ends_imply t.shape.ends l) (sym (true-since t l) ∙ h)
  where
    cases : (b : Bool) → (b || is_some (since_on t l)) ≡ true → b ≡ true
    cases true f = refl
    cases false f = clash (sym f ∙ ap is_some e)

pub ends_since : (t : Assignment) (l : Lit) → ends_imply t.shape.ends l ≡ true → since_on t l ≡ None
ends_since t l h = rw h refl

-- the entry by which a literal became true implies it
pub since_entry : (t : Assignment) (l : Lit) (i : ℕ) (d : Entry) → since_on t l ≡ Some i → (i < length t.entries) × (implies_lit (get_or t.entries i d).lit l ≡ true)
since_entry t l i d e =
    let found = since_found t l i e in
    let within : i < length t.entries = omega (arith, found.0, length-lits_of t.entries) in
    (within, ap (λ m. implies_lit m l) (sym (lit_at t.entries i l d within)) ∙ found.1)

any_at : (p : Lit → Bool) (xs : List Lit) (i : ℕ) (d : Lit) → i < length xs → p (get_or xs i d) ≡ true → list_any p xs ≡ true
any_at p [] i d h e = absurd (omega arith)
any_at p (x ∷ xs) zero d h e = rw e refl
any_at p (x ∷ xs) (suc i) d h e = cases (p x) (any_at p xs i d (omega arith) e)
  where
    cases : (b : Bool) → list_any p xs ≡ true → (b || list_any p xs) ≡ true
    cases true f = refl
    cases false f = f

get_take : (xs : List Lit) (n i : ℕ) (d : Lit) → i < n → get_or (take n xs) i d ≡ get_or xs i d
get_take [] n i d h = ap (λ ys. get_or ys i d) (take-nil n)
get_take (x ∷ xs) zero i d h = absurd (omega arith)
get_take (x ∷ xs) (suc n) zero d h = refl
get_take (x ∷ xs) (suc n) (suc i) d h = get_take xs n i d (omega arith)

or_right : (a b : Bool) → b ≡ true → (a || b) ≡ true
or_right true b h = refl
or_right false b h = h

-- a stronger literal became true no sooner
pub since_later : (t : Assignment) (m x : Lit) (i : ℕ) → is_true_on t m ≡ true → implies_lit m x ≡ true → since_on t x ≡ Some i → (j : ℕ) × (since_on t m ≡ Some j) × (i ≤ j)
since_later t m x i h imp e = cases (since_on t m) refl
  where
    some_none : {X : Type 0} → Some i ≡ None → X
    some_none f = cc

    none_some : (b : Bool) → b ≡ true → (b || false) ≡ true
    none_some b f = rw f refl

    only : (b : Bool) → (b || false) ≡ true → b ≡ true
    only true f = refl
    only false f = f

    cases : (o : Option ℕ) → since_on t m ≡ o → (j : ℕ) × (since_on t m ≡ Some j) × (i ≤ j)
    cases None f =
        let ends : ends_imply t.shape.ends m ≡ true = by_ends t m h f in
        let too : ends_imply t.shape.ends x ≡ true = only (ends_imply t.shape.ends x) (implied_trans t.shape.ends [] m x imp (none_some (ends_imply t.shape.ends m) ends)) in
        some_none (sym e ∙ ends_since t x too)
    cases (Some j) f = (j, f, test (nat_lt j i) refl)
      where
        test : (b : Bool) → nat_lt j i ≡ b → i ≤ j
        test false g = grind (arith, nat_tests)
        test true g =
            let less : j < i = grind (arith, nat_tests) in
            let mine = since_found t m j f in
            let hers = since_found t x i e in
            let there : j < length (take i (lits_of t.entries)) = omega (arith, less, hers.0, length-take-le i (lits_of t.entries) (omega (arith, hers.0))) in
            let here : implies_lit (get_or (take i (lits_of t.entries)) j m) x ≡ true =
            ap (λ y. implies_lit y x) (get_take (lits_of t.entries) i j m less) ∙ implies_trans (get_or (lits_of t.entries) j m) m x mine.1 imp
            in
            clash (sym (or_right (ends_imply t.shape.ends x) (list_any (λ y. implies_lit y x) (take i (lits_of t.entries))) (any_at (λ y. implies_lit y x) (take i (lits_of t.entries)) j m there here)) ∙ hers.2)

-- levels do not fall
low_at : (s : Shape) (before : List Lit) (level : ℕ) (es : List Entry) (high i : ℕ) → Follow s before level es high → i < length es → level ≤ level_at es i
low_at s before level [] high i f h = absurd (omega arith)
low_at s before level (e ∷ es) high zero f h = f.2
low_at s before level (e ∷ es) high (suc i) f h = let rest = low_at s (before ++ e.lit ∷ []) e.level es high i f.3 (omega arith) in let here = f.2 in omega arith

rise_at : (s : Shape) (before : List Lit) (level : ℕ) (es : List Entry) (high i j : ℕ) → Follow s before level es high → i ≤ j → j < length es → level_at es i ≤ level_at es j
rise_at s before level [] high i j f l h = absurd (omega arith)
rise_at s before level (e ∷ es) high zero zero f l h = omega arith
rise_at s before level (e ∷ es) high zero (suc j) f l h = low_at s (before ++ e.lit ∷ []) e.level es high j f.3 (omega arith)
rise_at s before level (e ∷ es) high (suc i) zero f l h = absurd (omega arith)
rise_at s before level (e ∷ es) high (suc i) (suc j) f l h = rise_at s (before ++ e.lit ∷ []) e.level es high i j f.3 (omega arith) (omega arith)

pub levels_rise : (t : Assignment) (i j : ℕ) → IsAssignment t → i ≤ j → j < length t.entries → level_at t.entries i ≤ level_at t.entries j
levels_rise t i j a l h = rise_at t.shape [] 0 t.entries t.level i j a.entries l h

pub level_there : (es : List Entry) (i : ℕ) (d : Entry) → i < length es → level_at es i ≡ (get_or es i d).level
level_there [] i d h = absurd (omega arith)
level_there (e ∷ es) zero d h = refl
level_there (e ∷ es) (suc i) d h = level_there es i d (omega arith)

pub level_since_is : (t : Assignment) (l : Lit) (i : ℕ) → since_on t l ≡ Some i → level_on t l ≡ level_at t.entries i
level_since_is t l i e = ap (level_since t.entries) e

-- why the entry at a place stands
stands_from : (s : Shape) (held : List Held) (before es : List Entry) (i : ℕ) (d : Entry) → EachStands s held before es → i < length es → Stands s held (before ++ take i es) (get_or es i d) (get_or es i d).why
stands_from s held before [] i d a h = absurd (omega arith)
stands_from s held before (e ∷ es) zero d a h = subst (λ (b : List Entry). Stands s held b e e.why) (sym (append-nil before)) a.0
stands_from s held before (e ∷ es) (suc i) d a h =
    subst (λ (b : List Entry). Stands s held b (get_or es i d) (get_or es i d).why) (append_assoc before (e ∷ []) (take i es))
    (stands_from s held (before ++ e ∷ []) es i d a.1 (omega arith))

pub stands_at : (held : List Held) (t : Assignment) (i : ℕ) (d : Entry) → EachStands t.shape held [] t.entries → i < length t.entries → Stands t.shape held (take i t.entries) (get_or t.entries i d) (get_or t.entries i d).why
stands_at held t i d a h = stands_from t.shape held [] t.entries i d a h

pub lits_take : (es : List Entry) (i : ℕ) → lits_of (take i es) ≡ take i (lits_of es)
lits_take [] i = ap lits_of (take-nil i) ∙ sym (take-nil i)
lits_take (e ∷ es) zero = refl
lits_take (e ∷ es) (suc i) = ap (λ ls. e.lit ∷ ls) (lits_take es i)

pub level_take : (es : List Entry) (i j high : ℕ) → AllByRecursion (λ (d : Entry). d.level < high) (take i es) → j < i → j < length es → level_at es j < high
level_take [] i j high a l h = absurd (omega arith)
level_take (e ∷ es) zero j high a l h = absurd (omega arith)
level_take (e ∷ es) (suc i) zero high a l h = a.0
level_take (e ∷ es) (suc i) (suc j) high a l h = level_take es i j high a.1 (omega arith) (omega arith)

-- what implies a literal names the same thing
pub implies_of : (s : Shape) (a b : Lit) → implies_lit a b ≡ true → IsOf s a → IsOf s b
implies_of s (Atom n x) (Atom m y) = λ h i. grind (arith, nat_tests)
implies_of s (Body n x) (Body m y) = λ h i. grind (arith, nat_tests)
implies_of s (Constraint n x) (Constraint m y) = λ h i. grind (arith, nat_tests)
implies_of s (AtMost n x) (AtMost m y) = λ h i. grind (arith, nat_tests, ints)
implies_of s (AtLeast n x) (AtLeast m y) = λ h i. grind (arith, nat_tests, ints)
implies_of s _ _ = λ h i. cc

-- the opposite of a literal of the shape is of the shape
pub names_complement : (s : Shape) (l : Lit) → Names s l → Names s (complement_of l)
names_complement s (Atom n b) h = record { literal = h.literal; within = h.within }
names_complement s (Body n b) h = record { literal = h.literal; within = h.within }
names_complement s (Constraint n b) h = record { literal = h.literal; within = h.within }
names_complement s (AtMost x k) h = record { literal = (h.literal.0, omega (arith, ints, h.literal.1), omega (arith, ints, h.literal.2)); within = h.within }
names_complement s (AtLeast x k) h = record { literal = (h.literal.0, omega (arith, ints, h.literal.1), omega (arith, ints, h.literal.2)); within = h.within }
