-- In which worlds all literals of a list are true, and the worlds that meet what resolving gives.
use Rattle.std.proofs.Common.{◌≡◌, Bool, true, false, not, cond, ◌&&◌, List, [], ◌∷◌, Some, refl, sym, ◌∙◌, ap, arith}
use Rattle.std.specs.List.{find}
use Rattle.std.proofs.lemmas.Bool.Decides.{nat_tests}
use Rattle.std.proofs.lemmas.Int.{ints}
use Rattle.literals.specs.declared.lit.Lit.{Lit}
use Rattle.literals.specs.declared.lit.Lit.TheVariants.{Atom, Body, Constraint, AtMost, AtLeast}
use Rattle.literals.specs.Truths.{Truths, lit_true, all_true, Meets}
use Rattle.literals.specs.Lits.{implies_lit, complement_of, same_lit}
use Rattle.literals.specs.Nogoods.{is_before, same_place, stronger, put_lit, joined, canonical, without, answers}

-- what implies a literal makes it true
pub implies_true : (t : Truths) (a b : Lit) → implies_lit a b ≡ true → lit_true t a ≡ true → lit_true t b ≡ true
implies_true t (Atom n s) (Atom m r) = λ h e. grind (arith, nat_tests)
implies_true t (Body n s) (Body m r) = λ h e. grind (arith, nat_tests)
implies_true t (Constraint n s) (Constraint m r) = λ h e. grind (arith, nat_tests)
implies_true t (AtMost x k) (AtMost y j) = λ h e. grind (arith, nat_tests, ints)
implies_true t (AtLeast x k) (AtLeast y j) = λ h e. grind (arith, nat_tests, ints)
implies_true t _ _ = λ h e. cc

pub complement_true : (t : Truths) (q : Lit) → lit_true t (complement_of q) ≡ not (lit_true t q)
complement_true t (Atom n s) = grind (arith, nat_tests)
complement_true t (Body n s) = grind (arith, nat_tests)
complement_true t (Constraint n s) = grind (arith, nat_tests)
complement_true t (AtMost x k) = grind (arith, nat_tests, ints)
complement_true t (AtLeast x k) = grind (arith, nat_tests, ints)

pub stronger_true : (t : Truths) (x l : Lit) → same_place x l ≡ true → lit_true t (stronger x l) ≡ (lit_true t x && lit_true t l)
stronger_true t (Atom n s) (Atom m r) = λ h. grind (arith, nat_tests)
stronger_true t (Body n s) (Body m r) = λ h. grind (arith, nat_tests)
stronger_true t (Constraint n s) (Constraint m r) = λ h. grind (arith, nat_tests)
stronger_true t (AtMost x k) (AtMost y j) = λ h. grind (arith, nat_tests, ints)
stronger_true t (AtLeast x k) (AtLeast y j) = λ h. grind (arith, nat_tests, ints)
stronger_true t _ _ = λ h. grind (arith, nat_tests)

true_cases : (t : Truths) (x : Lit) (xs : List Lit) (l : Lit) → (b s : Bool) → same_place x l ≡ s → all_true t (put_lit xs l) ≡ (all_true t xs && lit_true t l) → all_true t (cond b (x ∷ put_lit xs l) (cond s (stronger x l ∷ xs) (l ∷ x ∷ xs))) ≡ (all_true t (x ∷ xs) && lit_true t l)
true_cases t x xs l true s es h = grind (arith, nat_tests, h)
true_cases t x xs l false true es h = grind (arith, nat_tests, stronger_true t x l es)
true_cases t x xs l false false es h = grind (arith, nat_tests)

pub true_put : (t : Truths) (xs : List Lit) (l : Lit) → all_true t (put_lit xs l) ≡ (all_true t xs && lit_true t l)
true_put t [] l = grind (arith, nat_tests)
true_put t (x ∷ xs) l = true_cases t x xs l (is_before x l) (same_place x l) refl (true_put t xs l)

pub true_joined : (t : Truths) (xs ys : List Lit) → all_true t (joined xs ys) ≡ (all_true t xs && all_true t ys)
true_joined t xs [] = grind (arith, nat_tests)
true_joined t xs (y ∷ ys) = true_joined t (put_lit xs y) ys ∙ and_shift (all_true t xs) (lit_true t y) (all_true t ys) (true_put t xs y)
  where
    and_shift : (a b d : Bool) {c : Bool} → c ≡ (a && b) → (c && d) ≡ (a && (b && d))
    and_shift a b d e = grind (arith, nat_tests)

pub true_canonical : (t : Truths) (xs : List Lit) → all_true t (canonical xs) ≡ all_true t xs
true_canonical t xs = true_joined t [] xs

pub true_without : (t : Truths) (xs : List Lit) (p : Lit) → lit_true t p ≡ true → all_true t (without xs p) ≡ all_true t xs
true_without t [] p h = refl
true_without t (x ∷ xs) p h = cases (same_lit x p) refl (true_without t xs p h)
  where
    cases : (b : Bool) → same_lit x p ≡ b → all_true t (without xs p) ≡ all_true t xs → all_true t (cond (not b) (x ∷ without xs p) (without xs p)) ≡ all_true t (x ∷ xs)
    cases true e r = grind (arith, nat_tests, implies_true t p x)
    cases false e r = grind (arith, nat_tests)

-- a world that meets both lists meets what resolving them gives
pub resolved_met : (t : Truths) (left : List Lit) (pivot : Lit) (right : List Lit) (q : Lit) → answers pivot q ≡ true → Meets t left → Meets t right → Meets t (joined (without left pivot) (without right q))
resolved_met t left pivot right q a l r = cases (lit_true t pivot) (lit_true t q) refl refl (true_joined t (without left pivot) (without right q))
  where
    cases : (v w : Bool) → lit_true t pivot ≡ v → lit_true t q ≡ w → all_true t (joined (without left pivot) (without right q)) ≡ (all_true t (without left pivot) && all_true t (without right q)) → Meets t (joined (without left pivot) (without right q))
    cases true w p e both = grind (arith, nat_tests, true_without t left pivot p)
    cases false true p e both = grind (arith, nat_tests, true_without t right q e)
    cases false false p e both = grind (arith, nat_tests, implies_true t (complement_of q) pivot a, complement_true t q)

found_cases : (pivot x : Lit) (xs : List Lit) (q : Lit) → (find (answers pivot) xs ≡ Some q → answers pivot q ≡ true) → (b : Bool) → answers pivot x ≡ b → cond b (Some x) (find (answers pivot) xs) ≡ Some q → answers pivot q ≡ true
found_cases pivot x xs q rest true e h = let same : x ≡ q = cc in ap (answers pivot) (sym same) ∙ e
found_cases pivot x xs q rest false e h = rest h

pub found_answers : (pivot : Lit) (xs : List Lit) (q : Lit) → find (answers pivot) xs ≡ Some q → answers pivot q ≡ true
found_answers pivot [] q h = cc
found_answers pivot (x ∷ xs) q h = found_cases pivot x xs q (found_answers pivot xs q) (answers pivot x) refl h
