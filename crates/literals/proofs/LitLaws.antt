-- Literals: equal where each implies the other, the opposite of the opposite, and nogoods with the same literals.
use Rattle.std.proofs.Common.{◌≡◌, true, false, refl, ap, arith}
use Rattle.std.proofs.lemmas.Bool.Decides.{nat_tests}
use Rattle.std.proofs.lemmas.Int.{ints}
use Rattle.literals.specs.declared.lit.Lit.{Lit}
use Rattle.literals.specs.declared.lit.Lit.TheVariants.{Atom, Body, Constraint, AtMost, AtLeast}
use Rattle.literals.specs.Lits.{implies_lit, complement_of, same_lit}

pub implies_refl : (l : Lit) → implies_lit l l ≡ true
implies_refl (Atom n s) = grind (arith, nat_tests)
implies_refl (Body n s) = grind (arith, nat_tests)
implies_refl (Constraint n s) = grind (arith, nat_tests)
implies_refl (AtMost x k) = grind (arith, nat_tests, ints)
implies_refl (AtLeast x k) = grind (arith, nat_tests, ints)

pub same_refl : (l : Lit) → same_lit l l ≡ true
same_refl l = rw (implies_refl l) refl

pub complement-complement : (l : Lit) → complement_of (complement_of l) ≡ l
complement-complement (Atom n true) = refl
complement-complement (Atom n false) = refl
complement-complement (Body n true) = refl
complement-complement (Body n false) = refl
complement-complement (Constraint n true) = refl
complement-complement (Constraint n false) = refl
complement-complement (AtMost x k) = ap (λ j. AtMost x j) (omega (arith, ints))
complement-complement (AtLeast x k) = ap (λ j. AtLeast x j) (omega (arith, ints))

pub implies_complements : (a b : Lit) → implies_lit a b ≡ implies_lit (complement_of b) (complement_of a)
implies_complements (Atom n s) (Atom m r) = grind (arith, nat_tests)
implies_complements (Body n s) (Body m r) = grind (arith, nat_tests)
implies_complements (Constraint n s) (Constraint m r) = grind (arith, nat_tests)
implies_complements (AtMost x k) (AtMost y j) = grind (arith, nat_tests, ints)
implies_complements (AtLeast x k) (AtLeast y j) = grind (arith, nat_tests, ints)
implies_complements _ _ = refl

-- literals that imply each other are one
pub same_lit-equal : (a b : Lit) → same_lit a b ≡ true → a ≡ b
same_lit-equal (Atom n s) (Atom m r) = λ h. grind (arith, nat_tests)
same_lit-equal (Body n s) (Body m r) = λ h. grind (arith, nat_tests)
same_lit-equal (Constraint n s) (Constraint m r) = λ h. grind (arith, nat_tests)
same_lit-equal (AtMost x k) (AtMost y j) = λ h. grind (arith, nat_tests, ints)
same_lit-equal (AtLeast x k) (AtLeast y j) = λ h. grind (arith, nat_tests, ints)
same_lit-equal _ _ = λ h. cc
