-- Nogoods as keys: `==` holds exactly where the two are one list.
use Rattle.std.proofs.Common.{◌≡◌, Decides, true, List, refl, ◌∙◌, ap, arith}
use Rattle.std.proofs.lemmas.Bool.Decides.{nat_tests, Decides-int_eq}
use Rattle.std.proofs.lemmas.Slice.Eq.{slice_eq-Decides}
use Rattle.literals.specs.declared.lit.Lit.{Lit}
use Rattle.literals.specs.declared.lit.Lit.TheVariants.{Atom, Body, Constraint, AtMost, AtLeast}
use Rattle.literals.specs.contracts.lit.LitPartialEq.TheImpl.{ghosts as of_lit}
use Rattle.literals.specs.contracts.nogood.NogoodPartialEq.TheImpl.{ghosts as of_nogood}

equal_lits : (a b : Lit) → of_lit.eq a b ≡ true → a ≡ b
equal_lits (Atom n s) (Atom m r) = λ h. grind (arith, nat_tests)
equal_lits (Body n s) (Body m r) = λ h. grind (arith, nat_tests)
equal_lits (Constraint n s) (Constraint m r) = λ h. grind (arith, nat_tests)
equal_lits (AtMost x k) (AtMost y j) = λ h. grind (arith, nat_tests, Decides-int_eq)
equal_lits (AtLeast x k) (AtLeast y j) = λ h. grind (arith, nat_tests, Decides-int_eq)
equal_lits (Atom n s) (Body m r) = λ h. cc
equal_lits (Atom n s) (Constraint m r) = λ h. cc
equal_lits (Atom n s) (AtMost m r) = λ h. cc
equal_lits (Atom n s) (AtLeast m r) = λ h. cc
equal_lits (Body n s) (Atom m r) = λ h. cc
equal_lits (Body n s) (Constraint m r) = λ h. cc
equal_lits (Body n s) (AtMost m r) = λ h. cc
equal_lits (Body n s) (AtLeast m r) = λ h. cc
equal_lits (Constraint n s) (Atom m r) = λ h. cc
equal_lits (Constraint n s) (Body m r) = λ h. cc
equal_lits (Constraint n s) (AtMost m r) = λ h. cc
equal_lits (Constraint n s) (AtLeast m r) = λ h. cc
equal_lits (AtMost n s) (Atom m r) = λ h. cc
equal_lits (AtMost n s) (Body m r) = λ h. cc
equal_lits (AtMost n s) (Constraint m r) = λ h. cc
equal_lits (AtMost n s) (AtLeast m r) = λ h. cc
equal_lits (AtLeast n s) (Atom m r) = λ h. cc
equal_lits (AtLeast n s) (Body m r) = λ h. cc
equal_lits (AtLeast n s) (Constraint m r) = λ h. cc
equal_lits (AtLeast n s) (AtMost m r) = λ h. cc

own_lit : (a : Lit) → of_lit.eq a a ≡ true
own_lit (Atom n s) = grind (arith, nat_tests)
own_lit (Body n s) = grind (arith, nat_tests)
own_lit (Constraint n s) = grind (arith, nat_tests)
own_lit (AtMost x k) = grind (arith, nat_tests, Decides-int_eq)
own_lit (AtLeast x k) = grind (arith, nat_tests, Decides-int_eq)

lits_decide : (a b : Lit) → Decides (of_lit.eq a b) (a ≡ b)
lits_decide a b = (equal_lits a b, λ e. ap (λ x. of_lit.eq x b) e ∙ own_lit b)

pub nogoods_decide : (xs ys : List Lit) → Decides (of_nogood.eq xs ys) (xs ≡ ys)
nogoods_decide xs ys = slice_eq-Decides {A = Lit} {E = of_lit.eq} lits_decide xs ys (of_nogood.eq xs ys) refl
