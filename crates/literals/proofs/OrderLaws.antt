-- The order of a nogood's literals, what implying keeps, and the stronger of two bounds.
use Rattle.std.proofs.Common.{◌≡◌, Bool, true, false, cond, IsTrue, refl, sym, ◌∙◌, arith}
use Rattle.std.proofs.lemmas.Bool.Decides.{nat_tests}
use Rattle.std.proofs.lemmas.Int.{ints}
use Rattle.literals.specs.declared.lit.Lit.{Lit}
use Rattle.literals.specs.declared.lit.Lit.TheVariants.{Atom, Body, Constraint, AtMost, AtLeast}
use Rattle.literals.specs.Lits.{implies_lit}
use Rattle.literals.specs.Nogoods.{is_before, same_place, stronger}

pub is_true : {b : Bool} → b ≡ true → IsTrue b
is_true e = e

pub is_true_eq : {b : Bool} → IsTrue b → b ≡ true
is_true_eq h = h

pub before_same : (x l m : Lit) → same_place x l ≡ true → is_before x m ≡ true → is_before l m ≡ true
before_same x l m s b = grind (arith, nat_tests)

pub same_before : (x l m : Lit) → same_place x l ≡ true → is_before m x ≡ true → is_before m l ≡ true
same_before x l m s b = grind (arith, nat_tests)

pub before_trans : (x y z : Lit) → is_before x y ≡ true → is_before y z ≡ true → is_before x z ≡ true
before_trans x y z a b = grind (arith, nat_tests)

pub before_not : (x y : Lit) → is_before x y ≡ true → is_before y x ≡ false
before_not x y a = grind (arith, nat_tests)

pub before_apart : (x y : Lit) → is_before x y ≡ true → same_place y x ≡ false
before_apart x y a = grind (arith, nat_tests)

pub same_not_before : (x y : Lit) → same_place x y ≡ true → is_before x y ≡ false
same_not_before x y a = grind (arith, nat_tests)

pub same_trans : (x y z : Lit) → same_place x y ≡ true → same_place y z ≡ true → same_place x z ≡ true
same_trans x y z a b = grind (arith, nat_tests)

pub same_sym : (x y : Lit) → same_place x y ≡ true → same_place y x ≡ true
same_sym x y a = grind (arith, nat_tests)

-- neither before nor at its place: after it
pub before_other : (x l : Lit) → is_before x l ≡ false → same_place x l ≡ false → is_before l x ≡ true
before_other x l a b = grind (arith, nat_tests)

-- neither before nor after it: at its place
pub same_other : (x l : Lit) → is_before x l ≡ false → is_before l x ≡ false → same_place x l ≡ true
same_other x l a b = grind (arith, nat_tests)

pub implies_trans : (a b c : Lit) → implies_lit a b ≡ true → implies_lit b c ≡ true → implies_lit a c ≡ true
implies_trans (Atom n s) (Atom m r) (Atom o q) = λ h e. grind (arith, nat_tests)
implies_trans (Body n s) (Body m r) (Body o q) = λ h e. grind (arith, nat_tests)
implies_trans (Constraint n s) (Constraint m r) (Constraint o q) = λ h e. grind (arith, nat_tests)
implies_trans (AtMost x k) (AtMost y j) (AtMost z i) = λ h e. grind (arith, nat_tests, ints)
implies_trans (AtLeast x k) (AtLeast y j) (AtLeast z i) = λ h e. grind (arith, nat_tests, ints)
implies_trans _ _ _ = λ h e. cc

-- of two literals of one place one implies the other
pub implies_other : (a b : Lit) → same_place a b ≡ true → implies_lit a b ≡ false → implies_lit b a ≡ true
implies_other (Atom n s) (Atom m r) = λ h e. grind (arith, nat_tests)
implies_other (Body n s) (Body m r) = λ h e. grind (arith, nat_tests)
implies_other (Constraint n s) (Constraint m r) = λ h e. grind (arith, nat_tests)
implies_other (AtMost x k) (AtMost y j) = λ h e. grind (arith, nat_tests, ints)
implies_other (AtLeast x k) (AtLeast y j) = λ h e. grind (arith, nat_tests, ints)
implies_other _ _ = λ h e. grind (arith, nat_tests)

pub stronger_is : (x l : Lit) → (P : Lit → Type 0) → P x → P l → P (stronger x l)
stronger_is x l P p q = elim (implies_lit x l) as (λ b. P (cond b x l)) [ true ↦ p | false ↦ q ]

clash : false ≡ true → ⊥
clash e = cc

pub stronger_assoc : (x a b : Lit) → same_place x a ≡ true → same_place a b ≡ true → stronger (stronger x a) b ≡ stronger x (stronger a b)
stronger_assoc x a b xa ab = cases (implies_lit x a) (implies_lit a b) (implies_lit x b) refl refl refl
  where
    cases : (p q r : Bool) → implies_lit x a ≡ p → implies_lit a b ≡ q → implies_lit x b ≡ r → stronger (stronger x a) b ≡ stronger x (stronger a b)
    cases true true r ep eq er = simp (ep, eq, implies_trans x a b ep eq)
    cases true false r ep eq er = simp (ep, eq)
    cases false true r ep eq er = simp (ep, eq)
    cases false false true ep eq er = absurd (clash (sym ep ∙ implies_trans x b a er (implies_other a b ab eq)))
    cases false false false ep eq er = simp (ep, eq, er)
