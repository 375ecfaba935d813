-- Members by number, and rules that 0 stands apart in.
use Rattle.std.proofs.Common.{◌≡◌, ◌<◌, ◌≤◌, ◌-◌, ℕ, zero, suc, true, false, nat_eq, ℤ, List, [], ◌∷◌, length, Option, None, Some, get_or, refl, sym, subst, true≢false, arith}
use Rattle.std.specs.Prelude.{slice_get}
use Rattle.std.proofs.lemmas.Bool.Decides.{nat_tests}
use Rattle.std.specs.List.{AllByRecursion}
use Rattle.literals.specs.declared.lit.Lit.{Lit}
use Rattle.literals.specs.declared.reason.Step.TheVariants as s
use Rattle.ground_model.specs.declared.program.GroundProgram.{GroundProgram}
use Rattle.linear_normal.specs.declared.numbered.Numbered.{Numbered}
use Rattle.linear_normal.specs.Truth.{numbered_in}
use Rattle.linear_normal.specs.Steps.{is_shown, is_sum, is_hole, is_one_of}

get_none : {X : Type 0} (xs : List X) (n : ℕ) → length xs ≤ n → slice_get xs n ≡ None
get_none [] n h = refl
get_none (x ∷ xs) zero h = absurd (omega (arith, h))
get_none (x ∷ xs) (suc n) h = get_none xs n (omega (arith, h))

get_some : {X : Type 0} (xs : List X) (n : ℕ) (d : X) → n < length xs → slice_get xs n ≡ Some (get_or xs n d)
get_some [] n d h = absurd (omega (arith, h))
get_some (x ∷ xs) zero d h = refl
get_some (x ∷ xs) (suc n) d h = get_some xs n d (omega (arith, h))

pub numbered_zero : {X : Type 0} (xs : List X) (n : ℕ) → is_one_of (length xs) n ≡ false → numbered_in xs n ≡ None
numbered_zero xs zero h = refl
numbered_zero xs (suc n) h = get_none xs n (grind (arith, nat_tests, h))

pub numbered_above : {X : Type 0} (xs : List X) (n : ℕ) (d : X) → is_one_of (length xs) n ≡ true → numbered_in xs n ≡ Some (get_or xs (n - 1) d)
numbered_above xs zero d h = absurd (true≢false (sym h))
numbered_above xs (suc n) d h = let e : suc n - 1 ≡ n = omega arith in rw e (get_some xs n d (grind (arith, nat_tests, h)))

get_has : {X : Type 0} (P : X → Type 0) (xs : List X) (n : ℕ) (x : X) → AllByRecursion P xs → slice_get xs n ≡ Some x → P x
get_has P [] n x all e = absurd (cc)
get_has P (y ∷ ys) zero x all e = let same : y ≡ x = cc in subst P same all.0
get_has P (y ∷ ys) (suc n) x all e = get_has P ys n x all.1 e

pub numbered_has : {X : Type 0} (P : X → Type 0) (xs : List X) (n : ℕ) (x : X) → AllByRecursion P xs → numbered_in xs n ≡ Some x → P x
numbered_has P xs zero x all e = absurd (cc)
numbered_has P xs (suc n) x all e = get_has P xs n x all e

pub sum_above : (program : GroundProgram) (numbered : Numbered) (cost : Option ℤ) (lits : List Lit) (n : ℕ) → nat_eq n 0 ≡ false
    → is_shown program numbered cost lits (s.Sum n) ≡ is_sum program.ends lits n (numbered_in numbered.constraints n)
sum_above program numbered cost lits zero h = absurd (true≢false h)
sum_above program numbered cost lits (suc n) h = refl

pub hole_above : (program : GroundProgram) (numbered : Numbered) (cost : Option ℤ) (lits : List Lit) (n : ℕ) → nat_eq n 0 ≡ false
    → is_shown program numbered cost lits (s.Hole n) ≡ is_hole program.ends lits n (numbered_in numbered.constraints n)
hole_above program numbered cost lits zero h = absurd (true≢false h)
hole_above program numbered cost lits (suc n) h = refl
