-- What holds of each literal in a list, by cases on the list and by the literals that it contains.
use Rattle.std.proofs.Common.{◌≡◌, ℕ, zero, suc, ◌<◌, ◌||◌, Bool, true, false, List, [], ◌∷◌, length, get_or, refl, sym, ◌∙◌, ap, subst, arith}
use Rattle.std.specs.List.{AllByRecursion, Contains}
use Rattle.std.proofs.lemmas.List.Elements.{All-from_recursion, recursion_from_All, All-contains, All-contains_itself, Contains-get_or}
use Rattle.literals.specs.declared.lit.Lit.{Lit}
use Rattle.literals.specs.Lits.{same_lit}
use Rattle.literals.specs.Nogoods.{has_lit}
use Rattle.literals.proofs.LitLaws.{same_refl, same_lit-equal}

clash : {X : Type 0} → true ≡ false → X
clash h = cc

-- what holds of each literal of a list holds of one that it contains
pub holds_contained : (P : Lit → Type 0) (xs : List Lit) (l : Lit) → AllByRecursion P xs → Contains xs l → P l
holds_contained P xs l a c = All-contains P xs l (All-from_recursion P xs a) c

-- what holds of each literal that a list contains holds of the list
pub each_contained : (P : Lit → Type 0) (xs : List Lit) → ((l : Lit) → Contains xs l → P l) → AllByRecursion P xs
each_contained P xs h = recursion_from_All P xs (λ k d lt. h (get_or xs k d) (Contains-get_or xs k d lt))

-- a list contains each of its literals
pub each_own : (xs : List Lit) → AllByRecursion (Contains xs) xs
each_own xs = recursion_from_All (Contains xs) xs (All-contains_itself xs)

-- what holds of each literal of a list holds of one in it
pub holds_of : (P : Lit → Type 0) (xs : List Lit) (l : Lit) → AllByRecursion P xs → has_lit xs l ≡ true → P l
holds_of P [] l a h = clash (sym h)
holds_of P (x ∷ xs) l a h = cases (same_lit x l) refl h (holds_of P xs l a.1)
  where
    cases : (b : Bool) → same_lit x l ≡ b → (b || has_lit xs l) ≡ true → (has_lit xs l ≡ true → P l) → P l
    cases true e f rest = subst P (same_lit-equal x l e) a.0
    cases false e f rest = rest f

-- the test whether a literal is in a list says that the list contains it
pub contains-has : (xs : List Lit) (l : Lit) → has_lit xs l ≡ true → Contains xs l
contains-has xs l h = holds_of (Contains xs) xs l (each_own xs) h

pub has-contains : (xs : List Lit) (l : Lit) → Contains xs l → has_lit xs l ≡ true
has-contains xs l c = at xs c.0 c.1 c.2
  where
    at : (ys : List Lit) (k : ℕ) → k < length ys → get_or ys k l ≡ l → has_lit ys l ≡ true
    at [] k h e = absurd (omega arith)
    at (y ∷ ys) zero h e = ap (λ b. b || has_lit ys l) (ap (λ z. same_lit z l) e ∙ same_refl l)
    at (y ∷ ys) (suc k) h e = later (same_lit y l) (at ys k (omega arith) e)
      where
        later : (b : Bool) → has_lit ys l ≡ true → (b || has_lit ys l) ≡ true
        later true g = refl
        later false g = g
