-- Sorted lists with the same literals are one list.
use Rattle.std.proofs.Common.{◌≡◌, Bool, true, false, ◌||◌, List, [], ◌∷◌, refl, sym, ◌∙◌, ap}
use Rattle.literals.specs.declared.lit.Lit.{Lit}
use Rattle.literals.specs.Lits.{same_lit}
use Rattle.literals.specs.Nogoods.{is_before, Rises, has_lit}
use Rattle.literals.proofs.OrderLaws.{before_not}
use Rattle.literals.proofs.LitLaws.{same_refl, same_lit-equal}
use Rattle.literals.proofs.Puts.{Behind}

shut : {X : Type 0} → true ≡ false → X
shut e = cc

-- what is in a list that stands behind a literal is behind it
has_behind : (x : Lit) (xs : List Lit) (l : Lit) → Behind x xs → has_lit xs l ≡ true → is_before x l ≡ true
has_behind x [] l h e = shut (sym e)
has_behind x (y ∷ ys) l h e = cases (same_lit y l) refl e (has_behind x ys l h.1)
  where
    cases : (b : Bool) → same_lit y l ≡ b → (b || has_lit ys l) ≡ true → (has_lit ys l ≡ true → is_before x l ≡ true) → is_before x l ≡ true
    cases true s f rest = ap (λ z. is_before x z) (sym (same_lit-equal y l s)) ∙ h.0
    cases false s f rest = rest f

has_first : (x : Lit) (xs : List Lit) → has_lit (x ∷ xs) x ≡ true
has_first x xs = rw (same_refl x) refl

has_more : (x : Lit) (xs : List Lit) (l : Lit) → has_lit xs l ≡ true → has_lit (x ∷ xs) l ≡ true
has_more x xs l h = cases (same_lit x l)
  where
    cases : (b : Bool) → (b || has_lit xs l) ≡ true
    cases true = refl
    cases false = h

-- the first of two lists with the same literals are one
first_same : (x : Lit) (xs : List Lit) (y : Lit) (ys : List Lit) → Behind x xs → Behind y ys → has_lit (y ∷ ys) x ≡ true → has_lit (x ∷ xs) y ≡ true → x ≡ y
first_same x xs y ys hx hy e f = cases (same_lit y x) (same_lit x y) refl refl e f
  where
    cases : (a b : Bool) → same_lit y x ≡ a → same_lit x y ≡ b → (a || has_lit ys x) ≡ true → (b || has_lit xs y) ≡ true → x ≡ y
    cases true b s t e f = sym (same_lit-equal y x s)
    cases false true s t e f = same_lit-equal x y t
    cases false false s t e f = shut (sym (has_behind y ys x hy e) ∙ before_not x y (has_behind x xs y hx f))

-- what follows the first has the same literals too
rest_has : (x : Lit) (xs : List Lit) (y : Lit) (ys : List Lit) → Behind x xs → x ≡ y → ((l : Lit) → has_lit (x ∷ xs) l ≡ true → has_lit (y ∷ ys) l ≡ true) → (l : Lit) → has_lit xs l ≡ true → has_lit ys l ≡ true
rest_has x xs y ys h same f l e = cases (same_lit y l) refl (f l (has_more x xs l e))
  where
    cases : (b : Bool) → same_lit y l ≡ b → (b || has_lit ys l) ≡ true → has_lit ys l ≡ true
    cases true s g =
        let one : x ≡ l = same ∙ same_lit-equal y l s in
        let behind : is_before x x ≡ true = ap (λ z. is_before x z) one ∙ has_behind x xs l h e in
        shut (sym behind ∙ before_not x x behind)
    cases false s g = g

pub same_nogood : (xs ys : List Lit) → Rises xs → Rises ys → ((l : Lit) → has_lit xs l ≡ true → has_lit ys l ≡ true) → ((l : Lit) → has_lit ys l ≡ true → has_lit xs l ≡ true) → xs ≡ ys
same_nogood [] [] r s f g = refl
same_nogood [] (y ∷ ys) r s f g = shut (sym (g y (has_first y ys)))
same_nogood (x ∷ xs) [] r s f g = shut (sym (f x (has_first x xs)))
same_nogood (x ∷ xs) (y ∷ ys) r s f g =
    let first : x ≡ y = first_same x xs y ys r.0 s.0 (f x (has_first x xs)) (g y (has_first y ys)) in
    let rest : xs ≡ ys = same_nogood xs ys r.1 s.1 (rest_has x xs y ys r.0 first f) (rest_has y ys x xs s.0 (sym first) g) in
    ap (λ z. z ∷ xs) first ∙ ap (λ zs. y ∷ zs) rest
