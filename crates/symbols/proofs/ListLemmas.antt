-- Lists whose elements differ, and places in lists.
use Rattle.std.proofs.Common.{◌≡◌, ℕ, zero, suc, ◌<◌, ◌≤◌, List, [], ◌∷◌, ◌++◌, length, map, get_or, Option, Some, None, Bool, true, false, true≢false, option_map, refl, sym, ap, ◌∙◌, subst, arith, inl, inr, slice_get}
use Rattle.std.specs.List.{AllByRecursion, AllZip, IsDistinct, list_any, position}
use Rattle.std.proofs.lemmas.Bool.Decides.{leb_tells}
use Rattle.std.proofs.lemmas.List.{get_or_append_left}
use Rattle.std.proofs.lemmas.List.Folds.{list_any_at}
use Rattle.std.proofs.lemmas.List.Quantifiers.{position-Some}
use Rattle.std.proofs.lemmas.Map.Keys.{IsDistinct-head, IsDistinct-tail}
use Rattle.std.proofs.lemmas.Option.{slice_get-get_or, slice_get_within, slice_get-map, get_or_from_slice_get}
use Rattle.std.proofs.Common.{length-append}
use Rattle.symbols.specs.inner.Layers.{IsEachOnce, IsBegun, list_at}

pub AllByRecursion-push : {X : Type 0} (P : X → Type 0) (xs : List X) (x : X) → AllByRecursion P xs → P x → AllByRecursion P (xs ++ x ∷ [])
AllByRecursion-push P [] x all p = (p, tt)
AllByRecursion-push P (y ∷ xs) x all p = (all.0, AllByRecursion-push P xs x all.1 p)

pub AllByRecursion-map : {X : Type 0} (P Q : X → Type 0) (more : (x : X) → P x → Q x) (xs : List X) → AllByRecursion P xs → AllByRecursion Q xs
AllByRecursion-map P Q more [] all = tt
AllByRecursion-map P Q more (x ∷ xs) all = (more x all.0, AllByRecursion-map P Q more xs all.1)

pub at_place : {X : Type 0} (P : X → Type 0) (xs : List X) (k : ℕ) (x : X) → AllByRecursion P xs → slice_get xs k ≡ Some x → P x
at_place {X} P [] k x all e = absurd (omega (arith, slice_get_within {A = X} [] k x e))
at_place P (y ∷ xs) zero x all e = let same : y ≡ x = cc in subst P same all.0
at_place P (y ∷ xs) (suc k) x all e = at_place P xs k x all.1 e

-- a later element of a distinct list is another
apart : {X : Type 0} (eq : X → X → Bool) (xs : List X) (i j : ℕ) (a b : X) → IsDistinct eq xs → i < j → slice_get xs i ≡ Some a → slice_get xs j ≡ Some b → eq a b ≡ false
apart {X} eq [] i j a b d lt e f = absurd (omega (arith, slice_get_within {A = X} [] i a e))
apart eq (x ∷ xs) zero zero a b d lt e f = absurd (omega arith)
apart eq (x ∷ xs) zero (suc j) a b d lt e f =
    let same : x ≡ a = cc in
    subst (λ z. eq z b ≡ false) same (at_place (λ y. eq x y ≡ false) xs j b (IsDistinct-head eq x xs d) f)
apart eq (x ∷ xs) (suc i) zero a b d lt e f = absurd (omega arith)
apart eq (x ∷ xs) (suc i) (suc j) a b d lt e f = apart eq xs i j a b (IsDistinct-tail eq x xs d) (omega arith) e f

-- two places whose elements are equal by `==` are one
one_place : {X : Type 0} (eq : X → X → Bool) (xs : List X) (a b : ℕ) (x y : X) → IsDistinct eq xs → slice_get xs a ≡ Some x → slice_get xs b ≡ Some y → eq x y ≡ true → eq y x ≡ true → a ≡ b
one_place eq xs a b x y distinct e f xy yx =
    elim (leb_tells a b) [
      | inl le ↦ elim (leb_tells b a) [
        | inl ge ↦ omega (arith, le.1, ge.1)
        | inr lt ↦ absurd (true≢false (sym xy ∙ apart eq xs a b x y distinct lt.1 e f))
      ]
      | inr lt ↦ absurd (true≢false (sym yx ∙ apart eq xs b a y x distinct lt.1 f e))
    ]

-- an element of a mapped list comes from one of the list
pub map-found : {X Y : Type 0} (f : X → Y) (xs : List X) (k : ℕ) (y : Y) → slice_get (map f xs) k ≡ Some y → (x : X) × (slice_get xs k ≡ Some x) × (f x ≡ y)
map-found {X} {Y} f [] k y e = absurd (omega (arith, slice_get_within {A = Y} [] k y e))
map-found f (x ∷ xs) zero y e = let same : f x ≡ y = cc in (x, refl, same)
map-found f (x ∷ xs) (suc k) y e = map-found f xs k y e

-- a distinct list whose elements are told apart by what they say says each thing once
pub IsEachOnce-map : {X Y : Type 0} (eq : X → X → Bool) (f : X → Y) (tests : (a b : X) → f a ≡ f b → eq a b ≡ true) (xs : List X) → IsDistinct eq xs → IsEachOnce (map f xs)
IsEachOnce-map eq f tests xs distinct a b y ea eb =
    let x = map-found f xs a y ea in
    let z = map-found f xs b y eb in
    one_place eq xs a b x.0 z.0 distinct x.1 z.1 (tests x.0 z.0 (x.2 ∙ sym z.2)) (tests z.0 x.0 (z.2 ∙ sym x.2))

-- a distinct list has each element once
pub IsEachOnce-distinct : {X : Type 0} (eq : X → X → Bool) (tests : (a : X) → eq a a ≡ true) (xs : List X) → IsDistinct eq xs → IsEachOnce xs
IsEachOnce-distinct eq tests xs distinct a b x ea eb = one_place eq xs a b x x distinct ea eb (tests x) (tests x)

-- what a test finds says what it asks
pub found_at : {X Y : Type 0} (test : X → Bool) (f : X → Y) (q : Y) (says : (x : X) → test x ≡ true → f x ≡ q) (xs : List X) (k : ℕ) → position test xs ≡ Some k → slice_get (map f xs) k ≡ Some q
found_at test f q says [] k e = cc
found_at test f q says (x ∷ xs) k e =
    let r = position-Some test (x ∷ xs) k x e in
    slice_get-map f (x ∷ xs) k ∙ ap (option_map f) (slice_get-get_or (x ∷ xs) k x r.0) ∙ ap Some (says (get_or (x ∷ xs) k x) r.1)

-- where a test finds nothing, nothing says what it asks
pub absent_at : {X Y : Type 0} (test : X → Bool) (f : X → Y) (q : Y) (xs : List X) (k : ℕ) (tests : (x : X) → slice_get xs k ≡ Some x → f x ≡ q → test x ≡ true) → list_any test xs ≡ false → slice_get (map f xs) k ≡ Some q → ⊥
absent_at test f q xs k tests none e =
    let x = map-found f xs k q e in
    true≢false (sym (list_any_at test xs k x.0 (slice_get_within xs k x.0 x.1) (ap test (get_or_from_slice_get xs k x.0 x.0 x.1) ∙ tests x.0 x.1 x.2)) ∙ none)

-- a place keeps its list as more come behind
pub list_at-begun : (old new : List (List ℕ)) (place : ℕ) → IsBegun old new → place < length old → list_at new place ≡ list_at old place
list_at-begun old new place begun within = ap (λ l. list_at l place) begun.1 ∙ get_or_append_left old begun.0 [] place within

pub length-begun : {X : Type 0} (old new : List X) → IsBegun old new → length old ≤ length new
length-begun old new begun = omega (arith, ap length begun.1, length-append old begun.0)

pub list_at-place : (lists : List (List ℕ)) (place : ℕ) (list : List ℕ) → slice_get lists place ≡ Some list → list_at lists place ≡ list
list_at-place lists place list e = get_or_from_slice_get lists place list [] e

-- places with one list are one
pub one_list : (lists : List (List ℕ)) (a b : ℕ) → IsEachOnce lists → a < length lists → b < length lists → list_at lists a ≡ list_at lists b → a ≡ b
one_list lists a b each p q e = each a b (list_at lists a) (slice_get-get_or lists a [] p) (slice_get-get_or lists b [] q ∙ ap Some (sym e))

-- copies say what the elements say
pub map-copied : {X Y : Type 0} (R : X → X → Type 0) (f : X → Y) (same : (x y : X) → R x y → f y ≡ f x) (xs ys : List X) → AllZip R xs ys → map f ys ≡ map f xs
map-copied R f same [] [] h = refl
map-copied R f same [] (y ∷ ys) h = absurd h
map-copied R f same (x ∷ xs) [] h = absurd h
map-copied R f same (x ∷ xs) (y ∷ ys) h =
    let first : f y ≡ f x = same x y h.0 in
    let others : map f ys ≡ map f xs = map-copied R f same xs ys h.1 in
    (λ i. first i ∷ others i)
