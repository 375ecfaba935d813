-- Members of lists, and tests of them.
use Rattle.std.proofs.Common.{◌≡◌, ◌<◌, ℕ, zero, suc, Bool, true, ◌==◌, ◌⊎◌, inl, inr, List, [], ◌∷◌, map, length, slice_index_or, Contains, refl, sym, ap, subst, true≢false, arith}
use Rattle.std.specs.List.{AllByRecursion, list_all, list_any}
use Rattle.std.proofs.lemmas.Bool.Decides.{nat_tests}
use Rattle.ground_model.specs.Members.{IsMember}
use Rattle.ground_model.proofs.Bools.{and_elim, and_intro, or_elim, or_left, or_right}

pub same_nat : (x y : ℕ) → x ≡ y → (x == y) ≡ true
same_nat x y e = grind (arith, nat_tests)

pub any_member : {X : Type 0} (test : X → Bool) (xs : List X) (x : X) → IsMember xs x → test x ≡ true → list_any test xs ≡ true
any_member test [] x m e = absurd m
any_member test (y ∷ ys) x (inl p) e = or_left (test y) (list_any test ys) (subst (λ z. test z ≡ true) p e)
any_member test (y ∷ ys) x (inr m) e = or_right (test y) (list_any test ys) (any_member test ys x m e)

pub member_any : {X : Type 0} (test : X → Bool) (xs : List X) → list_any test xs ≡ true → (x : X) × IsMember xs x × (test x ≡ true)
member_any test [] e = absurd (true≢false (sym e))
member_any {X} test (x ∷ xs) e = pick (or_elim (test x) (list_any test xs) e) (member_any test xs)
  where
    pick : (test x ≡ true) ⊎ (list_any test xs ≡ true) → (list_any test xs ≡ true → (y : X) × IsMember xs y × (test y ≡ true))
        → (y : X) × IsMember (x ∷ xs) y × (test y ≡ true)
    pick (inl here) rest = (x, inl refl, here)
    pick (inr later) rest = let r = rest later in (r.0, inr r.1, r.2)

pub all_member : {X : Type 0} (test : X → Bool) (xs : List X) (x : X) → list_all test xs ≡ true → IsMember xs x → test x ≡ true
all_member test [] x e m = absurd m
all_member test (y ∷ ys) x e (inl p) = subst (λ z. test z ≡ true) (sym p) (and_elim (test y) (list_all test ys) e).0
all_member test (y ∷ ys) x e (inr m) = all_member test ys x (and_elim (test y) (list_all test ys) e).1 m

pub all_from_members : {X : Type 0} (test : X → Bool) (xs : List X) → ((x : X) → IsMember xs x → test x ≡ true) → list_all test xs ≡ true
all_from_members test [] h = refl
all_from_members test (x ∷ xs) h =
    and_intro (test x) (list_all test xs) (h x (inl refl)) (all_from_members test xs (λ y m. h y (inr m)))

pub property_member : {X : Type 0} (P : X → Type 0) (xs : List X) (x : X) → AllByRecursion P xs → IsMember xs x → P x
property_member P [] x a m = absurd m
property_member P (y ∷ ys) x a (inl p) = subst P (sym p) a.0
property_member P (y ∷ ys) x a (inr m) = property_member P ys x a.1 m

pub property_from_members : {X : Type 0} (P : X → Type 0) (xs : List X) → ((x : X) → IsMember xs x → P x) → AllByRecursion P xs
property_from_members P [] h = tt
property_from_members P (x ∷ xs) h = (h x (inl refl), property_from_members P xs (λ y m. h y (inr m)))

pub property_map : {X : Type 0} (P Q : X → Type 0) → ((x : X) → P x → Q x) → (xs : List X) → AllByRecursion P xs → AllByRecursion Q xs
property_map P Q f [] a = tt
property_map P Q f (x ∷ xs) a = (f x a.0, property_map P Q f xs a.1)

pub member_map : {X Y : Type 0} (f : X → Y) (xs : List X) (x : X) → IsMember xs x → IsMember (map f xs) (f x)
member_map f [] x m = absurd m
member_map f (y ∷ ys) x (inl p) = inl (ap f p)
member_map f (y ∷ ys) x (inr m) = inr (member_map f ys x m)

pub map_member : {X Y : Type 0} (f : X → Y) (xs : List X) (y : Y) → IsMember (map f xs) y → (x : X) × IsMember xs x × (y ≡ f x)
map_member f [] y m = absurd m
map_member f (x ∷ xs) y (inl p) = (x, inl refl, p)
map_member f (x ∷ xs) y (inr m) = let r = map_member f xs y m in (r.0, inr r.1, r.2)

pub member_contains : {X : Type 0} (xs : List X) (x : X) → IsMember xs x → Contains xs x
member_contains [] x m = absurd m
member_contains (y ∷ ys) x (inl p) = (0, omega arith, sym p)
member_contains (y ∷ ys) x (inr m) =
    let c = member_contains ys x m in let below = c.1 in (suc c.0, omega arith, c.2)

pub contains_member : {X : Type 0} (xs : List X) (x : X) → Contains xs x → IsMember xs x
contains_member xs x c = at xs c.0 c.1 c.2
  where
    at : (ys : List _) (k : ℕ) → k < length ys → slice_index_or ys k x ≡ x → IsMember ys x
    at [] k below e = absurd (omega arith)
    at (y ∷ ys) zero below e = inl (sym e)
    at (y ∷ ys) (suc k) below e = inr (at ys k (omega arith) e)
