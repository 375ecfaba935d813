-- Members of lists, and lists in which nothing stands twice.
use Rattle.std.proofs.Common.{◌≡◌, ◌↔◌, ℕ, zero, suc, ◌<◌, ◌≤◌, length, List, [], ◌∷◌, ◌++◌, map, Contains, Bool, true, false, cond, refl, sym, ap, subst, inl, inr, arith}
use Rattle.std.specs.Prelude.{slice_index, slice_index_or, nat_eq}
use Rattle.std.specs.List.{AllByRecursion}
use Rattle.std.proofs.lemmas.Bool.Decides.{nat_tests}
use Rattle.ground_model.specs.Members.{IsMember, IsListOf}

-- what stands at a place is a member
pub member_at : {X : Type 0} (xs : List X) (k : ℕ) (x : X) → k < length xs → slice_index_or xs k x ≡ x → IsMember xs x
member_at [] k x below is = absurd (omega arith)
member_at (y ∷ ys) zero x below is = inl (sym is)
member_at (y ∷ ys) (suc k) x below is = inr (member_at ys k x (omega arith) is)

-- and a member stands at some place
pub place_of : {X : Type 0} (xs : List X) (x : X) → IsMember xs x → Contains xs x
place_of [] x member = absurd member
place_of (y ∷ ys) x (inl is) = (0, omega arith, sym is)
place_of (y ∷ ys) x (inr member) = let k = place_of ys x member in (suc k.0, omega (arith, k.1), k.2)

-- lists with the same places have the same members
pub members_from : {X : Type 0} (xs ys : List X) → ((x : X) → Contains xs x ↔ Contains ys x) → IsListOf (IsMember ys) xs
members_from xs ys same x = (
  λ member. let k = (same x).0 (place_of xs x member) in member_at ys k.0 x k.1 k.2,
  λ member. let k = (same x).1 (place_of ys x member) in member_at xs k.0 x k.1 k.2,
)

-- what holds of every member holds of all
pub all_from_members : {X : Type 0} (P : X → Type 0) (xs : List X) → ((x : X) → IsMember xs x → P x) → AllByRecursion P xs
all_from_members P [] each = tt
all_from_members P (x ∷ xs) each = (each x (inl refl), all_from_members P xs (λ y member. each y (inr member)))

pub member_from_all : {X : Type 0} (P : X → Type 0) (xs : List X) → AllByRecursion P xs → (x : X) → IsMember xs x → P x
member_from_all P [] all x member = absurd member
member_from_all P (y ∷ ys) all x (inl is) = subst P (sym is) all.0
member_from_all P (y ∷ ys) all x (inr member) = member_from_all P ys all.1 x member

pub all_map : {X Y : Type 0} (f : X → Y) (P : Y → Type 0) (xs : List X) → AllByRecursion (λ x. P (f x)) xs → AllByRecursion P (map f xs)
all_map f P [] all = tt
all_map f P (x ∷ xs) all = (all.0, all_map f P xs all.1)

pub all_append : {X : Type 0} (P : X → Type 0) (xs ys : List X) → AllByRecursion P xs → AllByRecursion P ys → AllByRecursion P (xs ++ ys)
all_append P [] ys first second = second
all_append P (x ∷ xs) ys first second = (first.0, all_append P xs ys first.1 second)

pub all_front : {X : Type 0} (P : X → Type 0) (xs ys : List X) → AllByRecursion P (xs ++ ys) → AllByRecursion P xs
all_front P [] ys all = tt
all_front P (x ∷ xs) ys all = (all.0, all_front P xs ys all.1)

pub all_behind : {X : Type 0} (P : X → Type 0) (xs ys : List X) → AllByRecursion P (xs ++ ys) → AllByRecursion P ys
all_behind P [] ys all = all
all_behind P (x ∷ xs) ys all = all_behind P xs ys all.1

-- a member of a mapped list comes from a member
pub member_map : {X Y : Type 0} (f : X → Y) (xs : List X) (y : Y) → IsMember (map f xs) y → (x : X) × IsMember xs x × (y ≡ f x)
member_map f [] y member = absurd member
member_map f (x ∷ xs) y (inl is) = (x, inl refl, is)
member_map f (x ∷ xs) y (inr member) = let m = member_map f xs y member in (m.0, inr m.1, m.2)

pub map_member : {X Y : Type 0} (f : X → Y) (xs : List X) (x : X) → IsMember xs x → IsMember (map f xs) (f x)
map_member f [] x member = absurd member
map_member f (y ∷ ys) x (inl is) = inl (ap f is)
map_member f (y ∷ ys) x (inr member) = inr (map_member f ys x member)

pub map-append : {X Y : Type 0} (f : X → Y) (xs ys : List X) → map f (xs ++ ys) ≡ map f xs ++ map f ys
map-append f [] ys = refl
map-append f (x ∷ xs) ys = ap (λ l. f x ∷ l) (map-append f xs ys)

pub map-map : {X Y Z : Type 0} (f : X → Y) (g : Y → Z) (xs : List X) → map g (map f xs) ≡ map (λ x. g (f x)) xs
map-map f g [] = refl
map-map f g (x ∷ xs) = ap (λ l. g (f x) ∷ l) (map-map f g xs)

pub map-same : {X Y : Type 0} (f g : X → Y) (xs : List X) → AllByRecursion (λ x. f x ≡ g x) xs → map f xs ≡ map g xs
map-same f g [] same = refl
map-same f g (x ∷ xs) same = λ i. same.0 i ∷ map-same f g xs same.1 i

-- no member stands twice
abbrev pub IsApartList : List ℕ → Type 0
IsApartList [] = Unit {0}
IsApartList (x ∷ xs) = AllByRecursion (λ y. x ≡ y → ⊥) xs × IsApartList xs

-- the members but one number
abbrev pub without : ℕ → List ℕ → List ℕ
without n [] = []
without n (x ∷ xs) = cond (nat_eq x n) (without n xs) (x ∷ without n xs)

without-absent : (n : ℕ) (xs : List ℕ) → AllByRecursion (λ y. n ≡ y → ⊥) xs → length (without n xs) ≡ length xs
without-absent n [] absent = refl
without-absent n (x ∷ xs) absent = go (nat_eq x n) refl (without-absent n xs absent.1)
  where
    go : (t : Bool) → nat_eq x n ≡ t → length (without n xs) ≡ length xs
        → length (cond t (without n xs) (x ∷ without n xs)) ≡ suc (length xs)
    go true is rest = let same : n ≡ x = grind (arith, nat_tests) in absurd (absent.0 same)
    go false is rest = ap suc rest

length-without : (n : ℕ) (xs : List ℕ) → IsApartList xs → length xs ≤ suc (length (without n xs))
length-without n [] apart = omega arith
length-without n (x ∷ xs) apart = go (nat_eq x n) refl (length-without n xs apart.1)
  where
    go : (t : Bool) → nat_eq x n ≡ t → length xs ≤ suc (length (without n xs))
        → suc (length xs) ≤ suc (length (cond t (without n xs) (x ∷ without n xs)))
    go true is rest =
        let same : x ≡ n = grind (arith, nat_tests) in
        let absent : length (without n xs) ≡ length xs = without-absent n xs (subst (λ (m : ℕ). AllByRecursion (λ y. m ≡ y → ⊥) xs) same apart.0) in
        omega arith
    go false is rest = omega arith

all-without : (P : ℕ → Type 0) (n : ℕ) (xs : List ℕ) → AllByRecursion P xs → AllByRecursion P (without n xs)
all-without P n [] all = tt
all-without P n (x ∷ xs) all = go (nat_eq x n) (all-without P n xs all.1)
  where
    go : (t : Bool) → AllByRecursion P (without n xs) → AllByRecursion P (cond t (without n xs) (x ∷ without n xs))
    go true rest = rest
    go false rest = (all.0, rest)

apart-without : (n : ℕ) (xs : List ℕ) → IsApartList xs → IsApartList (without n xs)
apart-without n [] apart = tt
apart-without n (x ∷ xs) apart = go (nat_eq x n) (apart-without n xs apart.1)
  where
    go : (t : Bool) → IsApartList (without n xs) → IsApartList (cond t (without n xs) (x ∷ without n xs))
    go true rest = rest
    go false rest = (all-without (λ y. x ≡ y → ⊥) n xs apart.0, rest)

below-without : (n : ℕ) (xs : List ℕ) → AllByRecursion (λ x. x < suc n) xs → AllByRecursion (λ x. x < n) (without n xs)
below-without n [] below = tt
below-without n (x ∷ xs) below = go (nat_eq x n) refl (below-without n xs below.1)
  where
    go : (t : Bool) → nat_eq x n ≡ t → AllByRecursion (λ y. y < n) (without n xs)
        → AllByRecursion (λ y. y < n) (cond t (without n xs) (x ∷ without n xs))
    go true is rest = rest
    go false is rest =
        let here : x < suc n = below.0 in
        let less : x < n = grind (arith, nat_tests) in
        (less, rest)

-- different numbers below n are at most n
pub length-apart : (n : ℕ) (xs : List ℕ) → IsApartList xs → AllByRecursion (λ x. x < n) xs → length xs ≤ n
length-apart zero [] apart below = omega arith
length-apart zero (x ∷ xs) apart below = absurd (omega (arith, below.0))
length-apart (suc n) xs apart below =
    let rest : length (without n xs) ≤ n = length-apart n (without n xs) (apart-without n xs apart) (below-without n xs below) in
    let most : length xs ≤ suc (length (without n xs)) = length-without n xs apart in
    omega arith

index_member : (xs : List ℕ) (k : ℕ) → k < length xs → IsMember xs (slice_index xs k)
index_member [] k below = absurd (omega arith)
index_member (y ∷ ys) zero below = inl refl
index_member (y ∷ ys) (suc k) below = inr (index_member ys k (omega arith))

-- different members stand at different places
pub places_differ : (xs : List ℕ) → IsApartList xs → (i j : ℕ) → i < length xs → j < length xs → slice_index xs i ≡ slice_index xs j → i ≡ j
places_differ [] apart i j i_below j_below same = absurd (omega arith)
places_differ (x ∷ xs) apart zero zero i_below j_below same = refl
places_differ (x ∷ xs) apart zero (suc j) i_below j_below same =
    absurd (member_from_all (λ y. x ≡ y → ⊥) xs apart.0 (slice_index xs j) (index_member xs j (omega arith)) same)
places_differ (x ∷ xs) apart (suc i) zero i_below j_below same =
    absurd (member_from_all (λ y. x ≡ y → ⊥) xs apart.0 (slice_index xs i) (index_member xs i (omega arith)) (sym same))
places_differ (x ∷ xs) apart (suc i) (suc j) i_below j_below same =
    ap suc (places_differ xs apart.1 i j (omega arith) (omega arith) same)
