-- Lists side by side, and their places.
use Rattle.std.proofs.Common.{◌≡◌, ◌⊎◌, inl, inr, ℕ, zero, suc, ◌+◌, ◌<◌, List, [], ◌∷◌, ◌++◌, map, take, length, Some, slice_get, slice_index_or, refl, sym, ap, ◌∙◌, subst, append_assoc, append-nil, add-one, arith}
use Rattle.std.specs.List.{AllZip, flat_map}
use Rattle.ground_model.specs.Members.{IsMember}

pub zip_push : {X Y : Type 0} (R : X → Y → Type 0) (xs : List X) (ys : List Y) (x : X) (y : Y) → AllZip R xs ys → R x y → AllZip R (xs ++ x ∷ []) (ys ++ y ∷ [])
zip_push R [] [] x y h r = (r, tt)
zip_push R [] (z ∷ ys) x y h r = absurd h
zip_push R (z ∷ xs) [] x y h r = absurd h
zip_push R (z ∷ xs) (w ∷ ys) x y h r = (h.0, zip_push R xs ys x y h.1 r)

pub zip_left : {X Y : Type 0} (R : X → Y → Type 0) (xs : List X) (ys : List Y) → AllZip R xs ys → (i : ℕ) (x : X) → slice_get xs i ≡ Some x → (y : Y) × (slice_get ys i ≡ Some y) × R x y
zip_left R [] ys h i x e = absurd cc
zip_left R (z ∷ xs) [] h i x e = absurd h
zip_left R (z ∷ xs) (y ∷ ys) h zero x e = let s : z ≡ x = cc in (y, refl, subst (λ v. R v y) s h.0)
zip_left R (z ∷ xs) (y ∷ ys) h (suc i) x e = zip_left R xs ys h.1 i x e

pub zip_right : {X Y : Type 0} (R : X → Y → Type 0) (xs : List X) (ys : List Y) → AllZip R xs ys → (i : ℕ) (y : Y) → slice_get ys i ≡ Some y → (x : X) × (slice_get xs i ≡ Some x) × R x y
zip_right R xs [] h i y e = absurd cc
zip_right R [] (z ∷ ys) h i y e = absurd h
zip_right R (x ∷ xs) (z ∷ ys) h zero y e = let s : z ≡ y = cc in (x, refl, subst (λ v. R x v) s h.0)
zip_right R (x ∷ xs) (z ∷ ys) h (suc i) y e = zip_right R xs ys h.1 i y e

pub member_place : {X : Type 0} (xs : List X) (x : X) → IsMember xs x → (i : ℕ) × (slice_get xs i ≡ Some x)
member_place [] x m = absurd m
member_place (y ∷ ys) x (inl e) = (0, ap Some (sym e))
member_place (y ∷ ys) x (inr m) = let r = member_place ys x m in (suc r.0, r.1)

pub place_member : {X : Type 0} (xs : List X) (i : ℕ) (x : X) → slice_get xs i ≡ Some x → IsMember xs x
place_member [] i x h = absurd cc
place_member (y ∷ ys) zero x h = let e : x ≡ y = cc in inl e
place_member (y ∷ ys) (suc i) x h = inr (place_member ys i x h)

pub flat_append : {X Y : Type 0} (f : X → List Y) (xs ys : List X) → flat_map f (xs ++ ys) ≡ flat_map f xs ++ flat_map f ys
flat_append f [] ys = refl
flat_append f (x ∷ xs) ys = ap (λ v. f x ++ v) (flat_append f xs ys) ∙ sym (append_assoc (f x) (flat_map f xs) (flat_map f ys))

pub flat_one : {X Y : Type 0} (f : X → List Y) (x : X) → flat_map f (x ∷ []) ≡ f x
flat_one f x = append-nil (f x)

pub map_append : {X Y : Type 0} (f : X → Y) (xs ys : List X) → map f (xs ++ ys) ≡ map f xs ++ map f ys
map_append f [] ys = refl
map_append f (x ∷ xs) ys = ap (λ v. f x ∷ v) (map_append f xs ys)

taken_suc : {X : Type 0} (xs : List X) (i : ℕ) (x : X) → x ≡ slice_index_or xs i x → i < length xs → take (suc i) xs ≡ take i xs ++ x ∷ []
taken_suc [] i x is b = absurd (omega arith)
taken_suc (y ∷ ys) zero x is b = ap (λ v. v ∷ []) (sym is)
taken_suc (y ∷ ys) (suc i) x is b = ap (λ v. y ∷ v) (taken_suc ys i x is (omega arith))

pub taken_more : {X : Type 0} (xs : List X) (i : ℕ) (x : X) → x ≡ slice_index_or xs i x → i < length xs → take (i + 1) xs ≡ take i xs ++ x ∷ []
taken_more xs i x is b = rw add-one (taken_suc xs i x is b)

pub member_append : {X : Type 0} (xs ys : List X) (x : X) → IsMember (xs ++ ys) x → IsMember xs x ⊎ IsMember ys x
member_append [] ys x h = inr h
member_append (z ∷ zs) ys x h =
    elim h [ inl e ↦ inl (inl e) | inr k ↦ elim (member_append zs ys x k) [ inl m ↦ inl (inr m) | inr m ↦ inr m ] ]

pub member_left : {X : Type 0} (xs ys : List X) (x : X) → IsMember xs x → IsMember (xs ++ ys) x
member_left [] ys x h = absurd h
member_left (z ∷ zs) ys x h = elim h [ inl e ↦ inl e | inr k ↦ inr (member_left zs ys x k) ]

pub member_right : {X : Type 0} (xs ys : List X) (x : X) → IsMember ys x → IsMember (xs ++ ys) x
member_right [] ys x h = h
member_right (z ∷ zs) ys x h = inr (member_right zs ys x h)

pub flat_member : {X Y : Type 0} (f : X → List Y) (xs : List X) (x : X) (y : Y) → IsMember xs x → IsMember (f x) y → IsMember (flat_map f xs) y
flat_member f [] x y m h = absurd m
flat_member f (z ∷ zs) x y (inl e) h = member_left (f z) (flat_map f zs) y (subst (λ v. IsMember (f v) y) e h)
flat_member f (z ∷ zs) x y (inr m) h = member_right (f z) (flat_map f zs) y (flat_member f zs x y m h)
