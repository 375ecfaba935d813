-- Members of lists and first places.
use Rattle.std.proofs.Common.{◌≡◌, ◌⊎◌, inl, inr, ℕ, zero, suc, ◌<◌, List, [], ◌∷◌, ◌++◌, Some, slice_get, refl, ap, arith}
use Rattle.std.specs.List.{flat_map}
use Rattle.ground_model.specs.Members.{IsMember}

pub member_got : {X : Type 0} (xs : List X) (i : ℕ) (x : X) → slice_get xs i ≡ Some x → IsMember xs x
member_got [] i x h = absurd cc
member_got (y ∷ ys) zero x h = let e : x ≡ y = cc in inl e
member_got (y ∷ ys) (suc i) x h = inr (member_got ys i x h)

pub member_append : {X : Type 0} (xs ys : List X) (x : X) → IsMember (xs ++ ys) x → IsMember xs x ⊎ IsMember ys x
member_append [] ys x h = inr h
member_append (z ∷ zs) ys x h =
    elim h [ inl e ↦ inl (inl e) | inr k ↦ elim (member_append zs ys x k) [ inl m ↦ inl (inr m) | inr m ↦ inr m ] ]

pub member_left : {X : Type 0} (xs ys : List X) (x : X) → IsMember xs x → IsMember (xs ++ ys) x
member_left [] ys x h = absurd h
member_left (z ∷ zs) ys x h = elim h [ inl e ↦ inl e | inr k ↦ inr (member_left zs ys x k) ]

pub member_right : {X : Type 0} (xs ys : List X) (x : X) → IsMember ys x → IsMember (xs ++ ys) x
member_right [] ys x h = h
member_right (z ∷ zs) ys x h = inr (member_right zs ys x h)

pub member_flat : {X Y : Type 0} (f : X → List Y) (xs : List X) (y : Y) → IsMember (flat_map f xs) y → (x : X) × IsMember xs x × IsMember (f x) y
member_flat f [] y h = absurd h
member_flat f (x ∷ xs) y h =
    elim (member_append (f x) (flat_map f xs) y h) [ inl m ↦ (x, inl refl, m) | inr m ↦ (let k = member_flat f xs y m in (k.0, inr k.1, k.2)) ]

pub compared : (a b : ℕ) → (a < b) ⊎ ((a ≡ b) ⊎ (b < a))
compared zero zero = inr (inl refl)
compared zero (suc b) = inl (omega arith)
compared (suc a) zero = inr (inr (omega arith))
compared (suc a) (suc b) = elim (compared a b) [ inl h ↦ inl (omega arith) | inr k ↦ elim k [ inl e ↦ inr (inl (ap suc e)) | inr h ↦ inr (inr (omega arith)) ] ]
