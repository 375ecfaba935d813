-- Searches for one that passes, and what they tell.
use Rattle.std.proofs.Common.{◌≡◌, ◌⊎◌, ◌↔◌, inl, inr, ℕ, zero, suc, ◌+◌, ◌<◌, Bool, true, false, ◌||◌, List, [], ◌∷◌, ◌++◌, map, take, length, slice_index_or, refl, sym, ap, ◌∙◌, subst, add-one, arith, true≢false}
use Rattle.std.specs.List.{flat_map, list_any}
use Rattle.ground_model.specs.Members.{IsMember}

pub any_at : {X Y : Type 0} (test : Y → Bool) (f : X → Y) (xs : List X) (i : ℕ) (x : X) → x ≡ slice_index_or xs i x → i < length xs → true ≡ test (f x) → true ≡ list_any test (map f xs)
any_at test f [] i x is b e = absurd (omega arith)
any_at test f (y ∷ ys) zero x is b e = subst (λ v. true ≡ (v || list_any test (map f ys))) (e ∙ ap (λ v. test (f v)) is) refl
any_at test f (y ∷ ys) (suc i) x is b e = or_true (test (f y)) (list_any test (map f ys)) (any_at test f ys i x is (omega arith) e)
  where
    or_true : (a b : Bool) → true ≡ b → true ≡ (a || b)
    or_true true b e = refl
    or_true false b e = e

pub member_at : {X : Type 0} (xs : List X) (i : ℕ) (x : X) → x ≡ slice_index_or xs i x → i < length xs → IsMember xs x
member_at [] i x is b = absurd (omega arith)
member_at (y ∷ ys) zero x is b = inl is
member_at (y ∷ ys) (suc i) x is b = inr (member_at ys i x is (omega arith))

pub member_taken : {X : Type 0} (xs : List X) (i : ℕ) (x y : X) → x ≡ slice_index_or xs i x → i < length xs → IsMember (take (suc i) xs) y → IsMember (take i xs) y ⊎ (y ≡ x)
member_taken [] i x y is b m = absurd (omega arith)
member_taken (z ∷ zs) zero x y is b (inl e) = inr (e ∙ sym is)
member_taken (z ∷ zs) zero x y is b (inr m) = absurd m
member_taken (z ∷ zs) (suc i) x y is b (inl e) = inl (inl e)
member_taken (z ∷ zs) (suc i) x y is b (inr m) = elim (member_taken zs i x y is (omega arith) m) [ inl k ↦ inl (inr k) | inr e ↦ inr e ]

pub member_pushed : {X : Type 0} (xs : List X) (x y : X) → IsMember (xs ++ x ∷ []) y → IsMember xs y ⊎ (y ≡ x)
member_pushed [] x y (inl e) = inr e
member_pushed [] x y (inr m) = absurd m
member_pushed (z ∷ zs) x y (inl e) = inl (inl e)
member_pushed (z ∷ zs) x y (inr m) = elim (member_pushed zs x y m) [ inl k ↦ inl (inr k) | inr e ↦ inr e ]

pub none_more : {X : Type 0} (P : X → Type 0) (xs : List X) (i : ℕ) (x : X) → x ≡ slice_index_or xs i x → i < length xs → ((y : X) × IsMember (take i xs) y × P y → ⊥) → (P x → ⊥)
    → (y : X) × IsMember (take (i + 1) xs) y × P y → ⊥
none_more P xs i x is b none here r =
    elim (member_taken xs i x r.0 is b (subst (λ n. IsMember (take n xs) r.0) (add-one i) r.1)) [
      | inl m ↦ none (r.0, m, r.2)
      | inr e ↦ here (subst P e r.2)
    ]

-- one is found
pub found_one : {X : Type 0} (P : X → Type 0) (xs : List X) (i : ℕ) (x : X) → x ≡ slice_index_or xs i x → i < length xs → P x → (true ≡ true) ↔ ((y : X) × IsMember xs y × P y)
found_one P xs i x is b p = ((λ e. (x, member_at xs i x is b, p)), (λ r. refl))

pub not_told : (b : Bool) (P : Type 0) → (b ≡ true) ↔ P → b ≡ false → P → ⊥
not_told b P h e p = true≢false (sym (h.1 p) ∙ e)

-- MEMBERS

pub member_append : {X : Type 0} (xs ys : List X) (x : X) → IsMember (xs ++ ys) x → IsMember xs x ⊎ IsMember ys x
member_append [] ys x h = inr h
member_append (z ∷ zs) ys x h =
    elim h [ inl e ↦ inl (inl e) | inr k ↦ elim (member_append zs ys x k) [ inl m ↦ inl (inr m) | inr m ↦ inr m ] ]

pub member_left : {X : Type 0} (xs ys : List X) (x : X) → IsMember xs x → IsMember (xs ++ ys) x
member_left [] ys x h = absurd h
member_left (z ∷ zs) ys x h = elim h [ inl e ↦ inl e | inr k ↦ inr (member_left zs ys x k) ]

pub member_right : {X : Type 0} (xs ys : List X) (x : X) → IsMember ys x → IsMember (xs ++ ys) x
member_right [] ys x h = h
member_right (z ∷ zs) ys x h = inr (member_right zs ys x h)

pub member_flat : {X Y : Type 0} (f : X → List Y) (xs : List X) (y : Y) → IsMember (flat_map f xs) y → (x : X) × IsMember xs x × IsMember (f x) y
member_flat f [] y h = absurd h
member_flat f (x ∷ xs) y h =
    elim (member_append (f x) (flat_map f xs) y h) [ inl m ↦ (x, inl refl, m) | inr m ↦ (let k = member_flat f xs y m in (k.0, inr k.1, k.2)) ]

pub flat_member : {X Y : Type 0} (f : X → List Y) (xs : List X) (x : X) (y : Y) → IsMember xs x → IsMember (f x) y → IsMember (flat_map f xs) y
flat_member f [] x y m h = absurd m
flat_member f (z ∷ zs) x y (inl e) h = member_left (f z) (flat_map f zs) y (subst (λ v. IsMember (f v) y) e h)
flat_member f (z ∷ zs) x y (inr m) h = member_right (f z) (flat_map f zs) y (flat_member f zs x y m h)
