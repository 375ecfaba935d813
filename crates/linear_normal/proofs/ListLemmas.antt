-- Lists of nogoods and filtered lists.
use Rattle.std.proofs.Common.{◌≡◌, ℕ, zero, suc, ◌+◌, ◌<◌, ◌≤◌, Bool, true, false, cond, ◌==◌, ◌⊎◌, inl, inr, List, [], ◌∷◌, ◌++◌, map, filter, length, flat_map, refl, sym, ◌∙◌, ap, subst, true≢false, eqb-true, arith}
use Rattle.std.specs.List.{AllByRecursion, list_any, range_with_len}
use Rattle.ground_model.specs.Members.{IsMember}
use Rattle.ground_model.specs.Answers.{IsNumbered}
use Rattle.ground_model.proofs.Bools.{bool_cases}
use Rattle.ground_model.proofs.MemberLemmas.{same_nat, any_member, member_any}

pub all_append : {X : Type 0} (P : X → Type 0) (xs ys : List X) → AllByRecursion P xs → AllByRecursion P ys → AllByRecursion P (xs ++ ys)
all_append P [] ys p q = q
all_append P (x ∷ xs) ys p q = (p.0, all_append P xs ys p.1 q)

pub all_flat : {X Y : Type 0} (P : Y → Type 0) (f : X → List Y) (xs : List X) → ((x : X) → IsMember xs x → AllByRecursion P (f x)) → AllByRecursion P (flat_map f xs)
all_flat P f [] h = tt
all_flat P f (x ∷ xs) h = all_append P (f x) (flat_map f xs) (h x (inl refl)) (all_flat P f xs (λ y m. h y (inr m)))

pub all_map : {X Y : Type 0} (P : Y → Type 0) (f : X → Y) (xs : List X) → ((x : X) → IsMember xs x → P (f x)) → AllByRecursion P (map f xs)
all_map P f [] h = tt
all_map P f (x ∷ xs) h = (h x (inl refl), all_map P f xs (λ y m. h y (inr m)))

pub filter_member : {X : Type 0} (p : X → Bool) (xs : List X) (x : X) → IsMember (filter p xs) x → IsMember xs x × (p x ≡ true)
filter_member {X} p [] x m = absurd m
filter_member {X} p (y ∷ xs) x m = go (p y) refl m (filter_member p xs x)
  where
    go : (b : Bool) → p y ≡ b → IsMember (cond b (y ∷ filter p xs) (filter p xs)) x → (IsMember (filter p xs) x → IsMember xs x × (p x ≡ true)) → IsMember (y ∷ xs) x × (p x ≡ true)
    go true is (inl e) rec = (inl e, subst (λ z. p z ≡ true) (sym e) is)
    go true is (inr k) rec = let r = rec k in (inr r.0, r.1)
    go false is k rec = let r = rec k in (inr r.0, r.1)

pub member_filter : {X : Type 0} (p : X → Bool) (xs : List X) (x : X) → IsMember xs x → p x ≡ true → IsMember (filter p xs) x
member_filter p [] x m e = absurd m
member_filter {X} p (y ∷ xs) x m e = go (p y) refl m (λ k. member_filter p xs x k e)
  where
    go : (b : Bool) → p y ≡ b → IsMember (y ∷ xs) x → (IsMember xs x → IsMember (filter p xs) x) → IsMember (cond b (y ∷ filter p xs) (filter p xs)) x
    go true is (inl f) rec = inl f
    go true is (inr k) rec = inr (rec k)
    go false is (inl f) rec = absurd (true≢false (sym e ∙ ap p f ∙ is))
    go false is (inr k) rec = rec k

pub among_member : (set : List ℕ) (a : ℕ) → list_any (λ b. b == a) set ≡ true → IsMember set a
among_member set a e = let r = member_any (λ b. b == a) set e in subst (IsMember set) (eqb-true r.0 a r.2) r.1

pub member_among : (set : List ℕ) (a : ℕ) → IsMember set a → list_any (λ b. b == a) set ≡ true
member_among set a m = any_member (λ b. b == a) set a m (same_nat a a refl)

pub range_member : (a n x : ℕ) → a ≤ x → x < a + n → IsMember (range_with_len a n) x
range_member a zero x h k = absurd (omega (arith, h, k))
range_member a (suc n) x h k = go (bool_cases (x == a)) (range_member (a + 1) n x)
  where
    beyond : (x == a) ≡ false → a + 1 ≤ x
    beyond e = grind (arith, Rattle.std.proofs.lemmas.Bool.Decides.nat_tests, e, h)

    go : ((x == a) ≡ true) ⊎ ((x == a) ≡ false) → (a + 1 ≤ x → x < (a + 1) + n → IsMember (range_with_len (a + 1) n) x) → IsMember (a ∷ range_with_len (a + 1) n) x
    go (inl e) rec = inl (eqb-true x a e)
    go (inr e) rec = inr (rec (beyond e) (omega (arith, k)))

pub member_range : (a n x : ℕ) → IsMember (range_with_len a n) x → (a ≤ x) × (x < a + n)
member_range a zero x m = absurd m
member_range a (suc n) x (inl e) = (omega (arith, e), omega (arith, e))
member_range a (suc n) x (inr m) = let r = member_range (a + 1) n x m in let l = r.0 in let h = r.1 in (omega arith, omega arith)

pub range_numbered : (n x : ℕ) → IsMember (range_with_len 1 n) x → IsNumbered n x
range_numbered n x m = let r = member_range 1 n x m in let l = r.0 in let h = r.1 in record { above = omega arith; known = omega arith }

pub numbered_range : (n x : ℕ) → IsNumbered n x → IsMember (range_with_len 1 n) x
numbered_range n x is = range_member 1 n x (let a = is.above in omega (arith, a)) (let k = is.known in omega (arith, k))

-- a test that goes with fewer elements keeps no more of them, and fewer where one fails anew
pub shorter : {X : Type 0} (p q : X → Bool) → ((x : X) → q x ≡ true → p x ≡ true) → (xs : List X) → length (filter q xs) ≤ length (filter p xs)
shorter p q h [] = omega arith
shorter p q h (x ∷ xs) = go (p x) (q x) (h x) (shorter p q h xs)
  where
    go : (a b : Bool) → (b ≡ true → a ≡ true) → length (filter q xs) ≤ length (filter p xs) → length (cond b (x ∷ filter q xs) (filter q xs)) ≤ length (cond a (x ∷ filter p xs) (filter p xs))
    go true true k l = omega (arith, l)
    go true false k l = omega (arith, l)
    go false true k l = absurd (true≢false (sym (k refl)))
    go false false k l = l

pub strictly_shorter : {X : Type 0} (p q : X → Bool) → ((x : X) → q x ≡ true → p x ≡ true) → (xs : List X) (y : X) → IsMember xs y → p y ≡ true → q y ≡ false
    → length (filter q xs) < length (filter p xs)
strictly_shorter p q h [] y m e f = absurd m
strictly_shorter p q h (x ∷ xs) y m e f = go (p x) (q x) refl refl (h x) (shorter p q h xs) m (λ k. strictly_shorter p q h xs y k e f)
  where
    go : (a b : Bool) → p x ≡ a → q x ≡ b → (b ≡ true → a ≡ true) → length (filter q xs) ≤ length (filter p xs) → IsMember (x ∷ xs) y → (IsMember xs y → length (filter q xs) < length (filter p xs))
        → length (cond b (x ∷ filter q xs) (filter q xs)) < length (cond a (x ∷ filter p xs) (filter p xs))
    go true true s t k l (inl g) rec = absurd (true≢false (sym t ∙ ap q (sym g) ∙ f))
    go true true s t k l (inr n) rec = let r = rec n in omega (arith, r)
    go true false s t k l n rec = omega (arith, l)
    go false true s t k l n rec = absurd (true≢false (sym (k refl)))
    go false false s t k l (inl g) rec = absurd (true≢false (sym e ∙ ap p g ∙ s))
    go false false s t k l (inr n) rec = rec n
