-- Tests and members of lists.
use Rattle.std.proofs.Common.{◌≡◌, ◌⊎◌, inl, inr, ℕ, zero, suc, ◌+◌, ◌<◌, ◌==◌, Bool, true, false, cond, ◌||◌, List, [], ◌∷◌, ◌++◌, map, filter, length, take, slice_index_or, refl, sym, ap, ◌∙◌, subst, append_assoc, eqb-true, add-one, arith}
use Rattle.std.specs.List.{flat_map, list_any, AllByRecursion}
use Rattle.ground_model.specs.Members.{IsMember}
use Rattle.ground_model.proofs.MemberLemmas.{any_member, member_any, same_nat}
use Rattle.program_meaning.specs.Variables.{any_true}
use Rattle.variable_safety.specs.inner.Occurring.{joined}

or_assoc : (a b c : Bool) → (a || (b || c)) ≡ ((a || b) || c)
or_assoc true b c = refl
or_assoc false b c = refl

pub any_append : {X : Type 0} (test : X → Bool) (xs ys : List X) → list_any test (xs ++ ys) ≡ (list_any test xs || list_any test ys)
any_append test [] ys = refl
any_append test (x ∷ xs) ys = ap (λ v. test x || v) (any_append test xs ys) ∙ or_assoc (test x) (list_any test xs) (list_any test ys)

pub any_flat : {X Y : Type 0} (test : Y → Bool) (f : X → List Y) (xs : List X) → list_any test (flat_map f xs) ≡ list_any (λ x. list_any test (f x)) xs
any_flat test f [] = refl
any_flat test f (x ∷ xs) = any_append test (f x) (flat_map f xs) ∙ ap (λ v. list_any test (f x) || v) (any_flat test f xs)

pub any_same : {X : Type 0} (one other : X → Bool) (xs : List X) → AllByRecursion (λ x. one x ≡ other x) xs → list_any one xs ≡ list_any other xs
any_same one other [] h = refl
any_same one other (x ∷ xs) h = λ i. h.0 i || any_same one other xs h.1 i

pub any_alike : {X : Type 0} (one other : X → Bool) (xs : List X) → ((x : X) → one x ≡ other x) → list_any one xs ≡ list_any other xs
any_alike one other [] h = refl
any_alike one other (x ∷ xs) h = λ i. h x i || any_alike one other xs h i

-- the tests of lists, joined
pub any_joined : {X : Type 0} (test : ℕ → Bool) (f : X → List ℕ) (one : X → Bool) (xs : List X) → AllByRecursion (λ x. one x ≡ list_any test (f x)) xs
    → any_true (map one xs) ≡ list_any test (joined (map f xs))
any_joined test f one [] h = refl
any_joined test f one (x ∷ xs) h =
    (λ i. h.0 i || any_joined test f one xs h.1 i) ∙ sym (any_append test (f x) (joined (map f xs)))

pub listed : (n : ℕ) (xs : List ℕ) → list_any (λ m. m == n) xs ≡ true → IsMember xs n
listed n xs e = let r = member_any (λ m. m == n) xs e in subst (IsMember xs) (eqb-true r.0 n r.2) r.1

pub is_listed : (n : ℕ) (xs : List ℕ) → IsMember xs n → list_any (λ m. m == n) xs ≡ true
is_listed n xs m = any_member (λ m. m == n) xs n m (same_nat n n refl)

-- MEMBERS

pub member_append : {X : Type 0} (xs ys : List X) (x : X) → IsMember (xs ++ ys) x → IsMember xs x ⊎ IsMember ys x
member_append [] ys x h = inr h
member_append (z ∷ zs) ys x h =
    elim h [ inl e ↦ inl (inl e) | inr k ↦ elim (member_append zs ys x k) [ inl m ↦ inl (inr m) | inr m ↦ inr m ] ]

pub member_left : {X : Type 0} (xs ys : List X) (x : X) → IsMember xs x → IsMember (xs ++ ys) x
member_left [] ys x h = absurd h
member_left (z ∷ zs) ys x h = elim h [ inl e ↦ inl e | inr k ↦ inr (member_left zs ys x k) ]

pub member_right : {X : Type 0} (xs ys : List X) (x : X) → IsMember ys x → IsMember (xs ++ ys) x
member_right [] ys x h = h
member_right (z ∷ zs) ys x h = inr (member_right zs ys x h)

pub member_flat : {X Y : Type 0} (f : X → List Y) (xs : List X) (y : Y) → IsMember (flat_map f xs) y → (x : X) × IsMember xs x × IsMember (f x) y
member_flat f [] y h = absurd h
member_flat f (x ∷ xs) y h =
    elim (member_append (f x) (flat_map f xs) y h) [ inl m ↦ (x, inl refl, m) | inr m ↦ (let k = member_flat f xs y m in (k.0, inr k.1, k.2)) ]

pub flat_member : {X Y : Type 0} (f : X → List Y) (xs : List X) (x : X) (y : Y) → IsMember xs x → IsMember (f x) y → IsMember (flat_map f xs) y
flat_member f [] x y m h = absurd m
flat_member f (z ∷ zs) x y (inl e) h = member_left (f z) (flat_map f zs) y (subst (λ v. IsMember (f v) y) e h)
flat_member f (z ∷ zs) x y (inr m) h = member_right (f z) (flat_map f zs) y (flat_member f zs x y m h)

pub member_filter : {X : Type 0} (test : X → Bool) (xs : List X) (x : X) → IsMember (filter test xs) x → IsMember xs x × (test x ≡ true)
member_filter test [] x m = absurd m
member_filter {X} test (y ∷ ys) x m = by_test (test y) refl (member_filter test ys x) m
  where
    by_test : (b : Bool) → test y ≡ b → (IsMember (filter test ys) x → IsMember ys x × (test x ≡ true)) → IsMember (cond b (y ∷ filter test ys) (filter test ys)) x
        → IsMember (y ∷ ys) x × (test x ≡ true)
    by_test true e rec m = elim m [ inl p ↦ (inl p, ap test p ∙ e) | inr r ↦ (let s = rec r in (inr s.0, s.1)) ]
    by_test false e rec m = let s = rec m in (inr s.0, s.1)

pub filter_member : {X : Type 0} (test : X → Bool) (xs : List X) (x : X) → IsMember xs x → test x ≡ true → IsMember (filter test xs) x
filter_member test [] x m e = absurd m
filter_member test (y ∷ ys) x (inl p) e =
    let t : test y ≡ true = ap test (sym p) ∙ e in
    subst (λ b. IsMember (cond b (y ∷ filter test ys) (filter test ys)) x) (sym t) (inl p)
filter_member test (y ∷ ys) x (inr m) e = by_test (test y) (filter_member test ys x m e)
  where
    by_test : (b : Bool) → IsMember (filter test ys) x → IsMember (cond b (y ∷ filter test ys) (filter test ys)) x
    by_test true rest = inr rest
    by_test false rest = rest

-- STEPS OF A LOOP

taken_suc : {X : Type 0} (xs : List X) (i : ℕ) (x : X) → x ≡ slice_index_or xs i x → i < length xs → take (suc i) xs ≡ take i xs ++ x ∷ []
taken_suc [] i x is b = absurd (omega arith)
taken_suc (y ∷ ys) zero x is b = ap (λ v. v ∷ []) (sym is)
taken_suc (y ∷ ys) (suc i) x is b = ap (λ v. y ∷ v) (taken_suc ys i x is (omega arith))

pub taken_more : {X : Type 0} (xs : List X) (i : ℕ) (x : X) → x ≡ slice_index_or xs i x → i < length xs → take (i + 1) xs ≡ take i xs ++ x ∷ []
taken_more xs i x is b = rw add-one (taken_suc xs i x is b)

pub flat_append : {X Y : Type 0} (f : X → List Y) (xs ys : List X) → flat_map f (xs ++ ys) ≡ flat_map f xs ++ flat_map f ys
flat_append f [] ys = refl
flat_append f (x ∷ xs) ys = ap (λ v. f x ++ v) (flat_append f xs ys) ∙ sym (append_assoc (f x) (flat_map f xs) (flat_map f ys))

pub map_append : {X Y : Type 0} (f : X → Y) (xs ys : List X) → map f (xs ++ ys) ≡ map f xs ++ map f ys
map_append f [] ys = refl
map_append f (x ∷ xs) ys = ap (λ v. f x ∷ v) (map_append f xs ys)
