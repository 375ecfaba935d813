-- Tests of lists with the same members.
use Rattle.std.proofs.Common.{◌≡◌, inl, inr, ℕ, zero, suc, Bool, true, false, ◌&&◌, ◌||◌, List, [], ◌∷◌, ◌++◌, Some, slice_get, refl, sym, ap, ◌∙◌, subst}
use Rattle.std.specs.List.{list_any, list_all, AllZip, AllByRecursion, flat_map}
use Rattle.ground_model.specs.Members.{IsMember}
use Rattle.program_meaning.specs.Read.{ReadLiteral, ReadPlain, ReadTold, plains}
use Rattle.safety_meaning.specs.Ordered.{told_of}
use Rattle.safety_meaning.specs.Reordered.{HaveSameMembers}
use Rattle.safety_meaning.proofs.Lists.{member_append, member_left, member_right}

bool_same : (a b : Bool) → (a ≡ true → b ≡ true) → (b ≡ true → a ≡ true) → a ≡ b
bool_same true true f g = refl
bool_same true false f g = sym (f refl)
bool_same false true f g = g refl
bool_same false false f g = refl

and_left : (a b : Bool) → (a && b) ≡ true → a ≡ true
and_left true b h = refl
and_left false b h = h

and_right : (a b : Bool) → (a && b) ≡ true → b ≡ true
and_right true b h = h
and_right false b h = absurd cc

and_both : (a b : Bool) → a ≡ true → b ≡ true → (a && b) ≡ true
and_both true b h k = k
and_both false b h k = h

or_right : (a b : Bool) → b ≡ true → (a || b) ≡ true
or_right true b h = refl
or_right false b h = h

or_left : (a b : Bool) → a ≡ true → (a || b) ≡ true
or_left true b h = refl
or_left false b h = absurd cc

pub any_found : {X : Type 0} (test : X → Bool) (xs : List X) → list_any test xs ≡ true → (x : X) × IsMember xs x × (test x ≡ true)
any_found test [] h = absurd cc
any_found {X} test (x ∷ xs) h = go (test x) refl h (any_found test xs)
  where
    go : (b : Bool) → test x ≡ b → (b || list_any test xs) ≡ true → (list_any test xs ≡ true → (y : X) × IsMember xs y × (test y ≡ true))
        → (y : X) × IsMember (x ∷ xs) y × (test y ≡ true)
    go true e k rest = (x, inl refl, e)
    go false e k rest = let r = rest k in (r.0, inr r.1, r.2)

pub any_of : {X : Type 0} (test : X → Bool) (xs : List X) (x : X) → IsMember xs x → test x ≡ true → list_any test xs ≡ true
any_of test [] x m h = absurd m
any_of test (y ∷ ys) x m h =
    elim m [ inl e ↦ or_left (test y) (list_any test ys) (ap test (sym e) ∙ h) | inr k ↦ or_right (test y) (list_any test ys) (any_of test ys x k h) ]

pub all_at : {X : Type 0} (test : X → Bool) (xs : List X) (x : X) → list_all test xs ≡ true → IsMember xs x → test x ≡ true
all_at test [] x h m = absurd m
all_at test (y ∷ ys) x h m =
    elim m [ inl e ↦ ap test e ∙ and_left (test y) (list_all test ys) h | inr k ↦ all_at test ys x (and_right (test y) (list_all test ys) h) k ]

pub all_from : {X : Type 0} (test : X → Bool) (xs : List X) → ((x : X) → IsMember xs x → test x ≡ true) → list_all test xs ≡ true
all_from test [] f = refl
all_from test (y ∷ ys) f = and_both (test y) (list_all test ys) (f y (inl refl)) (all_from test ys (λ x m. f x (inr m)))

pub any_same : {X : Type 0} (test : X → Bool) (xs ys : List X) → HaveSameMembers xs ys → list_any test xs ≡ list_any test ys
any_same test xs ys same =
    bool_same (list_any test xs) (list_any test ys)
    (λ h. let r = any_found test xs h in any_of test ys r.0 (same.forth r.0 r.1) r.2)
    (λ h. let r = any_found test ys h in any_of test xs r.0 (same.back r.0 r.1) r.2)

pub all_same : {X : Type 0} (test : X → Bool) (xs ys : List X) → HaveSameMembers xs ys → list_all test xs ≡ list_all test ys
all_same test xs ys same =
    bool_same (list_all test xs) (list_all test ys)
    (λ h. all_from test ys (λ x m. all_at test xs x h (same.back x m)))
    (λ h. all_from test xs (λ x m. all_at test ys x h (same.forth x m)))

pub every_at : {X : Type 0} (P : X → Type 0) (xs : List X) (x : X) → AllByRecursion P xs → IsMember xs x → P x
every_at P [] x h m = absurd m
every_at P (y ∷ ys) x h m = elim m [ inl e ↦ subst P (sym e) h.0 | inr k ↦ every_at P ys x h.1 k ]

pub every_from : {X : Type 0} (P : X → Type 0) (xs : List X) → ((x : X) → IsMember xs x → P x) → AllByRecursion P xs
every_from P [] f = tt
every_from P (y ∷ ys) f = (f y (inl refl), every_from P ys (λ x m. f x (inr m)))

pub same_turned : {X : Type 0} (xs ys : List X) → HaveSameMembers xs ys → HaveSameMembers ys xs
same_turned xs ys same = record { forth = same.back; back = same.forth }

pub same_append : {X : Type 0} (xs ys us vs : List X) → HaveSameMembers xs ys → HaveSameMembers us vs → HaveSameMembers (xs ++ us) (ys ++ vs)
same_append xs ys us vs same more = record {
  forth = λ x m. elim (member_append xs us x m) [ inl k ↦ member_left ys vs x (same.forth x k) | inr k ↦ member_right ys vs x (more.forth x k) ];
  back = λ x m. elim (member_append ys vs x m) [ inl k ↦ member_left xs us x (same.back x k) | inr k ↦ member_right xs us x (more.back x k) ];
}

-- BODIES

or_assoc : (a b c : Bool) → ((a || b) || c) ≡ (a || (b || c))
or_assoc true b c = refl
or_assoc false b c = refl

or_swapped : (a b c : Bool) → (a || (b || c)) ≡ (b || (a || c))
or_swapped true true c = refl
or_swapped true false c = refl
or_swapped false true c = refl
or_swapped false false c = refl

and_assoc : (a b c : Bool) → ((a && b) && c) ≡ (a && (b && c))
and_assoc true b c = refl
and_assoc false b c = refl

and_swapped : (a b c : Bool) → (a && (b && c)) ≡ (b && (a && c))
and_swapped true true c = refl
and_swapped true false c = refl
and_swapped false true c = refl
and_swapped false false c = refl

pub any_split : (test : ReadLiteral → Bool) (body : List ReadLiteral)
    → list_any test body ≡ (list_any (λ literal. test (ReadPlain literal)) (plains body) || list_any test (flat_map told_of body))
any_split test [] = refl
any_split test (ReadPlain literal ∷ rest) =
    ap (λ b. test (ReadPlain literal) || b) (any_split test rest)
    ∙ sym (or_assoc (test (ReadPlain literal)) (list_any (λ literal. test (ReadPlain literal)) (plains rest)) (list_any test (flat_map told_of rest)))
any_split test (ReadTold theory sign ∷ rest) =
    ap (λ b. test (ReadTold theory sign) || b) (any_split test rest)
    ∙ or_swapped (test (ReadTold theory sign)) (list_any (λ literal. test (ReadPlain literal)) (plains rest)) (list_any test (flat_map told_of rest))

pub all_split : (test : ReadLiteral → Bool) (body : List ReadLiteral)
    → list_all test body ≡ (list_all (λ literal. test (ReadPlain literal)) (plains body) && list_all test (flat_map told_of body))
all_split test [] = refl
all_split test (ReadPlain literal ∷ rest) =
    ap (λ b. test (ReadPlain literal) && b) (all_split test rest)
    ∙ sym (and_assoc (test (ReadPlain literal)) (list_all (λ literal. test (ReadPlain literal)) (plains rest)) (list_all test (flat_map told_of rest)))
all_split test (ReadTold theory sign ∷ rest) =
    ap (λ b. test (ReadTold theory sign) && b) (all_split test rest)
    ∙ and_swapped (test (ReadTold theory sign)) (list_all (λ literal. test (ReadPlain literal)) (plains rest)) (list_all test (flat_map told_of rest))

-- PAIRS

pub zip_any : {A B : Type 0} (R : A → B → Type 0) (test : A → Bool) (other : B → Bool) (xs : List A) (ys : List B) → AllZip R xs ys
    → ((x : A) (y : B) → R x y → test x ≡ other y) → list_any test xs ≡ list_any other ys
zip_any R test other [] [] h f = refl
zip_any R test other [] (y ∷ ys) h f = absurd h
zip_any R test other (x ∷ xs) [] h f = absurd h
zip_any R test other (x ∷ xs) (y ∷ ys) h f = λ i. f x y h.0 i || zip_any R test other xs ys h.1 f i

pub zip_all : {A B : Type 0} (R : A → B → Type 0) (test : A → Bool) (other : B → Bool) (xs : List A) (ys : List B) → AllZip R xs ys
    → ((x : A) (y : B) → R x y → test x ≡ other y) → list_all test xs ≡ list_all other ys
zip_all R test other [] [] h f = refl
zip_all R test other [] (y ∷ ys) h f = absurd h
zip_all R test other (x ∷ xs) [] h f = absurd h
zip_all R test other (x ∷ xs) (y ∷ ys) h f = λ i. f x y h.0 i && zip_all R test other xs ys h.1 f i

pub zip_member : {A B : Type 0} (R : A → B → Type 0) (xs : List A) (ys : List B) (x : A) → AllZip R xs ys → IsMember xs x → (y : B) × IsMember ys y × R x y
zip_member R [] [] x h m = absurd m
zip_member R [] (y ∷ ys) x h m = absurd h
zip_member R (z ∷ xs) [] x h m = absurd h
zip_member R (z ∷ xs) (y ∷ ys) x h m = elim m [
  | inl e ↦ (y, inl refl, subst (λ w. R w y) (sym e) h.0)
  | inr k ↦ (let r = zip_member R xs ys x h.1 k in (r.0, inr r.1, r.2))
]

pub zip_got : {A B : Type 0} (R : A → B → Type 0) (xs : List A) (ys : List B) (i : ℕ) (x : A) → AllZip R xs ys → slice_get xs i ≡ Some x → (y : B) × (slice_get ys i ≡ Some y) × R x y
zip_got R [] [] i x h g = absurd cc
zip_got R [] (y ∷ ys) i x h g = absurd h
zip_got R (z ∷ xs) [] i x h g = absurd h
zip_got R (z ∷ xs) (y ∷ ys) zero x h g = let e : z ≡ x = cc in (y, refl, subst (λ w. R w y) e h.0)
zip_got R (z ∷ xs) (y ∷ ys) (suc i) x h g = zip_got R xs ys i x h.1 g

pub zip_turned : {A B : Type 0} (R : A → B → Type 0) (S : B → A → Type 0) (xs : List A) (ys : List B) → ((x : A) (y : B) → R x y → S y x) → AllZip R xs ys → AllZip S ys xs
zip_turned R S [] [] f h = tt
zip_turned R S [] (y ∷ ys) f h = absurd h
zip_turned R S (x ∷ xs) [] f h = absurd h
zip_turned R S (x ∷ xs) (y ∷ ys) f h = (f x y h.0, zip_turned R S xs ys f h.1)
