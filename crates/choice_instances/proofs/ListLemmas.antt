-- Lists that go on.
use Rattle.std.proofs.Common.{◌≡◌, ◌<◌, ◌+◌, ℕ, zero, suc, List, [], ◌∷◌, ◌++◌, map, length, take, slice_index_or, Some, slice_get, refl, sym, ap, ◌∙◌, subst, arith}
use Rattle.std.specs.List.{AllByRecursion, AllZip}
use Rattle.std.proofs.lemmas.List.{take_more, length-take-le}
use Rattle.program_meaning.specs.Substitution.{Value, Key}
use Rattle.count_laws.specs.Keys.{keys_at, keys_from}

pub zip_append : {X Y : Type 0} (R : X → Y → Type 0) (xs : List X) (ys : List Y) (us : List X) (vs : List Y) → AllZip R xs ys → AllZip R us vs → AllZip R (xs ++ us) (ys ++ vs)
zip_append R [] [] us vs z w = w
zip_append R [] (y ∷ ys) us vs z w = absurd z
zip_append R (x ∷ xs) [] us vs z w = absurd z
zip_append R (x ∷ xs) (y ∷ ys) us vs z w = (z.0, zip_append R xs ys us vs z.1 w)

pub zip_along : {X Y : Type 0} (R S : X → Y → Type 0) → ((x : X) (y : Y) → R x y → S x y) → (xs : List X) (ys : List Y) → AllZip R xs ys → AllZip S xs ys
zip_along R S f [] [] z = tt
zip_along R S f [] (y ∷ ys) z = absurd z
zip_along R S f (x ∷ xs) [] z = absurd z
zip_along R S f (x ∷ xs) (y ∷ ys) z = (f x y z.0, zip_along R S f xs ys z.1)

pub zip_length : {X Y : Type 0} (R : X → Y → Type 0) (xs : List X) (ys : List Y) → AllZip R xs ys → length xs ≡ length ys
zip_length R [] [] z = refl
zip_length R [] (y ∷ ys) z = absurd z
zip_length R (x ∷ xs) [] z = absurd z
zip_length R (x ∷ xs) (y ∷ ys) z = ap suc (zip_length R xs ys z.1)

pub zip_at : {X Y : Type 0} (R : X → Y → Type 0) (xs : List X) (ys : List Y) (place : ℕ) (x : X) (y d : Y) → AllZip R xs ys → slice_get xs place ≡ Some x
    → y ≡ slice_index_or ys place d → place < length ys → R x y
zip_at R [] [] place x y d z s e l = absurd (omega (arith, l))
zip_at R [] (v ∷ ys) place x y d z s e l = absurd z
zip_at R (u ∷ xs) [] place x y d z s e l = absurd z
zip_at R (u ∷ xs) (v ∷ ys) zero x y d z s e l = let same : u ≡ x = cc in subst (λ w. R w y) same (subst (R u) (sym e) z.0)
zip_at R (u ∷ xs) (v ∷ ys) (suc place) x y d z s e l = zip_at R xs ys place x y d z.1 s e (omega (arith, l))

pub all_append : {X : Type 0} (P : X → Type 0) (xs ys : List X) → AllByRecursion P xs → AllByRecursion P ys → AllByRecursion P (xs ++ ys)
all_append P [] ys p q = q
all_append P (x ∷ xs) ys p q = (p.0, all_append P xs ys p.1 q)

pub all_at : {X : Type 0} (P : X → Type 0) (xs : List X) (place : ℕ) (x d : X) → x ≡ slice_index_or xs place d → place < length xs → AllByRecursion P xs → P x
all_at P [] place x d e l all = absurd (omega (arith, l))
all_at P (y ∷ ys) zero x d e l all = subst P (sym e) all.0
all_at P (y ∷ ys) (suc place) x d e l all = all_at P ys place x d e (omega (arith, l)) all.1

pub map_append : {X Y : Type 0} (f : X → Y) (xs ys : List X) → map f (xs ++ ys) ≡ map f xs ++ map f ys
map_append f [] ys = refl
map_append f (x ∷ xs) ys = ap (λ zs. f x ∷ zs) (map_append f xs ys)

pub map_more : {X Y : Type 0} (f : X → Y) (xs : List X) (place : ℕ) (d : X) → place < length xs → map f (take (place + 1) xs) ≡ map f (take place xs) ++ f (slice_index_or xs place d) ∷ []
map_more f xs place d l = ap (map f) (take_more xs place d l) ∙ map_append f (take place xs) (slice_index_or xs place d ∷ [])

keys_append : (n : ℕ) (rows : List (List (List Value))) (one : List (List Value)) → keys_from n (rows ++ one ∷ []) ≡ keys_from n rows ++ keys_at (n + length rows) one
keys_append n [] one = append_nil (keys_at n one) ∙ ap (λ p. keys_at p one) (plus_none n)
  where
    append_nil : (xs : List Key) → xs ++ [] ≡ xs
    append_nil [] = refl
    append_nil (x ∷ xs) = ap (λ ys. x ∷ ys) (append_nil xs)

    plus_none : (n : ℕ) → n ≡ n + 0
    plus_none n = omega arith
keys_append n (found ∷ rows) one =
    ap (λ ks. keys_at n found ++ ks) (keys_append (suc n) rows one ∙ ap (λ p. keys_from (suc n) rows ++ keys_at p one) (shift n (length rows)))
    ∙ sym (assoc (keys_at n found) (keys_from (suc n) rows) (keys_at (n + suc (length rows)) one))
  where
    shift : (n m : ℕ) → suc n + m ≡ n + suc m
    shift n m = omega arith

    assoc : (a b c : List Key) → (a ++ b) ++ c ≡ a ++ (b ++ c)
    assoc [] b c = refl
    assoc (x ∷ a) b c = ap (λ ys. x ∷ ys) (assoc a b c)

pub length_map : {X Y : Type 0} (f : X → Y) (xs : List X) → length (map f xs) ≡ length xs
length_map f [] = refl
length_map f (x ∷ xs) = ap suc (length_map f xs)

-- the keys of one list of rows more
pub keys_more : {X : Type 0} (f : X → List (List Value)) (rows : List X) (place : ℕ) (d : X) → place < length rows
    → keys_from 0 (map f (take (place + 1) rows)) ≡ keys_from 0 (map f (take place rows)) ++ keys_at place (f (slice_index_or rows place d))
keys_more f rows place d l =
    let count : 0 + length (map f (take place rows)) ≡ place = zero_front (length (map f (take place rows))) ∙ length_map f (take place rows) ∙ length-take-le place rows (omega (arith, l)) in
    ap (keys_from 0) (map_more f rows place d l) ∙ keys_append 0 (map f (take place rows)) (f (slice_index_or rows place d))
    ∙ ap (λ p. keys_from 0 (map f (take place rows)) ++ keys_at p (f (slice_index_or rows place d))) count
  where
    zero_front : (m : ℕ) → 0 + m ≡ m
    zero_front m = omega arith
