-- Lists with the same members, and their lengths.
use Rattle.std.proofs.Common.{◌≡◌, ◌≤◌, ◌<◌, inl, inr, ◌⊎◌, ◌↔◌, ℕ, zero, suc, List, [], ◌∷◌, ◌++◌, length, Option, Some, slice_get, refl, sym, ◌∙◌, ap, subst, arith}
use Rattle.std.specs.List.{AllByRecursion, AllZip, flat_map}
use Rattle.std.specs.declared.cmp.Ordering.{Ordering}
use Rattle.std.specs.declared.cmp.Ordering.TheVariants.{Less}
use Rattle.ground_model.specs.Members.{IsMember, IsApart, IsListOf}
use Rattle.ground_model.proofs.MemberLemmas.{property_member, property_from_members}
use Rattle.program_meaning.specs.Ascending.{Ascends, IsOrderedListOf, Exceeds}
use Rattle.program_meaning.proofs.Orders.{Turns, one_way}

-- ASCENDING LISTS

module _ {X : Type 0} (order : X → X → Ordering) (turns : Turns order) where
  not_below : (x : X) (xs : List X) → AllByRecursion (λ y. order x y ≡ Less) xs → IsMember xs x → ⊥
  not_below x xs a m = let l = property_member (λ y. order x y ≡ Less) xs x a m in one_way order turns x x l l

  pub ascends_apart : (xs : List X) → Ascends order xs → IsApart xs
  ascends_apart [] a = tt
  ascends_apart (x ∷ xs) a = (not_below x xs a.0, ascends_apart xs a.1)

  same_first : (x y : X) (xs ys : List X) → Ascends order (x ∷ xs) → Ascends order (y ∷ ys) → IsMember (y ∷ ys) x → IsMember (x ∷ xs) y → x ≡ y
  same_first x y xs ys a c (inl e) m = e
  same_first x y xs ys a c (inr k) (inl e) = sym e
  same_first x y xs ys a c (inr k) (inr m) =
      absurd (one_way order turns x y (property_member (λ z. order x z ≡ Less) xs y a.0 m) (property_member (λ z. order y z ≡ Less) ys x c.0 k))

  -- there is one ascending list of the same members
  pub ascending_same : (xs ys : List X) → Ascends order xs → Ascends order ys → ((z : X) → IsMember xs z → IsMember ys z) → ((z : X) → IsMember ys z → IsMember xs z) → xs ≡ ys
  ascending_same [] [] a c f g = refl
  ascending_same [] (y ∷ ys) a c f g = absurd (g y (inl refl))
  ascending_same (x ∷ xs) [] a c f g = absurd (f x (inl refl))
  ascending_same (x ∷ xs) (y ∷ ys) a c f g =
      let e = same_first x y xs ys a c (f x (inl refl)) (g y (inl refl)) in
      ap (λ z. z ∷ xs) e ∙ ap (λ zs. y ∷ zs) (ascending_same xs ys a.1 c.1
      (λ z m. later y ys z (λ k. not_below x xs a.0 (subst (IsMember xs) (k ∙ sym e) m)) (f z (inr m)))
      (λ z m. later x xs z (λ k. not_below y ys c.0 (subst (IsMember ys) (k ∙ e) m)) (g z (inr m))))
    where
      later : (w : X) (ws : List X) (z : X) → (z ≡ w → ⊥) → IsMember (w ∷ ws) z → IsMember ws z
      later w ws z n (inl e) = absurd (n e)
      later w ws z n (inr m) = m

  -- there is one ordered list of all that have a property
  pub ordered_same : (P : X → Type 0) (xs ys : List X) → IsOrderedListOf order P xs → IsOrderedListOf order P ys → xs ≡ ys
  ordered_same P xs ys a c =
      ascending_same xs ys a.ascend c.ascend (λ z m. (c.all z).1 ((a.all z).0 m)) (λ z m. (a.all z).1 ((c.all z).0 m))

-- LENGTHS

dropped : {X : Type 0} (xs : List X) (x : X) → IsMember xs x → List X
dropped [] x m = []
dropped (y ∷ ys) x (inl e) = ys
dropped (y ∷ ys) x (inr m) = y ∷ dropped ys x m

dropped_length : {X : Type 0} (xs : List X) (x : X) (m : IsMember xs x) → length xs ≡ suc (length (dropped xs x m))
unfolding dropped
dropped_length [] x m = absurd m
dropped_length (y ∷ ys) x (inl e) = refl
dropped_length (y ∷ ys) x (inr m) = ap suc (dropped_length ys x m)

dropped_member : {X : Type 0} (xs : List X) (x : X) (m : IsMember xs x) (z : X) → IsMember xs z → (z ≡ x → ⊥) → IsMember (dropped xs x m) z
unfolding dropped
dropped_member [] x m z k n = absurd m
dropped_member (y ∷ ys) x (inl e) z (inl k) n = absurd (n (k ∙ sym e))
dropped_member (y ∷ ys) x (inl e) z (inr k) n = k
dropped_member (y ∷ ys) x (inr m) z (inl k) n = inl k
dropped_member (y ∷ ys) x (inr m) z (inr k) n = inr (dropped_member ys x m z k n)

-- members of a list that stand apart are no more than it has
pub no_more : {X : Type 0} (xs ys : List X) → IsApart xs → ((z : X) → IsMember xs z → IsMember ys z) → length xs ≤ length ys
no_more [] ys a f = omega arith
no_more (x ∷ xs) ys a f =
    let m = f x (inl refl) in
    let r = no_more xs (dropped ys x m) a.1 (λ z k. dropped_member ys x m z (f z (inr k)) (λ e. a.0 (subst (IsMember xs) e k))) in
    let l = dropped_length ys x m in
    omega (arith, r, l)

-- where all are listed once, there are more than the limit exactly where the list is longer
pub exceeds_all : {X : Type 0} (P : X → Type 0) (xs : List X) (limit : ℕ) → IsApart xs → IsListOf P xs → Exceeds P limit ↔ (limit < length xs)
exceeds_all P xs limit apart all = (
  λ e.
      let l = no_more e.shown xs e.apart (λ x k. (all x).1 (property_member P e.shown x e.each k)) in
      let m = e.more in omega (arith, l, m),
  λ l. record { shown = xs; apart = apart; each = property_from_members P xs (λ x k. (all x).0 k); more = l },
)

-- MEMBERS

pub append_left : {X : Type 0} (xs ys : List X) (x : X) → IsMember xs x → IsMember (xs ++ ys) x
append_left [] ys x m = absurd m
append_left (y ∷ xs) ys x (inl e) = inl e
append_left (y ∷ xs) ys x (inr m) = inr (append_left xs ys x m)

pub append_right : {X : Type 0} (xs ys : List X) (x : X) → IsMember ys x → IsMember (xs ++ ys) x
append_right [] ys x m = m
append_right (y ∷ xs) ys x m = inr (append_right xs ys x m)

pub append_from : {X : Type 0} (xs ys : List X) (x : X) → IsMember (xs ++ ys) x → IsMember xs x ⊎ IsMember ys x
append_from [] ys x m = inr m
append_from (y ∷ xs) ys x (inl e) = inl (inl e)
append_from (y ∷ xs) ys x (inr m) = go (append_from xs ys x m)
  where
    go : IsMember xs x ⊎ IsMember ys x → IsMember (y ∷ xs) x ⊎ IsMember ys x
    go (inl l) = inl (inr l)
    go (inr r) = inr r

pub flat_to : {X Y : Type 0} (f : X → List Y) (xs : List X) (x : X) (y : Y) → IsMember xs x → IsMember (f x) y → IsMember (flat_map f xs) y
flat_to f [] x y m k = absurd m
flat_to f (z ∷ zs) x y (inl e) k = append_left (f z) (flat_map f zs) y (subst (λ w. IsMember (f w) y) e k)
flat_to f (z ∷ zs) x y (inr m) k = append_right (f z) (flat_map f zs) y (flat_to f zs x y m k)

pub flat_from : {X Y : Type 0} (f : X → List Y) (xs : List X) (y : Y) → IsMember (flat_map f xs) y → (x : X) × IsMember xs x × IsMember (f x) y
flat_from f [] y m = absurd m
flat_from f (x ∷ xs) y m = go (append_from (f x) (flat_map f xs) y m) (flat_from f xs y)
  where
    go : IsMember (f x) y ⊎ IsMember (flat_map f xs) y → (IsMember (flat_map f xs) y → (z : _) × IsMember xs z × IsMember (f z) y) → (z : _) × IsMember (x ∷ xs) z × IsMember (f z) y
    go (inl l) rec = (x, inl refl, l)
    go (inr r) rec = let q = rec r in (q.0, inr q.1, q.2)

pub all_append : {X : Type 0} (P : X → Type 0) (xs ys : List X) → AllByRecursion P xs → AllByRecursion P ys → AllByRecursion P (xs ++ ys)
all_append P [] ys p q = q
all_append P (x ∷ xs) ys p q = (p.0, all_append P xs ys p.1 q)

pub zip_all : {X Y : Type 0} (R : X → Y → Type 0) (Q : Y → Type 0) (xs : List X) (ys : List Y) → ((x : X) (y : Y) → IsMember xs x → R x y → Q y) → AllZip R xs ys → AllByRecursion Q ys
zip_all R Q [] [] h z = tt
zip_all R Q [] (y ∷ ys) h z = absurd z
zip_all R Q (x ∷ xs) [] h z = absurd z
zip_all R Q (x ∷ xs) (y ∷ ys) h z = (h x y (inl refl) z.0, zip_all R Q xs ys (λ u v m. h u v (inr m)) z.1)

-- a relation that has one partner at most gives one list
pub zip_one : {X Y : Type 0} (R S : X → Y → Type 0) → ((x : X) (y z : Y) → R x y → S x z → y ≡ z) → (xs : List X) (ys zs : List Y) → AllZip R xs ys → AllZip S xs zs → ys ≡ zs
zip_one R S one [] [] [] a c = refl
zip_one R S one [] [] (z ∷ zs) a c = absurd c
zip_one R S one [] (y ∷ ys) zs a c = absurd a
zip_one R S one (x ∷ xs) [] zs a c = absurd a
zip_one R S one (x ∷ xs) (y ∷ ys) [] a c = absurd c
zip_one R S one (x ∷ xs) (y ∷ ys) (z ∷ zs) a c = λ i. one x y z a.0 c.0 i ∷ zip_one R S one xs ys zs a.1 c.1 i

pub some_one : {X : Type 0} (o : Option X) (x y : X) → o ≡ Some x → o ≡ Some y → x ≡ y
some_one o x y p q = cc

pub slice_member : {X : Type 0} (xs : List X) (n : ℕ) (x : X) → slice_get xs n ≡ Some x → IsMember xs x
slice_member [] n x e = cc
slice_member (y ∷ ys) zero x e = inl (some_one (Some y) x y e refl)
slice_member (y ∷ ys) (suc n) x e = inr (slice_member ys n x e)

pub member_slice : {X : Type 0} (xs : List X) (x : X) → IsMember xs x → (n : ℕ) × (slice_get xs n ≡ Some x)
member_slice [] x m = absurd m
member_slice (y ∷ ys) x (inl e) = (zero, ap Some (sym e))
member_slice (y ∷ ys) x (inr m) = let r = member_slice ys x m in (suc r.0, r.1)
