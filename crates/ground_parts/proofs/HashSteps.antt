-- A set of tuples that has the later ones of a list.
use Rattle.std.proofs.Common.{◌≡◌, ◌<◌, ◌≤◌, ◌+◌, ◌-◌, ℕ, zero, suc, Bool, true, false, not, ◌&&◌, ◌||◌, List, [], ◌∷◌, drop, get_or, length, refl, sym, ◌∙◌, ap, ap₂, subst, Bor, arith, rules}
use Rattle.std.specs.List.{list_any}
use Rattle.std.specs.List.Sorted.{IsPermutation}
use Rattle.std.specs.Bool.{MatchBool}
use Rattle.std.proofs.lemmas.List.Sorted.{list_any-IsPermutation}
use Rattle.ground_model.specs.declared.linear.Place.{Place}
use Rattle.ground_model.specs.Sound.{same_place, are_different}
use Rattle.ground_model.specs.contracts.linear.PlacePartialEq.TheImpl.{ghosts}
use Rattle.ground_model.proofs.Products.{drop_next}

pub before : (places : List Place) (at : ℕ) (place : Place) → 0 < at → at ≤ length places → place ≡ get_or places (at - 1) place
    → drop (at - 1) places ≡ place ∷ drop at places
before places at place above within is =
    let s : (at - 1) + 1 ≡ at = omega arith in
    let e : drop (at - 1) places ≡ get_or places (at - 1) place ∷ drop ((at - 1) + 1) places = drop_next places (at - 1) place (omega arith) in
    e ∙ ap₂ (λ p n. p ∷ drop n places) (sym is) s

pub has_more : (keys new : List (Bor Place)) (key : Bor Place) (added : Bool) (Q : Type 0) (places : List Place) (at : ℕ) → added ≡ true
    → MatchBool added (IsPermutation (key ∷ keys) new) Q → drop (at - 1) places ≡ key.now ∷ drop at places
    → ((place : Bor Place) → list_any (λ k. same_place place.now k.now) keys ≡ list_any (same_place place.now) (drop at places))
    → (place : Bor Place) → list_any (λ k. same_place place.now k.now) new ≡ list_any (same_place place.now) (drop (at - 1) places)
has_more keys new key added Q places at was puts next members place =
    let moved = subst (λ b. MatchBool b (IsPermutation (key ∷ keys) new) Q) was puts in
    sym (list_any-IsPermutation (λ (k : Bor Place). same_place place.now k.now) (key ∷ keys) new moved)
    ∙ ap (λ t. same_place place.now key.now || t) (members place)
    ∙ ap (list_any (same_place place.now)) (sym next)

any_same : {X : Type 0} (p q : X → Bool) → ((x : X) → p x ≡ q x) → (xs : List X) → list_any p xs ≡ list_any q xs
any_same p q same [] = refl
any_same p q same (x ∷ xs) = ap₂ (λ s t. s || t) (same x) (any_same p q same xs)

-- `==` compares tuples so
pub equal_places : (a b : Place) → ghosts.eq a b ≡ same_place a b
equal_places a b = search rules

pub differ_more : (keys : List (Bor Place)) (key : Bor Place) (added : Bool) (places : List Place) (at : ℕ)
    → added ≡ not (list_any (λ k. ghosts.eq key.now k.now) keys) → drop (at - 1) places ≡ key.now ∷ drop at places
    → ((place : Bor Place) → list_any (λ k. same_place place.now k.now) keys ≡ list_any (same_place place.now) (drop at places))
    → are_different (drop at places) ≡ true → are_different (drop (at - 1) places) ≡ added
differ_more keys key added places at is next members differ =
    let looked : list_any (λ k. ghosts.eq key.now k.now) keys ≡ list_any (same_place key.now) (drop at places) =
    any_same (λ (k : Bor Place). ghosts.eq key.now k.now) (λ (k : Bor Place). same_place key.now k.now) (λ k. equal_places key.now k.now) keys ∙ members key in
    ap are_different next
    ∙ ap₂ (λ s t. not s && t) (sym looked) differ
    ∙ last (not (list_any (λ k. ghosts.eq key.now k.now) keys))
    ∙ sym is
  where
    last : (t : Bool) → (t && true) ≡ t
    last true = refl
    last false = refl

-- what differs in part alone does not differ
pub differ_rest : (places : List Place) (at : ℕ) → are_different (drop at places) ≡ false → are_different places ≡ false
differ_rest places zero e = e
differ_rest [] (suc at) e = e
differ_rest (place ∷ places) (suc at) e = go (not (list_any (same_place place) places)) (differ_rest places at e)
  where
    go : (t : Bool) → are_different places ≡ false → (t && are_different places) ≡ false
    go true e = e
    go false e = refl
