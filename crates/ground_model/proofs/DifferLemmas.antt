-- A set that has the starts of the later spans.
use Rattle.std.proofs.Common.{◌≡◌, ◌<◌, ◌≤◌, ◌+◌, ◌-◌, ℕ, zero, suc, Bool, true, false, not, ◌&&◌, ◌||◌, ℤ, List, [], ◌∷◌, drop, get_or, length, refl, sym, ◌∙◌, ap, ap₂, subst, to_z, of_z, arith}
use Rattle.std.specs.List.{AllByRecursion, list_all, list_any}
use Rattle.std.specs.Int.{w128}
use Rattle.std.proofs.lemmas.Int.{to_z-of_z, fits_signed_from_abs}
use Rattle.std.specs.List.Sorted.{IsPermutation}
use Rattle.std.specs.Bool.{MatchBool}
use Rattle.std.specs.Ordering.{int_eq}
use Rattle.std.proofs.lemmas.List.Sorted.{list_any-IsPermutation}
use Rattle.ground_model.specs.Spans.{differ_by_value, IsSizedSpan}
use Rattle.ground_model.specs.Truth.{all_pairs}
use Rattle.ground_model.proofs.Products.{drop_next}

pub before : (spans : List (ℤ × ℤ)) (at : ℕ) (d : ℤ × ℤ) → 0 < at → at ≤ length spans → drop (at - 1) spans ≡ get_or spans (at - 1) d ∷ drop at spans
before spans at d above within =
    let s : (at - 1) + 1 ≡ at = omega arith in
    drop_next spans (at - 1) d (omega arith) ∙ ap (λ n. get_or spans (at - 1) d ∷ drop n spans) s

pub has_more : (keys new : List ℤ) (key : ℤ) (added : Bool) (Q : Type 0) (spans : List (ℤ × ℤ)) (at : ℕ) (span : ℤ × ℤ) → added ≡ true
    → MatchBool added (IsPermutation (key ∷ keys) new) Q → key ≡ span.0 → drop (at - 1) spans ≡ span ∷ drop at spans
    → ((z : ℤ) → list_any (int_eq z) keys ≡ list_any (λ s. int_eq z s.0) (drop at spans))
    → (z : ℤ) → list_any (int_eq z) new ≡ list_any (λ s. int_eq z s.0) (drop (at - 1) spans)
has_more keys new key added Q spans at span was puts is next members z =
    let moved = subst (λ b. MatchBool b (IsPermutation (key ∷ keys) new) Q) was puts in
    sym (list_any-IsPermutation (int_eq z) (key ∷ keys) new moved)
    ∙ ap₂ (λ k t. int_eq z k || t) is (members z)
    ∙ ap (list_any (λ s. int_eq z s.0)) (sym next)

none_is : {X : Type 0} (test : X → Bool) (xs : List X) → list_all (λ x. not (test x)) xs ≡ not (list_any test xs)
none_is test [] = refl
none_is test (x ∷ xs) = go (test x) (none_is test xs)
  where
    go : (t : Bool) → list_all (λ x. not (test x)) xs ≡ not (list_any test xs) → (not t && list_all (λ x. not (test x)) xs) ≡ not (t || list_any test xs)
    go true e = refl
    go false e = e

pub differ_more : (keys : List ℤ) (key : ℤ) (added : Bool) (spans : List (ℤ × ℤ)) (at : ℕ) (span : ℤ × ℤ) → added ≡ not (list_any (int_eq key) keys)
    → key ≡ span.0 → drop (at - 1) spans ≡ span ∷ drop at spans
    → ((z : ℤ) → list_any (int_eq z) keys ≡ list_any (λ s. int_eq z s.0) (drop at spans))
    → all_pairs differ_by_value (drop at spans) ≡ true → all_pairs differ_by_value (drop (at - 1) spans) ≡ added
differ_more keys key added spans at span is same next members differ =
    ap (all_pairs differ_by_value) next
    ∙ ap₂ ◌&&◌ (none_is (λ s. int_eq span.0 s.0) (drop at spans) ∙ ap not (sym (members span.0) ∙ ap (λ k. list_any (int_eq k) keys) (sym same))) differ
    ∙ last (not (list_any (int_eq key) keys))
    ∙ sym is
  where
    last : (t : Bool) → (t && true) ≡ t
    last true = refl
    last false = refl

-- where some later spans do not differ, neither do all
pub differ_rest : (spans : List (ℤ × ℤ)) (at : ℕ) → all_pairs differ_by_value (drop at spans) ≡ false → all_pairs differ_by_value spans ≡ false
differ_rest spans zero e = e
differ_rest [] (suc at) e = e
differ_rest (span ∷ spans) (suc at) e = go (list_all (differ_by_value span) spans) (differ_rest spans at e)
  where
    go : (t : Bool) → all_pairs differ_by_value spans ≡ false → (t && all_pairs differ_by_value spans) ≡ false
    go true e = e
    go false e = refl

-- the key that stands for a start in 128 bits is the start
pub start_fits : (spans : List (ℤ × ℤ)) (i : ℕ) (d : ℤ × ℤ) → AllByRecursion IsSizedSpan spans → i < length spans
    → to_z w128 (of_z w128 (get_or spans i d).0) ≡ (get_or spans i d).0
start_fits [] i d sized below = absurd (omega arith)
start_fits (span ∷ spans) zero d sized below =
    let small = sized.0.start in to_z-of_z w128 span.0 (fits_signed_from_abs w128 span.0 (omega arith))
start_fits (span ∷ spans) (suc i) d sized below = start_fits spans i d sized.1 (omega arith)
