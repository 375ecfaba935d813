-- What a sort and the removal of level things leave, and the order of ranges.
use Rattle.std.proofs.Common.{◌≡◌, inl, inr, zero, suc, Bool, true, ℤ, List, [], ◌∷◌, Contains, refl, sym, subst, arith}
use Rattle.std.specs.Cmp.{IsTotalOrder}
use Rattle.std.specs.List.{Any, dedup}
use Rattle.std.specs.List.Sorted.{IsPermutation, IsSortedBy, IsStrictlySortedBy}
use Rattle.std.specs.Ordering.{int_cmp, ordering_then, is_eq, is_lt}
use Rattle.std.specs.declared.cmp.Ordering.{Ordering}
use Rattle.std.specs.declared.cmp.Ordering.TheVariants.{Less, Equal, Greater}
use Rattle.std.proofs.lemmas.Cmp.{int_ranked, int_cmp_total, on_total, then_total, eq_by_cmp_equiv}
use Rattle.std.proofs.lemmas.List.Kept.{Any-dedup, Contains-from_dedup, IsStrictlySortedBy-dedup}
use Rattle.std.proofs.lemmas.List.Sorted.{Contains-permutation, IsPermutation-sym}
use Rattle.ground_model.specs.Members.{IsMember}
use Rattle.program_meaning.specs.Ascending.{Ascends, IsOrderedListOf}
use Rattle.program_meaning.proofs.Orders.{Turns}
use Rattle.interval_sets.specs.Ranges.{range_cmp}

contains_member : {X : Type 0} (xs : List X) (x : X) → Contains xs x → IsMember xs x
contains_member [] x (k, l, e) = absurd (omega (arith, l))
contains_member (y ∷ xs) x (zero, l, e) = inl (sym e)
contains_member (y ∷ xs) x (suc k, l, e) = inr (contains_member xs x (k, omega (arith, l), e))

member_contains : {X : Type 0} (xs : List X) (x : X) → IsMember xs x → Contains xs x
member_contains [] x m = absurd m
member_contains (y ∷ xs) x (inl e) = (zero, omega arith, sym e)
member_contains (y ∷ xs) x (inr m) = let r = member_contains xs x m in (suc r.0, omega (arith, r.1), r.2)

is_level : (o : Ordering) → is_eq o ≡ true → o ≡ Equal
is_level Less e = cc
is_level Equal e = refl
is_level Greater e = cc

ascends_from : {X : Type 0} (R : X → X → Ordering) (xs : List X) → IsStrictlySortedBy R xs → Ascends R xs
unfolding IsStrictlySortedBy
ascends_from R [] s = tt
ascends_from R (x ∷ xs) s = (s.0, ascends_from R xs s.1)

-- what a sort and the removal of level things leave is the set in order
pub set_in_order : {X : Type 0} (R : X → X → Ordering) → IsTotalOrder R → ((x y : X) → R x y ≡ Equal → x ≡ y) → (all sorted unique : List X) → IsPermutation all sorted
    → IsSortedBy (λ x y. is_lt (R x y)) sorted → unique ≡ dedup (λ x y. is_eq (R x y)) sorted → IsOrderedListOf R (IsMember all) unique
set_in_order {X} R total level all sorted unique moved ascends is = record {
  ascend = ascends_from R unique (subst (IsStrictlySortedBy R) (sym is) (IsStrictlySortedBy-dedup total (λ x y. refl) sorted ascends));
  all = λ x. (old x, new x);
}
  where
    same : X → X → Bool
    same x y = is_eq (R x y)

    old : (x : X) → IsMember unique x → IsMember all x
    old x m =
        let kept = subst (λ xs. Contains xs x) is (member_contains unique x m) in
        contains_member all x (Contains-permutation sorted all x (IsPermutation-sym all sorted moved) (Contains-from_dedup same sorted x kept))

    found : (x : X) → Any (λ y. same x y ≡ true) (dedup same sorted) → IsMember unique x
    found x (k, y, l, at, h) =
        let there = contains_member unique y (subst (λ xs. Contains xs y) (sym is) (k, l, at)) in
        subst (IsMember unique) (sym (level x y (is_level (R x y) h))) there

    new : (x : X) → IsMember all x → IsMember unique x
    new x m = found x (Any-dedup (eq_by_cmp_equiv total) sorted x (Contains-permutation all sorted x moved (member_contains all x m)))

-- RANGES

pub ranges_total : IsTotalOrder range_cmp
ranges_total = then_total (on_total (λ p. p.0) int_cmp_total) (on_total (λ p. p.1) int_cmp_total)

second_level : (o p : Ordering) → ordering_then o p ≡ Equal → (o ≡ Equal) × (p ≡ Equal)
second_level Less p e = cc
second_level Equal p e = (refl, e)
second_level Greater p e = cc

pub ranges_level : (a b : ℤ × ℤ) → range_cmp a b ≡ Equal → a ≡ b
ranges_level a b e =
    let both = second_level (int_cmp a.0 b.0) (int_cmp a.1 b.1) e in
    let first = int_ranked a.0 b.0 Equal (sym both.0) in
    let second = int_ranked a.1 b.1 Equal (sym both.1) in
    λ i. (first i, second i)

pub ranges_turn : Turns range_cmp
ranges_turn = ranges_total.antisymm
