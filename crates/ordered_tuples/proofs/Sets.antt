-- What the removal of level tuples leaves was there before.
use Rattle.std.proofs.Common.{◌≡◌, Bool, List, Contains, subst}
use Rattle.std.specs.List.{dedup}
use Rattle.std.specs.List.Sorted.{IsPermutation}
use Rattle.std.proofs.lemmas.List.Kept.{Contains-from_dedup}
use Rattle.std.proofs.lemmas.List.Sorted.{Contains-permutation, IsPermutation-sym}
use Rattle.ground_model.specs.Members.{IsMember}
use Rattle.ground_model.proofs.MemberLemmas.{member_contains, contains_member}

pub among_all : {X : Type 0} (same : X → X → Bool) (all sorted unique : List X) → IsPermutation all sorted → unique ≡ dedup same sorted
    → (x : X) → IsMember unique x → IsMember all x
among_all same all sorted unique moved is x m =
    let kept = subst (λ xs. Contains xs x) is (member_contains unique x m) in
    contains_member all x (Contains-permutation sorted all x (IsPermutation-sym all sorted moved) (Contains-from_dedup same sorted x kept))
