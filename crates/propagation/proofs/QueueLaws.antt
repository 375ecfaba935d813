-- The places in a queue, as propagators are woken and taken.
use Rattle.std.proofs.Common.{◌⊎◌, inl, inr, ◌≡◌, ℕ, zero, suc, ◌+◌, ◌<◌, Bool, true, false, List, [], ◌∷◌, ◌++◌, length, get_or, set, sym, ◌∙◌, subst, arith}
use Rattle.std.specs.Prelude.{replicate}
use Rattle.std.specs.List.{AllByRecursion, Contains}
use Rattle.std.proofs.lemmas.List.{length-set, get_or-set_other}
use Rattle.std.proofs.lemmas.Grind.{get_or-set_at}
use Rattle.std.proofs.lemmas.List.Elements.{Contains-append_left, Contains-push}
use Rattle.propagation.specs.inner.Queued.{IsQueue}

all_push : {X : Type 0} (P : X → Type 0) (xs : List X) (x : X) → AllByRecursion P xs → P x → AllByRecursion P (xs ++ x ∷ [])
all_push P [] x a p = (p, tt)
all_push P (y ∷ ys) x a p = (a.0, all_push P ys x a.1 p)

below : (flags : List Bool) (place : ℕ) (flag : Bool) (places : List ℕ) → AllByRecursion (λ i. i < length flags) places → AllByRecursion (λ i. i < length (set flags place flag)) places
below flags place flag [] a = tt
below flags place flag (i ∷ is) a = (let e = length-set flags place flag in let h = a.0 in omega (arith, e, h), below flags place flag is a.1)

no_flag : (n i : ℕ) → get_or (replicate n false) i false ≡ true → ⊥
no_flag zero i h = let no : false ≡ true = h in cc
no_flag (suc n) zero h = let no : false ≡ true = h in cc
no_flag (suc n) (suc i) h = no_flag n i h

pub queue_none : (flags : List Bool) (n : ℕ) → flags ≡ replicate n false → IsQueue flags []
queue_none flags n e = record {
  within = tt;
  flagged = λ i h. absurd (no_flag n i (subst (λ fs. get_or fs i false ≡ true) e h));
}

decide : (i k : ℕ) → (i ≡ k) ⊎ ¬ (i ≡ k)
decide i k = grind arith

pub queue_woken : (flags : List Bool) (places : List ℕ) (place : ℕ) → place < length flags → IsQueue flags places → IsQueue (set flags place true) (places ++ place ∷ [])
queue_woken flags places place lt is = record {
  within = all_push (λ i. i < length (set flags place true)) places place (below flags place true places is.within) (let e = length-set flags place true in omega (arith, e, lt));
  flagged = λ i h. by_place i h (decide i place);
}
  where
    by_place : (i : ℕ) → get_or (set flags place true) i false ≡ true → (i ≡ place) ⊎ ¬ (i ≡ place) → Contains (places ++ place ∷ []) i
    by_place i h (inl same) = subst (Contains (places ++ place ∷ [])) (sym same) (Contains-push places place)
    by_place i h (inr other) = Contains-append_left places (place ∷ []) i (is.flagged i (sym (get_or-set_other flags place i true false other) ∙ h))

after_first : (place : ℕ) (rest : List ℕ) (i : ℕ) → ¬ (i ≡ place) → Contains (place ∷ rest) i → Contains rest i
after_first place rest i other c = go c.0 c.1 c.2
  where
    go : (k : ℕ) → k < length (place ∷ rest) → get_or (place ∷ rest) k i ≡ i → Contains rest i
    go zero lt e = absurd (other (sym e))
    go (suc k) lt e = (k, omega (arith, lt), e)

pub queue_taken : (flags : List Bool) (places rest : List ℕ) (place : ℕ) → places ≡ place ∷ rest → IsQueue flags places → IsQueue (set flags place false) rest
queue_taken flags places rest place e is = record {
  within = below flags place false rest firsts.1;
  flagged = λ i h. by_place i h (decide i place);
}
  where
    firsts : AllByRecursion (λ i. i < length flags) (place ∷ rest)
    firsts = subst (AllByRecursion (λ i. i < length flags)) e is.within

    by_place : (i : ℕ) → get_or (set flags place false) i false ≡ true → (i ≡ place) ⊎ ¬ (i ≡ place) → Contains rest i
    by_place i h (inl same) = absurd (let off : get_or (set flags place false) i false ≡ false = get_or-set_at flags place i false false same firsts.0 in let no : true ≡ false = sym h ∙ off in cc)
    by_place i h (inr other) = after_first place rest i other (subst (λ ps. Contains ps i) e (is.flagged i (sym (get_or-set_other flags place i false false other) ∙ h)))

-- the place that is taken is one of those
pub queue_first : (flags : List Bool) (places rest : List ℕ) (place : ℕ) → places ≡ place ∷ rest → IsQueue flags places → place < length flags
queue_first flags places rest place e is = (subst (AllByRecursion (λ i. i < length flags)) e is.within).0

-- one more has been woken
pub all_woken : (before after : List ℕ) (place : ℕ) → ((i : ℕ) → i < place → Contains before i) → ((i : ℕ) → Contains before i → Contains after i) → Contains after place → (i : ℕ) → i < place + 1 → Contains after i
all_woken before after place all kept there i lt = by_place (split i place lt)
  where
    split : (k n : ℕ) → k < n + 1 → (k < n) ⊎ (k ≡ n)
    split k n h = grind arith

    by_place : (i < place) ⊎ (i ≡ place) → Contains after i
    by_place (inl less) = kept i (all i less)
    by_place (inr same) = subst (Contains after) (sym same) there
