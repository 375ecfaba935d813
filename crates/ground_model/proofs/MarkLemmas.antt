-- Marks of the atoms that a choice takes.
use Rattle.std.proofs.Common.{◌≡◌, ◌+◌, ◌⊎◌, inl, inr, ℕ, zero, suc, Bool, true, false, cond, ◌==◌, List, [], ◌∷◌, map, drop, slice_set, slice_index_or, sym, subst, true≢false, eqb-true, arith}
use Rattle.std.specs.List.{list_any}
use Rattle.ground_model.specs.declared.rule.ChoiceItem.{ChoiceItem}
use Rattle.ground_model.specs.Answers.{has_atom}
use Rattle.ground_model.specs.Duties.{with_once, is_taken, chosen}
use Rattle.ground_model.specs.World.{World}
use Rattle.ground_model.proofs.Bools.{or_elim, or_left, or_right}
use Rattle.ground_model.proofs.MemberLemmas.{same_nat}

once_atom : (t : Bool) (b : ℕ) (atoms : List ℕ) (a : ℕ) → has_atom (with_once t b atoms) a ≡ true → (b ≡ a) ⊎ (has_atom atoms a ≡ true)
once_atom false b atoms a e = inr e
once_atom true b atoms a e = go (list_any (λ c. c == b) atoms) e
  where
    go : (t : Bool) → has_atom (cond t atoms (b ∷ atoms)) a ≡ true → (b ≡ a) ⊎ (has_atom atoms a ≡ true)
    go true e = inr e
    go false e = by_first (or_elim (b == a) (has_atom atoms a) e)
      where
        by_first : ((b == a) ≡ true) ⊎ (has_atom atoms a ≡ true) → (b ≡ a) ⊎ (has_atom atoms a ≡ true)
        by_first (inl q) = inl (eqb-true b a q)
        by_first (inr q) = inr q

-- what a choice takes is an atom of an item
pub chosen_atom : (world : World) (items : List ChoiceItem) (a : ℕ) → has_atom (chosen world items) a ≡ true → has_atom (map (λ item. item.atom) items) a ≡ true
chosen_atom world [] a e = e
chosen_atom world (item ∷ items) a e = go (once_atom (is_taken world item) item.atom (chosen world items) a e) (chosen_atom world items a)
  where
    go : (item.atom ≡ a) ⊎ (has_atom (chosen world items) a ≡ true) → (has_atom (chosen world items) a ≡ true → has_atom (map (λ item. item.atom) items) a ≡ true)
        → has_atom (map (λ item. item.atom) (item ∷ items)) a ≡ true
    go (inl s) rec = or_left (item.atom == a) (has_atom (map (λ item. item.atom) items) a) (same_nat item.atom a s)
    go (inr q) rec = or_right (item.atom == a) (has_atom (map (λ item. item.atom) items) a) (rec q)

-- taking a mark away
unset : (seen : List Bool) (x a : ℕ) → slice_index_or (slice_set seen x false) a false ≡ true → (slice_index_or seen a false ≡ true) × ((x ≡ a) → ⊥)
unset [] x a e = absurd (true≢false (sym e))
unset (s ∷ seen) zero zero e = absurd (true≢false (sym e))
unset (s ∷ seen) zero (suc a) e = (e, λ p. absurd (omega arith))
unset (s ∷ seen) (suc x) zero e = (e, λ p. absurd (omega arith))
unset (s ∷ seen) (suc x) (suc a) e = let r = unset seen x a e in (r.0, λ p. r.1 (omega arith))

pub clear_step : (seen : List Bool) (items : List ChoiceItem) (i : ℕ) (item : ChoiceItem) → drop i items ≡ item ∷ drop (i + 1) items
    → ((a : ℕ) → slice_index_or seen a false ≡ true → has_atom (map (λ item. item.atom) (drop i items)) a ≡ true)
    → (a : ℕ) → slice_index_or (slice_set seen item.atom false) a false ≡ true → has_atom (map (λ item. item.atom) (drop (i + 1) items)) a ≡ true
clear_step seen items i item next marks a e =
    let u = unset seen item.atom a e in
    go u.1 (or_elim (item.atom == a) (has_atom (map (λ item. item.atom) (drop (i + 1) items)) a) (subst (λ xs. has_atom (map (λ item. item.atom) xs) a ≡ true) next (marks a u.0)))
  where
    go : ((item.atom ≡ a) → ⊥) → ((item.atom == a) ≡ true) ⊎ (has_atom (map (λ item. item.atom) (drop (i + 1) items)) a ≡ true) → has_atom (map (λ item. item.atom) (drop (i + 1) items)) a ≡ true
    go differs (inl q) = absurd (differs (eqb-true item.atom a q))
    go differs (inr q) = q
