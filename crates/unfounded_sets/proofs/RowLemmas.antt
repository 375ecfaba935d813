-- Rows side by side in one list.
use Rattle.std.proofs.Common.{◌≡◌, ℕ, zero, suc, ◌+◌, ◌-◌, ◌<◌, ◌≤◌, List, [], ◌∷◌, ◌++◌, length, take, drop, get_or, slice_range, slice_index_or, refl, sym, ◌∙◌, ap, ap₂, subst, arith}
use Rattle.std.proofs.lemmas.List.{take-append-le, drop-append-le, drop_at, take_all, length-drop}
use Rattle.unfounded_sets.specs.inner.Rows.{rows_from, row_start, AreEnds}

-- each end is at most the last
pub ends_within : (start : ℕ) (ends : List ℕ) (last : ℕ) → AreEnds start ends last → start ≤ last
ends_within start [] last e = subst (λ n. start ≤ n) e (omega arith)
ends_within start (end ∷ ends) last e = let rest = ends_within end ends last e.1 in let first = e.0 in omega (arith, first, rest)

pub ends_push : (start : ℕ) (ends : List ℕ) (last new : ℕ) → AreEnds start ends last → last ≤ new → AreEnds start (ends ++ new ∷ []) new
ends_push start [] last new e h = (subst (λ n. n ≤ new) (sym e) h, refl)
ends_push start (end ∷ ends) last new e h = (e.0, ends_push end ends last new e.1 h)

range_front : (items row : List ℕ) (start end : ℕ) → start ≤ end → end ≤ length items → slice_range (items ++ row) start end ≡ slice_range items start end
range_front items row start end h k =
    ap (take (end - start)) (drop-append-le start items row (omega (arith, h, k)))
    ∙ take-append-le (end - start) (drop start items) row (simp length-drop (omega (arith, h, k)))

range_back : (items row : List ℕ) → slice_range (items ++ row) (length items) (length items + length row) ≡ row
range_back items row =
    ap (take ((length items + length row) - length items)) (drop_at items row (length items) refl)
    ∙ take_all ((length items + length row) - length items) row (omega arith)

-- a row more
pub rows_push : (start : ℕ) (ends items row : List ℕ) → AreEnds start ends (length items) → rows_from start (ends ++ (length items + length row) ∷ []) (items ++ row) ≡ rows_from start ends items ++ row ∷ []
rows_push start [] items row e = ap (λ n. slice_range (items ++ row) n (length items + length row) ∷ []) e ∙ ap (λ r. r ∷ []) (range_back items row)
rows_push start (end ∷ ends) items row e =
    ap₂ ◌∷◌ (range_front items row start end e.0 (ends_within end ends (length items) e.1)) (rows_push end ends items row e.1)

pub rows_length : (start : ℕ) (ends items : List ℕ) → length (rows_from start ends items) ≡ length ends
rows_length start [] items = refl
rows_length start (end ∷ ends) items = ap suc (rows_length end ends items)

pub row_at : (start : ℕ) (ends items : List ℕ) (k : ℕ) → k < length ends → slice_index_or (rows_from start ends items) k [] ≡ slice_range items (row_start start ends k) (get_or ends k 0)
row_at start [] items k h = absurd (omega (arith, h))
row_at start (end ∷ ends) items zero h = refl
row_at start (end ∷ ends) items (suc zero) h = row_at end ends items zero (omega (arith, h))
row_at start (end ∷ ends) items (suc (suc k)) h = row_at end ends items (suc k) (omega (arith, h))

pub row_ordered : (start : ℕ) (ends : List ℕ) (last k : ℕ) → AreEnds start ends last → k < length ends → (row_start start ends k ≤ get_or ends k 0) × (get_or ends k 0 ≤ last)
row_ordered start [] last k e h = absurd (omega (arith, h))
row_ordered start (end ∷ ends) last zero e h = (e.0, ends_within end ends last e.1)
row_ordered start (end ∷ ends) last (suc zero) e h = row_ordered end ends last zero e.1 (omega (arith, h))
row_ordered start (end ∷ ends) last (suc (suc k)) e h = row_ordered end ends last (suc k) e.1 (omega (arith, h))

pub start_before : (start : ℕ) (ends : List ℕ) (place : ℕ) → 0 < place → row_start start ends place ≡ get_or ends (place - 1) 0
start_before start ends zero h = absurd (omega (arith, h))
start_before start ends (suc n) h = let e : n ≡ suc n - 1 = omega arith in ap (λ k. get_or ends k 0) e

-- FOR THE CODE

pub ends_pushed : (ends after : List ℕ) (last now new : ℕ) → AreEnds 0 ends last → after ≡ ends ++ now ∷ [] → now ≡ new → last ≤ new → AreEnds 0 after new
ends_pushed ends after last now new is e same h = subst (λ xs. AreEnds 0 xs new) (sym (e ∙ ap (λ n. ends ++ n ∷ []) same)) (ends_push 0 ends last new is h)

pub rows_pushed : (ends after items new row : List ℕ) (last now : ℕ) → AreEnds 0 ends last → after ≡ ends ++ now ∷ [] → new ≡ items ++ row → now ≡ last + length row → last ≡ length items
    → rows_from 0 after new ≡ rows_from 0 ends items ++ row ∷ []
rows_pushed ends after items new row last now is e f size same =
    ap₂ (rows_from 0) (e ∙ ap (λ n. ends ++ n ∷ []) (size ∙ ap (λ n. n + length row) same)) f ∙ rows_push 0 ends items row (subst (AreEnds 0 ends) same is)
