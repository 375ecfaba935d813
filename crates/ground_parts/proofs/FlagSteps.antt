-- Flags of variables, set and taken away.
use Rattle.std.proofs.Common.{◌≡◌, ◌<◌, ◌≤◌, ◌+◌, ℕ, zero, suc, Bool, true, false, not, ◌&&◌, ◌||◌, List, [], ◌∷◌, drop, length, slice_set, slice_index_or, refl, sym, ◌∙◌, ap, subst, true≢false, arith}
use Rattle.ground_model.specs.declared.linear.Place.{Place}
use Rattle.ground_model.specs.Sound.{occurs, first_places}
use Rattle.ground_parts.specs.inner.Totals.{names, set_flags, flag_of}

-- COUNTS

pub set_known : (flags : List Bool) (i : ℕ) → i < length flags → slice_index_or flags i false ≡ true → set_flags (slice_set flags i true) ≡ set_flags flags
set_known [] i below e = refl
set_known (flag ∷ flags) zero below e = subst (λ f. set_flags (true ∷ flags) ≡ set_flags (f ∷ flags)) (sym e) refl
set_known (true ∷ flags) (suc i) below e = ap suc (set_known flags i (omega arith) e)
set_known (false ∷ flags) (suc i) below e = set_known flags i (omega arith) e

pub set_fresh : (flags : List Bool) (i : ℕ) → i < length flags → slice_index_or flags i false ≡ false → set_flags (slice_set flags i true) ≡ set_flags flags + 1
set_fresh [] i below e = absurd (omega arith)
set_fresh (true ∷ flags) zero below e = absurd (true≢false e)
set_fresh (false ∷ flags) zero below e = omega arith
set_fresh (true ∷ flags) (suc i) below e = let r = set_fresh flags i (omega arith) e in omega arith
set_fresh (false ∷ flags) (suc i) below e = set_fresh flags i (omega arith) e

pub set_most : (flags : List Bool) → set_flags flags ≤ length flags
set_most [] = omega arith
set_most (true ∷ flags) = let r = set_most flags in omega arith
set_most (false ∷ flags) = let r = set_most flags in omega arith

-- STEPS

pub mark_step : (a b f : Bool) → (b || (a || f)) ≡ ((a || b) || f)
mark_step true true f = refl
mark_step true false f = refl
mark_step false true f = refl
mark_step false false f = refl

pub unmark_step : (a b f : Bool) → (not b && (not a && f)) ≡ (not (a || b) && f)
unmark_step true true f = refl
unmark_step true false f = refl
unmark_step false true f = refl
unmark_step false false f = refl

-- the flags after those of one more tuple were taken away
pub unmarked_place : (places : List Place) (i : ℕ) (place : Place) (flags new : List Bool) (rhs : ℕ → Bool) → drop i places ≡ place ∷ drop (i + 1) places
    → ((x : ℕ) → (not (occurs (first_places (drop i places)) x) && flag_of flags x) ≡ rhs x)
    → ((x : ℕ) → flag_of new x ≡ (not (names place.linear.pairs x) && flag_of flags x))
    → (x : ℕ) → (not (occurs (first_places (drop (i + 1) places)) x) && flag_of new x) ≡ rhs x
unmarked_place places i place flags new rhs next so_far value x =
    ap (λ t. not (occurs (first_places (drop (i + 1) places)) x) && t) (value x)
    ∙ unmark_step (names place.linear.pairs x) (occurs (first_places (drop (i + 1) places)) x) (flag_of flags x)
    ∙ subst (λ ps. (not (occurs (first_places ps) x) && flag_of flags x) ≡ rhs x) next (so_far x)
