-- The steps of an analysis.
use Rattle.std.proofs.Common.{◌≡◌, ℕ, ◌+◌, ◌-◌, ◌^◌, ◌<◌, ◌≤◌, ◌==◌, Bool, true, false, cond, max, List, ◌∷◌, length, get_or, set, drop, Option, None, Some, refl, sym, ◌∙◌, ap, subst, arith}
use Rattle.std.specs.Prelude.{nat_lt}
use Rattle.std.proofs.lemmas.Bool.Decides.{nat_tests}
use Rattle.std.proofs.lemmas.List.{length-set, drop_more, drop_all}
use Rattle.literals.specs.declared.lit.Lit.{Lit}
use Rattle.literals.specs.Lits.{same_lit}
use Rattle.literals.specs.Nogoods.{without}
use Rattle.trail.specs.declared.shape.Shape.{Shape}
use Rattle.trail.specs.Assignment.{Assignment, IsOf, since_on}
use Rattle.conflict_analysis.specs.declared.marks.Mark.{Mark}
use Rattle.conflict_analysis.specs.declared.marks.Mark.TheVariants.{Clear}
use Rattle.conflict_analysis.specs.Levels.{level_on, highest}
use Rattle.conflict_analysis.specs.Marked.{Board, Fits, place_of, mark_of, mark_at, marked_with, unmarked, is_high, high_one, high_count, IsMark}
use Rattle.conflict_analysis.specs.inner.Runs.{mark_since, covers_lit, board_with, boards_with, all_but, is_out_lit, highest_but, IsHit}
use Rattle.conflict_analysis.proofs.BoardLaws.{set_there, set_else}
use Rattle.conflict_analysis.proofs.PlaceLaws.{has_place}
use Rattle.conflict_analysis.proofs.CountLaws.{count-set, count_one, count_most}

clash : {X : Type 0} → true ≡ false → X
clash h = cc

pub none_before : (t : Assignment) (b : Board) (place at : ℕ) → 0 < place → ((l : Lit) → IsHit t b (place - 1) l → ⊥) → ((i : ℕ) (l : Lit) → place ≤ i → i < at → IsHit t b i l → ⊥) → (i : ℕ) (l : Lit) → place - 1 ≤ i → i < at → IsHit t b i l → ⊥
none_before t b place at pos here later i l h lt hit = cases (nat_lt i place) refl
  where
    cases : (k : Bool) → nat_lt i place ≡ k → ⊥
    cases true e =
        let less : i < place = grind (arith, nat_tests) in
        let same : i ≡ place - 1 = omega arith in
        here l (subst (λ p. IsHit t b p l) same hit)
    cases false e = let more : place ≤ i = grind (arith, nat_tests) in later i l more lt hit

-- the greatest so far
pub most_step : (most level rest : ℕ) → max most (max level rest) ≡ max (max most level) rest
most_step most level rest = omega arith

pub highest_next : (t : Assignment) (lits : List Lit) (i most : ℕ) (d : Lit) → i < length lits → max most (highest t (drop i lits)) ≡ max (max most (level_on t (get_or lits i d))) (highest t (drop (i + 1) lits))
highest_next t lits i most d h = ap (λ ls. max most (highest t ls)) (drop_more lits i d h) ∙ most_step most (level_on t (get_or lits i d)) (highest t (drop (i + 1) lits))

pub highest_but_next : (t : Assignment) (high : ℕ) (lits : List Lit) (i most : ℕ) (d : Lit) → i < length lits → max most (highest_but t high (drop i lits)) ≡ max (max most (cond (level_on t (get_or lits i d) == high) 0 (level_on t (get_or lits i d)))) (highest_but t high (drop (i + 1) lits))
highest_but_next t high lits i most d h = ap (λ ls. max most (highest_but t high ls)) (drop_more lits i d h) ∙ most_step most (cond (level_on t (get_or lits i d) == high) 0 (level_on t (get_or lits i d))) (highest_but t high (drop (i + 1) lits))

-- a board that is written keeps its size and its marks
pub fits_with : (s : Shape) (b : Board) (l : Lit) (m : Mark) → Fits s b → Fits s (marked_with b l m)
fits_with s b l m f = record { counts = f.counts; size = length-set b.marks (place_of b l) m ∙ f.size }

pub fits_without : (s : Shape) (b : Board) (l : Lit) → Fits s b → Fits s (unmarked b l)
fits_without s b l f = record { counts = f.counts; size = length-set b.marks (place_of b l) Clear ∙ f.size }

pub marks_set : (t : Assignment) (ms : List Mark) (p : ℕ) (m : Mark) → p < length ms → ((i : ℕ) → IsMark t (get_or ms i Clear)) → IsMark t m → (i : ℕ) → IsMark t (get_or (set ms p m) i Clear)
marks_set t ms p m h f k i = cases (p == i) refl
  where
    cases : (b : Bool) → (p == i) ≡ b → IsMark t (get_or (set ms p m) i Clear)
    cases true e = subst (IsMark t) (sym (set_there ms p i m Clear h e)) k
    cases false e = subst (IsMark t) (sym (set_else ms p i m Clear e)) (f i)

pub mark_is : (t : Assignment) (l : Lit) → IsMark t (mark_since l (since_on t l))
mark_is t l = cases (since_on t l) refl
  where
    cases : (o : Option ℕ) → since_on t l ≡ o → IsMark t (mark_since l o)
    cases None e = e
    cases (Some i) e = e

pub fits_board : (t : Assignment) (b : Board) (l : Lit) → Fits t.shape b → Fits t.shape (board_with t b l)
fits_board t b l f = cases (covers_lit (mark_of b l) l)
  where
    cases : (k : Bool) → Fits t.shape (cond k b (marked_with b l (mark_since l (since_on t l))))
    cases true = f
    cases false = fits_with t.shape b l (mark_since l (since_on t l)) f

pub marks_board : (t : Assignment) (b : Board) (l : Lit) → Fits t.shape b → IsOf t.shape l → ((i : ℕ) → IsMark t (mark_at b i)) → (i : ℕ) → IsMark t (mark_at (board_with t b l) i)
marks_board t b l f o m = cases (covers_lit (mark_of b l) l)
  where
    cases : (k : Bool) → (i : ℕ) → IsMark t (mark_at (cond k b (marked_with b l (mark_since l (since_on t l)))) i)
    cases true i = m i
    cases false i = marks_set t b.marks (place_of b l) (mark_since l (since_on t l)) (has_place t.shape b l f o) m (mark_is t l) i

-- the board once the literal's mark is written
pub board_new : (t : Assignment) (b : Board) (l : Lit) → covers_lit (mark_of b l) l ≡ false → board_with t b l ≡ marked_with b l (mark_since l (since_on t l))
board_new t b l e = rw e refl

pub board_old : (t : Assignment) (b : Board) (l : Lit) → covers_lit (mark_of b l) l ≡ true → board_with t b l ≡ b
board_old t b l e = rw e refl

-- one step over the literals
pub out_step : (t : Assignment) (b : Board) (out : Option Lit) (lits : List Lit) (i : ℕ) (d : Lit) → i < length lits → is_out_lit out (get_or lits i d) ≡ true → boards_with t b (all_but out (drop i lits)) ≡ boards_with t b (all_but out (drop (i + 1) lits))
out_step t b None lits i d h e = cc
out_step t b (Some o) lits i d h e = ap (λ ls. boards_with t b (without ls o)) (drop_more lits i d h) ∙ ap (boards_with t b) (skip e)
  where
    skip : same_lit (get_or lits i d) o ≡ true → without (get_or lits i d ∷ drop (i + 1) lits) o ≡ without (drop (i + 1) lits) o
    skip f = rw f refl

pub in_step : (t : Assignment) (b : Board) (out : Option Lit) (lits : List Lit) (i : ℕ) (d : Lit) → i < length lits → is_out_lit out (get_or lits i d) ≡ false → boards_with t b (all_but out (drop i lits)) ≡ boards_with t (board_with t b (get_or lits i d)) (all_but out (drop (i + 1) lits))
in_step t b None lits i d h e = ap (boards_with t b) (drop_more lits i d h)
in_step t b (Some o) lits i d h e = ap (λ ls. boards_with t b (without ls o)) (drop_more lits i d h) ∙ ap (boards_with t b) (keep e)
  where
    keep : same_lit (get_or lits i d) o ≡ false → without (get_or lits i d ∷ drop (i + 1) lits) o ≡ get_or lits i d ∷ without (drop (i + 1) lits) o
    keep f = rw f refl

pub out_end : (t : Assignment) (b : Board) (out : Option Lit) (lits : List Lit) (i : ℕ) → length lits ≤ i → boards_with t b (all_but out (drop i lits)) ≡ b
out_end t b None lits i h = ap (boards_with t b) (drop_all i lits h)
out_end t b (Some o) lits i h = ap (λ ls. boards_with t b (without ls o)) (drop_all i lits h)

-- the count after one more literal
pub put_count : (t : Assignment) (high : ℕ) (b new : Board) (l : Lit) (m : Mark) (n count : ℕ) (was is : Bool) → place_of b l < length b.marks → count ≡ high_count t high b.marks → was ≡ is_high t high (mark_of b l) → is ≡ is_high t high m → new ≡ marked_with b l m → n + cond was 1 0 ≡ count + cond is 1 0 → n ≡ high_count t high new.marks
put_count t high b new l m n count was is h e ew ei en sum =
    let whole : high_count t high (set b.marks (place_of b l) m) + high_one t high (get_or b.marks (place_of b l) Clear) ≡ high_count t high b.marks + high_one t high m = count-set t high b.marks (place_of b l) m Clear h in
    let first : high_one t high (get_or b.marks (place_of b l) Clear) ≡ cond was 1 0 = ap (λ (k : Bool). cond k 1 0) (sym ew) in
    let second : high_one t high m ≡ cond is 1 0 = ap (λ (k : Bool). cond k 1 0) (sym ei) in
    let same : n ≡ high_count t high (set b.marks (place_of b l) m) = omega arith in
    same ∙ ap (λ (v : Board). high_count t high v.marks) (sym en)

pub put_least : (t : Assignment) (high : ℕ) (b : Board) (l : Lit) (count : ℕ) (was : Bool) → place_of b l < length b.marks → count ≡ high_count t high b.marks → was ≡ is_high t high (mark_of b l) → was ≡ true → 1 ≤ count
put_least t high b l count was h e ew on =
    let one : high_one t high (get_or b.marks (place_of b l) Clear) ≤ high_count t high b.marks = count_one t high b.marks (place_of b l) Clear h in
    let first : high_one t high (get_or b.marks (place_of b l) Clear) ≡ 1 = ap (λ (k : Bool). cond k 1 0) (sym ew ∙ on) in
    omega arith

pub put_room : (t : Assignment) (high : ℕ) (b : Board) (l : Lit) (m : Mark) (count : ℕ) (was is : Bool) → place_of b l < length b.marks → length b.marks < 2 ^ 64 → count ≡ high_count t high b.marks → was ≡ is_high t high (mark_of b l) → is ≡ is_high t high m → was ≡ false → is ≡ true → count + 1 < 2 ^ 64
put_room t high b l m count was is h few e ew ei off on =
    let whole : high_count t high (set b.marks (place_of b l) m) + high_one t high (get_or b.marks (place_of b l) Clear) ≡ high_count t high b.marks + high_one t high m = count-set t high b.marks (place_of b l) m Clear h in
    let first : high_one t high (get_or b.marks (place_of b l) Clear) ≡ 0 = ap (λ (k : Bool). cond k 1 0) (sym ew ∙ off) in
    let second : high_one t high m ≡ 1 = ap (λ (k : Bool). cond k 1 0) (sym ei ∙ on) in
    let most : high_count t high (set b.marks (place_of b l) m) ≤ length b.marks = omega (arith, count_most t high (set b.marks (place_of b l) m), length-set b.marks (place_of b l) m) in
    omega arith
