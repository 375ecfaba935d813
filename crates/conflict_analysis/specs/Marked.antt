-- Marks of literals, laid out for reading at once. Only the code of this crate reads this file.
use Rattle.std.specs.Prelude.{◌≡◌, ℕ, ◌+◌, ◌==◌, ◌<◌, ◌≤◌, Bool, true, false, cond, List, [], ◌∷◌, ◌++◌, get_or, set, length, Option, None, Some}
use Rattle.std.specs.List.{AllByRecursion, list_any}
use Rattle.literals.specs.declared.lit.Lit.{Lit}
use Rattle.literals.specs.declared.places.Counts.{Counts}
use Rattle.literals.specs.Nogoods.{Rises}
use Rattle.literals.specs.Places as places
pub use Rattle.literals.specs.Nogoods.{standing}
use Rattle.trail.specs.declared.shape.Shape.{Shape}
use Rattle.trail.specs.Assignment.{Assignment, Names, IsOf, counts_of, is_true_on, since_on}
use Rattle.conflict_analysis.specs.Levels.{level_at, level_on}
use Rattle.conflict_analysis.specs.declared.marks.Mark.{Mark}
use Rattle.conflict_analysis.specs.declared.marks.Mark.TheVariants.{Clear, ByEnds, ByEntry}

-- a mark for each place of a literal, and the places that were marked
pub record Board : Type 0 where
  pub counts : Counts
  pub marks : List Mark
  pub touched : List ℕ

-- where the mark of the literal stands
abbrev pub place_of : Board → Lit → ℕ
place_of b l = places.place_of b.counts l

-- the literal has a place, and a mark there
abbrev pub HasPlace : Board → Lit → Type 0
HasPlace b l = places.IsCounted b.counts l × (place_of b l < length b.marks)

abbrev pub mark_at : Board → ℕ → Mark
mark_at b i = get_or b.marks i Clear

-- the mark at the literal's place
abbrev pub mark_of : Board → Lit → Mark
mark_of b l = mark_at b (place_of b l)

-- the board has a place for each literal of the shape
pub record Fits (s : Shape) (b : Board) : Type 0 where
  pub counts : b.counts ≡ counts_of s
  pub size : length b.marks ≡ places.places_of b.counts

-- what was touched has a place, and what was not touched is clear
pub record IsBoard (marks : List Mark) (touched : List ℕ) : Type 0 where
  pub within : AllByRecursion (λ j. j < length marks) touched
  pub clear : (i : ℕ) → list_any (λ j. j == i) touched ≡ false → get_or marks i Clear ≡ Clear

-- no literal is marked
abbrev pub IsClear : Board → Type 0
IsClear b = (i : ℕ) → mark_at b i ≡ Clear

abbrev pub is_clear : Mark → Bool
is_clear Clear = true
is_clear (ByEnds l) = false
is_clear (ByEntry l i) = false

-- the places that were marked, with one more where it was clear
abbrev pub touched_after : Board → ℕ → List ℕ
touched_after b i = cond (is_clear (mark_at b i)) (b.touched ++ i ∷ []) b.touched

-- the board with this mark at the literal's place
abbrev pub marked_with : Board → Lit → Mark → Board
marked_with b l m = record b { marks = set b.marks (place_of b l) m; touched = touched_after b (place_of b l) }

-- the board with the literal's place clear
abbrev pub unmarked : Board → Lit → Board
unmarked b l = record b { marks = set b.marks (place_of b l) Clear }

-- the mark at the last touched place, and the board without it
pub record Takes (old new : Board) (m : Mark) : Type 0 where
  pub place : ℕ
  pub last : old.touched ≡ new.touched ++ place ∷ []
  pub within : place < length old.marks
  pub mark : m ≡ mark_at old place
  pub rest : new ≡ record old { marks = set old.marks place Clear; touched = new.touched }

-- the literal of a mark
abbrev pub marked_lit : Mark → Option Lit
marked_lit Clear = None
marked_lit (ByEnds l) = Some l
marked_lit (ByEntry l i) = Some l

-- whether the mark is of a literal that became true by an entry of the level
abbrev pub is_high : Assignment → ℕ → Mark → Bool
is_high t level Clear = false
is_high t level (ByEnds l) = false
is_high t level (ByEntry l i) = level_at t.entries i == level

abbrev pub high_one : Assignment → ℕ → Mark → ℕ
high_one t level m = cond (is_high t level m) 1 0

-- how many marks are of such literals
abbrev pub high_count : Assignment → ℕ → List Mark → ℕ
high_count t level [] = 0
high_count t level (m ∷ ms) = high_one t level m + high_count t level ms

-- the mark says when its literal became true
abbrev pub IsMark : Assignment → Mark → Type 0
IsMark t Clear = Unit {0}
IsMark t (ByEnds l) = since_on t l ≡ None
IsMark t (ByEntry l i) = since_on t l ≡ Some i

-- the literal became true before the place, or by the ends
abbrev pub IsBefore : ℕ → Option ℕ → Type 0
IsBefore at None = Unit {0}
IsBefore at (Some i) = i < at

-- a literal of the nogood so far: true, by an entry before the place, at most at this level
pub record IsPending (t : Assignment) (high at : ℕ) (l : Lit) : Type 0 where
  pub named : Names t.shape l
  pub is_true : is_true_on t l ≡ true
  pub before : IsBefore at (since_on t l)
  pub low : level_on t l ≤ high

-- the board has the literals of the nogood so far
pub record Pends (t : Assignment) (high at : ℕ) (lits : List Lit) (b : Board) : Type 0 where
  pub fits : Fits t.shape b
  pub rises : Rises lits
  pub each : AllByRecursion (IsPending t high at) lits
  pub shows : (l : Lit) → IsOf t.shape l → marked_lit (mark_of b l) ≡ standing lits l
  pub marks : (i : ℕ) → IsMark t (mark_at b i)
  pub places : (i : ℕ) (l : Lit) → marked_lit (mark_at b i) ≡ Some l → (place_of b l ≡ i) × IsOf t.shape l
