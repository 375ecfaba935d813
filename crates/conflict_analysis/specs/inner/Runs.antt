-- How an analysis runs. Only the code of this crate reads this file.
use Rattle.std.specs.Prelude.{◌≡◌, ℕ, ◌<◌, ◌≤◌, ◌==◌, Bool, true, false, cond, max, ◌⊎◌, List, [], ◌∷◌, ◌++◌, Option, None, Some, slice_get}
use Rattle.std.specs.List.{AllByRecursion}
use Rattle.literals.specs.declared.lit.Lit.{Lit}
use Rattle.literals.specs.declared.reason.Step.TheVariants.{Hole}
use Rattle.literals.specs.Lits.{IsLit, implies_lit, same_lit, complement_of}
use Rattle.literals.specs.Nogoods.{Rises, has_lit, without}
use Rattle.trail.specs.declared.entry.Entry.{Entry}
use Rattle.trail.specs.declared.entry.Why.{Why}
use Rattle.trail.specs.declared.entry.Why.TheVariants.{Decision, Held as ByHeld, Shown as ByShown}
use Rattle.trail.specs.Assignment.{Assignment, Names, is_true_on, since_on}
use Rattle.nogood_store.specs.Holding.{Held, nogood_under}
use Rattle.conflict_analysis.specs.declared.learned.Start.{Start}
use Rattle.conflict_analysis.specs.declared.learned.Start.TheVariants.{Held as FromHeld, Shown as FromShown}
use Rattle.conflict_analysis.specs.declared.learned.Link.{Link}
use Rattle.conflict_analysis.specs.declared.marks.Mark.{Mark}
use Rattle.conflict_analysis.specs.declared.marks.Mark.TheVariants.{Clear, ByEnds, ByEntry}
use Rattle.conflict_analysis.specs.Levels.{level_on}
use Rattle.conflict_analysis.specs.Chains.{replayed, IsUsable, PivotsDiffer}
use Rattle.conflict_analysis.specs.Marked.{Board, place_of, mark_of, mark_at, marked_with, marked_lit, high_count, IsMark, Pends}

-- the mark of a literal that became true so
abbrev pub mark_since : Lit → Option ℕ → Mark
mark_since l None = ByEnds l
mark_since l (Some i) = ByEntry l i

-- whether the mark's literal implies this one
abbrev pub covers_lit : Mark → Lit → Bool
covers_lit Clear l = false
covers_lit (ByEnds x) l = implies_lit x l
covers_lit (ByEntry x i) l = implies_lit x l

-- the board with one more literal
abbrev pub board_with : Assignment → Board → Lit → Board
board_with t b l = cond (covers_lit (mark_of b l) l) b (marked_with b l (mark_since l (since_on t l)))

abbrev pub boards_with : Assignment → Board → List Lit → Board
boards_with t b [] = b
boards_with t b (l ∷ ls) = boards_with t (board_with t b l) ls

-- the list but the literal that is left out
abbrev pub all_but : Option Lit → List Lit → List Lit
all_but None lits = lits
all_but (Some out) lits = without lits out

abbrev pub is_out_lit : Option Lit → Lit → Bool
is_out_lit None l = false
is_out_lit (Some out) l = same_lit l out

-- the highest level of these literals but this level
abbrev pub highest_but : Assignment → ℕ → List Lit → ℕ
highest_but t high [] = 0
highest_but t high (l ∷ ls) = max (cond (level_on t l == high) 0 (level_on t l)) (highest_but t high ls)

-- the nogood by which the entry was set
abbrev pub nogood_by : List Held → Why → Option (List Lit)
nogood_by held Decision = None
nogood_by held (ByHeld id) = nogood_under held id
nogood_by held (ByShown r) = Some r.nogood

-- what may be resolved with for an entry
abbrev pub IsFrom : Why → Start → Type 0
IsFrom Decision s = ⊥
IsFrom (ByHeld id) s = s ≡ FromHeld id
IsFrom (ByShown r) s = s ≡ FromShown r

-- a literal that is marked became true by the entry at the place
pub record IsHit (t : Assignment) (b : Board) (place : ℕ) (l : Lit) : Type 0 where
  pub entry : Entry
  pub there : slice_get t.entries place ≡ Some entry
  pub mark : mark_of b entry.lit ≡ ByEntry l place

-- the literal became true at the place or later
abbrev pub IsFromPlace : ℕ → Option ℕ → Type 0
IsFromPlace at None = ⊥
IsFromPlace at (Some i) = at ≤ i

-- the chain so far gives the literals that are marked
pub record Run (held : List Held) (t : Assignment) (first : Start) (chain : List Link) (high at : ℕ) (b : Board) (open_ : ℕ) (lits : List Lit) : Type 0 where
  pub pends : Pends t high at lits b
  pub replays : replayed held first chain ≡ Some lits
  pub used : AllByRecursion (λ k. IsUsable held t k.used) chain
  pub count : open_ ≡ high_count t high b.marks
  pub some : 0 < high → 1 ≤ open_
  pub later : AllByRecursion (λ k. IsFromPlace at (since_on t k.pivot)) chain
  pub differ : PivotsDiffer chain

abbrev pub Runs : List Held → Assignment → Start → List Link → ℕ → ℕ → Board → ℕ → Type 0
Runs held t first chain high at b open_ = (lits : List Lit) × Run held t first chain high at b open_ lits

-- the literal is the last of those that are left
abbrev pub IsLast : Assignment → Board → ℕ → ℕ → Lit → Type 0
IsLast t b at place l = (place < at) × IsHit t b place l × ((i : ℕ) (m : Lit) → place < i → i < at → IsHit t b i m → ⊥)

-- the literal is to be resolved away next
abbrev pub IsReady : List Held → Assignment → Start → List Link → ℕ → ℕ → Lit → Board → ℕ → Type 0
IsReady held t first chain high place l b open_ = (at : ℕ) × Runs held t first chain high at b open_ × IsLast t b at place l

-- nothing is left to resolve but what the ends imply
abbrev pub IsSettled : Assignment → ℕ → Board → ℕ → Type 0
IsSettled t high b open_ = ((0 < high) × (open_ ≡ 1)) ⊎ ((high ≡ 0) × ((i : ℕ) (l : Lit) (j : ℕ) → mark_at b i ≡ ByEntry l j → ⊥))

-- what an analysis is of, and the literals before those by the ends are resolved away
pub record Setting : Type 0 where
  pub held : List Held
  pub trail : Assignment
  pub first : Start
  pub before : List Lit

-- the literals that are left are kept or still marked
pub record Drain (s : Setting) (chain : List Link) (b : Board) (lits kept : List Lit) : Type 0 where
  pub replays : replayed s.held s.first chain ≡ Some lits
  pub used : AllByRecursion (λ k. IsUsable s.held s.trail k.used) chain
  pub differ : PivotsDiffer chain
  pub fresh : AllByRecursion (λ k. has_lit lits k.pivot ≡ false) chain
  pub rises : Rises lits
  pub named : (x : Lit) → has_lit lits x ≡ true → Names s.trail.shape x × (is_true_on s.trail x ≡ true)
  pub within : (x : Lit) → has_lit lits x ≡ true → has_lit s.before x ≡ true
  pub stay : (x : Lit) (i : ℕ) → has_lit s.before x ≡ true → since_on s.trail x ≡ Some i → has_lit lits x ≡ true
  pub kept_of : AllByRecursion (λ x. has_lit lits x ≡ true) kept
  pub kept_by : AllByRecursion (λ x. (i : ℕ) × (since_on s.trail x ≡ Some i)) kept
  pub marks : (i : ℕ) → IsMark s.trail (mark_at b i)
  pub boards : (i : ℕ) (x : Lit) → marked_lit (mark_at b i) ≡ Some x → (has_lit lits x ≡ true) × (place_of b x ≡ i)
  pub all : (x : Lit) → has_lit lits x ≡ true → (marked_lit (mark_of b x) ≡ Some x) ⊎ (has_lit kept x ≡ true)

abbrev pub Drains : Setting → List Link → Board → List Lit → Type 0
Drains s chain b kept = (lits : List Lit) × Drain s chain b lits kept

-- the link that resolves a literal away that the ends imply
abbrev pub hole_link : Lit → Link
hole_link l = record { pivot = l; used = FromShown (record { nogood = complement_of l ∷ []; step = Hole 0 }) }

-- a mark that was taken is resolved away or kept
abbrev pub SortsOut : Mark → List Link → List Link → List Lit → List Lit → Type 0
SortsOut Clear chain after kept more = (after ≡ chain) × (more ≡ kept)
SortsOut (ByEnds l) chain after kept more = (after ≡ chain ++ hole_link l ∷ []) × (more ≡ kept)
SortsOut (ByEntry l i) chain after kept more = (after ≡ chain) × (more ≡ kept ++ l ∷ [])

abbrev pub LitOfMark : Mark → Type 0
LitOfMark Clear = Unit {0}
LitOfMark (ByEnds l) = IsLit l
LitOfMark (ByEntry l i) = Unit {0}
