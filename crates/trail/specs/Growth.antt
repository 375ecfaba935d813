-- A trail that grew by entries, each judged on the trail before it.
use Rattle.std.specs.Prelude.{◌≡◌, List, [], ◌∷◌, None, fold}
use Rattle.trail.specs.declared.entry.Entry.{Entry}
use Rattle.trail.specs.Assignment.{Assignment, Names, truth_on, with_entry}

-- the trail with these entries
abbrev pub with_entries : Assignment → List Entry → Assignment
with_entries t es = fold with_entry t es

-- the entry may be set: a literal of the shape that is open, at the open level
pub record IsNext (t : Assignment) (e : Entry) : Type 0 where
  pub names : Names t.shape e.lit
  pub open_before : truth_on t e.lit ≡ None
  pub level : e.level ≡ t.level

-- each entry may be set on the trail before it, and meets the fact there
abbrev pub EachNext : (Assignment → Entry → Type 0) → Assignment → List Entry → Type 0
EachNext P t [] = Unit {0}
EachNext P t (e ∷ es) = IsNext t e × P t e × EachNext P (with_entry t e) es

-- the new trail is the old one with more entries, each of which meets the fact on the trail before it
pub record Grows (P : Assignment → Entry → Type 0) (old new : Assignment) : Type 0 where
  pub more : List Entry
  pub is : new ≡ with_entries old more
  pub each : EachNext P old more
