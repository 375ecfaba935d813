-- What the fields of a trail keep. Only the trail's own code reads this file.
use Rattle.std.specs.Prelude.{◌≡◌, ℕ, ◌+◌, ◌*◌, ◌^◌, ◌≤◌, ◌≤ℤ◌, neg_ℤ, cond, ℤ, pos, List, [], ◌∷◌, ◌++◌, length, get_or, map, Option, None, Some, true}
use Rattle.std.specs.List.{AllByRecursion}
use Rattle.symbols.specs.declared.ends.Ends.{Ends}
use Rattle.literals.specs.declared.lit.Lit.{Lit}
use Rattle.literals.specs.declared.lit.Lit.TheVariants.{Atom, Body, Constraint, AtMost, AtLeast}
use Rattle.literals.specs.Lits.{implies_lit}
use Rattle.literals.specs.Nogoods.{same_place}
use Rattle.literals.specs.Places.{places_of}
use Rattle.trail.specs.declared.shape.Shape.{Shape}
use Rattle.trail.specs.declared.entry.Entry.{Entry}
use Rattle.trail.specs.declared.entry.Slot.{Slot}
use Rattle.trail.specs.Implied.{truth_of, lower_of, upper_of}
use Rattle.trail.specs.Assignment.{lits_of, IsOf, counts_of, Follow}
use Rattle.trail.specs.inner.Cells.{Layout, is_fact, slot_of, upper_in, lower_in, mark_in}

-- the place of the last of these at the literal's place in a nogood, where the list begins at this place and this one was the last before
abbrev pub last_from : ℕ → Option ℕ → List Lit → Lit → Option ℕ
last_from place last [] l = last
last_from place last (m ∷ ms) l = last_from (place + 1) (cond (same_place m l) (Some place) last) ms l

abbrev pub latest : List Lit → Lit → Option ℕ
latest lits l = last_from 0 None lits l

-- the layout has room for the shape
pub record Fits (s : Shape) (a : Layout) : Type 0 where
  pub counts : a.counts ≡ counts_of s
  pub truths : length a.truths ≡ places_of a.counts
  pub pairs : length a.bounds ≡ 2 * (s.variables + 1)
  pub marks : length a.marks ≡ places_of a.counts

-- the layout shows what the literals say, and which of them said it
pub record Shows (s : Shape) (lits : List Lit) (a : Layout) : Type 0 where
  pub truth : (l : Lit) → IsOf s l → is_fact l ≡ true → get_or a.truths (slot_of a l) None ≡ truth_of s.ends lits l
  pub upper : (x : ℕ) → x ≤ s.variables → upper_in a x ≡ upper_of s.ends lits x
  pub lower : (x : ℕ) → x ≤ s.variables → lower_in a x ≡ lower_of s.ends lits x
  pub mark : (l : Lit) → IsOf s l → mark_in a l ≡ latest lits l

-- the bound that stood before the literal was set
abbrev pub SavesBound : Ends → List Lit → Lit → ℤ → Type 0
SavesBound ends before (Atom n sign) saved = Unit {0}
SavesBound ends before (Body n sign) saved = Unit {0}
SavesBound ends before (Constraint n sign) saved = Unit {0}
SavesBound ends before (AtMost x k) saved = saved ≡ upper_of ends before x
SavesBound ends before (AtLeast x k) saved = saved ≡ lower_of ends before x

-- each slot has what stood before it, the first after these literals
abbrev pub Saved : Ends → List Lit → List Slot → Type 0
Saved ends before [] = Unit {0}
Saved ends before (t ∷ ts) = SavesBound ends before t.entry.lit t.saved × (t.mark ≡ latest before t.entry.lit) × Saved ends (before ++ t.entry.lit ∷ []) ts

-- what the slot of this literal saves: nothing where it is no bound
abbrev pub bound_saved : Lit → ℤ → Option ℤ
bound_saved (Atom n sign) saved = None
bound_saved (Body n sign) saved = None
bound_saved (Constraint n sign) saved = None
bound_saved (AtMost x k) saved = Some saved
bound_saved (AtLeast x k) saved = Some saved

-- the entries of these slots
abbrev pub entries_of : List Slot → List Entry
entries_of slots = map (λ t. t.entry) slots

-- the fields of a trail fit together
pub record IsTrail (s : Shape) (level : ℕ) (slots : List Slot) (a : Layout) (ordered : ℕ) : Type 0 where
  pub fits : Fits s a
  pub shows : Shows s (lits_of (entries_of slots)) a
  pub saved : Saved s.ends [] slots
  pub entries : Follow s [] 0 (entries_of slots) level
  pub variables : ordered ≡ s.variables

-- a bound is of one of so many variables, and its opposite fits its type
abbrev pub IsBoundOf : ℕ → Lit → Type 0
IsBoundOf variables (Atom n sign) = Unit {0}
IsBoundOf variables (Body n sign) = Unit {0}
IsBoundOf variables (Constraint n sign) = Unit {0}
IsBoundOf variables (AtMost x k) = x ≤ variables
IsBoundOf variables (AtLeast x k) = (x ≤ variables) × (neg_ℤ (pos (2 ^ 30)) ≤ℤ k)

-- each literal of the same cell among these follows from this one
abbrev pub Outdoes : List Lit → Lit → Type 0
Outdoes before l = AllByRecursion (λ m. same_place m l ≡ true → implies_lit l m ≡ true) before

-- each slot is marked with the last literal of its cell before it, and outdoes those; the first stands after these literals
abbrev pub Marked : List Lit → List Slot → Type 0
Marked before [] = Unit {0}
Marked before (t ∷ ts) = (t.mark ≡ latest before t.entry.lit) × Outdoes before t.entry.lit × Marked (before ++ t.entry.lit ∷ []) ts

abbrev pub AreMarked : List Slot → Type 0
AreMarked slots = Marked [] slots
