-- What the watches of a store keep.
use Rattle.std.specs.Prelude.{◌≡◌, ℕ, ◌+◌, ◌-◌, ◌<◌, ◌≤◌, nat_lt, ◌⊎◌, true, false, List, [], ◌∷◌, ◌++◌, length, get_or, set, map, Contains}
use Rattle.std.specs.List.{AllByRecursion, filter}
use Rattle.symbols.specs.declared.ends.Ends.{Ends}
use Rattle.literals.specs.declared.lit.Lit.{Lit}
use Rattle.literals.specs.declared.lit.Lit.TheVariants.{Atom}
use Rattle.literals.specs.declared.places.Counts.{Counts}
use Rattle.literals.specs.Lits.{complement_of, implies_lit, same_lit}
use Rattle.literals.specs.Places.{place_of, places_of}
use Rattle.trail.specs.declared.shape.Shape.{Shape}
use Rattle.trail.specs.Implied.{implied}
use Rattle.trail.specs.Assignment.{Assignment, IsAssignment, counts_of, is_true_on, lits_of}
use Rattle.nogood_store.specs.declared.slot.Slot.{Slot}
use Rattle.nogood_store.specs.declared.watch.Watch.{Watch}
use Rattle.nogood_store.specs.declared.watching.Pair.{Pair}
use Rattle.nogood_store.specs.declared.watching.Look.{Look}
use Rattle.nogood_store.specs.declared.watching.Watching.{Watching}
use Rattle.nogood_store.specs.Holding.{Seen, seen_of, IsFront}
use Rattle.nogood_store.specs.Propagation.{AllNamed}
use Rattle.nogood_store.specs.Kept.{held_of, SlotsAscend}

-- the nogood of a slot, a literal of a nogood, the pair of a slot and the list of a place, by their numbers
abbrev pub nogood_at : List Slot → ℕ → List Lit
nogood_at slots i = (get_or slots i (record { id = 0; nogood = [] })).nogood

abbrev pub lit_at : List Lit → ℕ → Lit
lit_at n k = get_or n k (Atom 0 false)

abbrev pub pair_at : List Pair → ℕ → Pair
pair_at pairs i = get_or pairs i (record { first = 0; second = 0 })

abbrev pub list_at : List (List Watch) → ℕ → List Watch
list_at lists p = get_or lists p []

-- what was looked at, as callers see it
abbrev pub looks_of : List Look → List Seen
looks_of looks = map (λ k. record { lit = k.lit; level = k.level }) looks

-- the literals that were looked at, and those of levels below this one
abbrev pub lits_seen : List Seen → List Lit
lits_seen seen = map (λ s. s.lit) seen

abbrev pub below : ℕ → List Seen → List Seen
below m seen = filter (λ s. nat_lt s.level m) seen

abbrev pub lits_below : ℕ → List Seen → List Lit
lits_below m seen = lits_seen (below m seen)

-- no level is above a later one
abbrev pub Climbs : List Seen → Type 0
Climbs [] = Unit {0}
Climbs (s ∷ ss) = AllByRecursion (λ r. s.level ≤ r.level) ss × Climbs ss

-- the last one is of a level below this one, or there is none
abbrev pub EndsBelow : ℕ → List Look → Type 0
EndsBelow m looks = (length looks ≡ 0) ⊎ ((d : Look) → (get_or looks (length looks - 1) d).level < m)

-- there is a last one, of this level or above
abbrev pub EndsAbove : ℕ → List Look → Type 0
EndsAbove m looks = (1 ≤ length looks) × ((d : Look) → m ≤ (get_or looks (length looks - 1) d).level)

-- some literal of the nogood is false by these literals
abbrev pub HasFalse : Ends → List Lit → List Lit → Type 0
HasFalse ends lits n = (l : Lit) × Contains n l × (implied ends lits (complement_of l) ≡ true)

abbrev pub HasFalseOn : Assignment → List Lit → Type 0
HasFalseOn t n = HasFalse t.shape.ends (lits_of t.entries) n

-- the literal was not true below the open level
abbrev pub IsRecent : Assignment → Lit → Type 0
IsRecent t l = (m : ℕ) → 1 ≤ m → m ≤ t.level → implied t.shape.ends (lits_below m (seen_of t.entries)) l ≡ false

-- moments of the search: a watch that is true by the first list has a literal of its nogood that is false by the second.
-- Between calls these are the literals of each level with those below it; the first level is 0
abbrev pub Stored : List Seen → List Lit → List Lit → Type 0
Stored seen before after = (m : ℕ) × (1 ≤ m) × (before ≡ lits_below m seen) × (after ≡ before)

-- those of the levels below this one
abbrev pub Left : ℕ → List Seen → List Lit → List Lit → Type 0
Left low seen before after = (m : ℕ) × (1 ≤ m) × (m ≤ low) × (before ≡ lits_below m seen) × (after ≡ before)

-- within a call there is the trail too
abbrev pub Working : ℕ → List Seen → List Lit → List Lit → List Lit → Type 0
Working low seen now before after = Left low seen before after ⊎ ((before ≡ lits_seen seen) × (after ≡ now))

-- the slot's literal has a watch in its list
abbrev pub HasWatch : List Watch → ℕ → Lit → Type 0
HasWatch list i l = (x : Watch) × Contains list x × (x.slot ≡ i) × (x.lit ≡ l)

-- the literal of the slot's nogood is watched, at each of these moments
pub record IsGuard (moments : List Lit → List Lit → Type 0) (ends : Ends) (slots : List Slot) (places : Counts) (lists : List (List Watch)) (i : ℕ) (l : Lit) : Type 0 where
  pub there : HasWatch (list_at lists (place_of places l)) i l
  pub calm : (before after : List Lit) → moments before after → implied ends before l ≡ true → HasFalse ends after (nogood_at slots i)

-- one of the elements is taken out, and the last has its place
pub record IsTaken {X : Type 0} (xs ys : List X) (i : ℕ) : Type 0 where
  pub count : length ys + 1 ≡ length xs
  pub moved : (d : X) → i + 1 < length xs → get_or ys i d ≡ get_or xs (length xs - 1) d
  pub others : (k : ℕ) (d : X) → (k ≡ i → ⊥) → k + 1 < length xs → get_or ys k d ≡ get_or xs k d

-- two literals of the slot's nogood are watched
pub record IsWatched (moments : List Lit → List Lit → Type 0) (ends : Ends) (slots : List Slot) (places : Counts) (lists : List (List Watch)) (i : ℕ) (p : Pair) : Type 0 where
  pub first : p.first < length (nogood_at slots i)
  pub second : p.second < length (nogood_at slots i)
  pub apart : lit_at (nogood_at slots i) p.first ≡ lit_at (nogood_at slots i) p.second → ⊥
  pub one : IsGuard moments ends slots places lists i (lit_at (nogood_at slots i) p.first)
  pub two : IsGuard moments ends slots places lists i (lit_at (nogood_at slots i) p.second)

-- the slot's nogood has a false literal at each of these moments
abbrev pub IsSettled : (List Lit → List Lit → Type 0) → Ends → List Slot → ℕ → Type 0
IsSettled moments ends slots i = (before after : List Lit) → moments before after → HasFalse ends after (nogood_at slots i)

abbrev pub IsSafe : (List Lit → List Lit → Type 0) → Ends → List Slot → Counts → List (List Watch) → ℕ → Pair → Type 0
IsSafe moments ends slots places lists i p = IsWatched moments ends slots places lists i p ⊎ IsSettled moments ends slots i

-- the watch names a slot that was seen, and a literal of its nogood
pub record IsSound (slots : List Slot) (pairs : List Pair) (x : Watch) : Type 0 where
  pub slot : x.slot < length pairs
  pub first : (pair_at pairs x.slot).first < length (nogood_at slots x.slot)
  pub second : (pair_at pairs x.slot).second < length (nogood_at slots x.slot)
  pub other : Contains (nogood_at slots x.slot) x.other

-- each slot that was seen is fresh, watched or settled
pub record IsWatching (moments : List Lit → List Lit → Type 0) (ends : Ends) (slots : List Slot) (places : Counts) (lists : List (List Watch)) (pairs : List Pair) (fresh : List ℕ) : Type 0 where
  pub seen : length pairs ≤ length slots
  pub sound : (p : ℕ) (x : Watch) → Contains (list_at lists p) x → IsSound slots pairs x
  pub known : (i : ℕ) → Contains fresh i → i < length slots
  pub each : (i : ℕ) → i < length pairs → Contains fresh i ⊎ IsSafe moments ends slots places lists i (pair_at pairs i)

-- between calls
pub record IsStored (slots : List Slot) (w : Watching) : Type 0 where
  pub ascend : SlotsAscend slots
  pub climbs : Climbs (looks_of w.looked.items)
  pub places : w.places ≡ counts_of w.shape
  pub watching : IsWatching (Stored (looks_of w.looked.items)) w.shape.ends slots w.places w.lists.items w.pairs.items w.fresh.items

-- as a call ends that did not come to rest
pub record IsLeft (slots : List Slot) (w : Watching) : Type 0 where
  pub ascend : SlotsAscend slots
  pub climbs : Climbs (looks_of w.looked.items)
  pub places : w.places ≡ counts_of w.shape
  pub watching : IsWatching (Left w.low (looks_of w.looked.items)) w.shape.ends slots w.places w.lists.items w.pairs.items w.fresh.items

-- within a call
pub record IsWorking (slots : List Slot) (w : Watching) (t : Assignment) : Type 0 where
  pub ascend : SlotsAscend slots
  pub named : AllNamed t.shape (held_of slots)
  pub assignment : IsAssignment t
  pub shape : w.shape ≡ t.shape
  pub places : w.places ≡ counts_of t.shape
  pub lists : length w.lists.items ≡ places_of w.places
  pub pairs : length w.pairs.items ≡ length slots
  pub low : w.low ≤ t.level
  pub front : IsFront (looks_of w.looked.items) (seen_of t.entries)
  pub watching : IsWatching (Working w.low (looks_of w.looked.items) (lits_of t.entries)) t.shape.ends slots (counts_of t.shape) w.lists.items w.pairs.items w.fresh.items

-- one more watch, in the list of its literal
abbrev pub with_watch : Counts → List (List Watch) → Watch → List (List Watch)
with_watch places lists x = set lists (place_of places x.lit) (list_at lists (place_of places x.lit) ++ x ∷ [])

-- what looking at a literal keeps
pub record IsKept (old new : Watching) : Type 0 where
  pub shape : new.shape ≡ old.shape
  pub places : new.places ≡ old.places
  pub low : new.low ≡ old.low
  pub looked : new.looked.items ≡ old.looked.items
  pub fresh : new.fresh.items ≡ old.fresh.items

-- each watch of the list from this index on that the literal implies has a nogood with a false literal
abbrev pub IsDoneIn : List Slot → List Watch → Assignment → Lit → ℕ → Type 0
IsDoneIn slots list t lit index = (k : ℕ) (d : Watch) → index ≤ k → k < length list → implies_lit lit (get_or list k d).lit ≡ true → HasFalseOn t (nogood_at slots (get_or list k d).slot)

abbrev pub IsDone : List Slot → List (List Watch) → Assignment → ℕ → Lit → ℕ → Type 0
IsDone slots lists t place lit index = IsDoneIn slots (list_at lists place) t lit index

-- each fresh slot from this index on has a false literal
abbrev pub AreDone : List Slot → List ℕ → Assignment → ℕ → Type 0
AreDone slots fresh t index = (k : ℕ) → index ≤ k → k < length fresh → HasFalseOn t (nogood_at slots (get_or fresh k 0))

-- a watch of the list makes room for one of a literal of its nogood that is not true; the new pair has this one, and of the old pair the literal that stays
pub record Shifts (slots : List Slot) (w : Watching) (t : Assignment) (place index : ℕ) (p : Pair) (x : Watch) : Type 0 where
  pub old : Watch
  pub to : ℕ
  pub kept : ℕ
  pub within : index < length (list_at w.lists.items place)
  pub is_old : old ≡ get_or (list_at w.lists.items place) index old
  pub slot : x.slot ≡ old.slot
  pub to_in : to < length (nogood_at slots x.slot)
  pub kept_in : kept < length (nogood_at slots x.slot)
  pub apart : lit_at (nogood_at slots x.slot) to ≡ lit_at (nogood_at slots x.slot) kept → ⊥
  pub lit : x.lit ≡ lit_at (nogood_at slots x.slot) to
  pub other : x.other ≡ lit_at (nogood_at slots x.slot) kept
  pub untrue : is_true_on t x.lit ≡ false
  pub was_true : is_true_on t old.lit ≡ true
  pub sides : ((same_lit (lit_at (nogood_at slots x.slot) (pair_at w.pairs.items x.slot).first) old.lit ≡ true) × (kept ≡ (pair_at w.pairs.items x.slot).second) × (p ≡ record { first = to; second = kept })) ⊎ ((same_lit (lit_at (nogood_at slots x.slot) (pair_at w.pairs.items x.slot).first) old.lit ≡ false) × (kept ≡ (pair_at w.pairs.items x.slot).first) × (p ≡ record { first = kept; second = to }))

-- the slot stands at this index of the fresh ones
pub record IsFreshAt (slots : List Slot) (w : Watching) (index slot : ℕ) : Type 0 where
  pub within : index < length w.fresh.items
  pub is : slot ≡ get_or w.fresh.items index 0
  pub known : slot < length slots

-- the first of the two is not true or another literal is false; neither was true below the open level
pub record Attaches (slots : List Slot) (w : Watching) (t : Assignment) (index : ℕ) (p : Pair) : Type 0 where
  pub within : index < length w.fresh.items
  pub first : p.first < length (nogood_at slots (get_or w.fresh.items index 0))
  pub second : p.second < length (nogood_at slots (get_or w.fresh.items index 0))
  pub apart : lit_at (nogood_at slots (get_or w.fresh.items index 0)) p.first ≡ lit_at (nogood_at slots (get_or w.fresh.items index 0)) p.second → ⊥
  pub one : is_true_on t (lit_at (nogood_at slots (get_or w.fresh.items index 0)) p.first) ≡ false
  pub two : (is_true_on t (lit_at (nogood_at slots (get_or w.fresh.items index 0)) p.second) ≡ false) ⊎ (IsRecent t (lit_at (nogood_at slots (get_or w.fresh.items index 0)) p.second) × HasFalseOn t (nogood_at slots (get_or w.fresh.items index 0)))

-- what taking new slots keeps
pub record IsSame (old new : Watching) : Type 0 where
  pub shape : new.shape ≡ old.shape
  pub places : new.places ≡ old.places
  pub lists : new.lists.items ≡ old.lists.items
  pub looked : new.looked.items ≡ old.looked.items

-- the lists are laid out for the shape
pub record Suits (w : Watching) (s : Shape) : Type 0 where
  pub min : w.shape.ends.min ≡ s.ends.min
  pub max : w.shape.ends.max ≡ s.ends.max
  pub places : w.places ≡ counts_of s
  pub lists : length w.lists.items ≡ places_of w.places
