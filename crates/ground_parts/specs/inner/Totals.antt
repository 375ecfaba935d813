-- Sums of linear terms by variable, as the check keeps them in arrays.
use Rattle.std.specs.Prelude.{◌≡◌, ℕ, suc, ◌^◌, ◌+◌, ◌*◌, ◌-◌, ◌<◌, ◌≤◌, ◌==◌, Bool, false, cond, ℤ, pos, ◌-ℤ◌, unsigned_abs, List, [], ◌∷◌, length, slice_index_or}
use Rattle.std.specs.List.{AllByRecursion, list_all, list_any}
use Rattle.ground_model.specs.Sizes.{IsSoundPair}
use Rattle.ground_model.specs.declared.linear.Place.{Place}
use Rattle.ground_model.specs.declared.linear.Linear.{Linear}
use Rattle.ground_model.specs.Sound.{is_small, most}
use Rattle.ground_parts.specs.declared.scratch.Scratch.{Scratch}

-- the pairs name the variable
abbrev pub names : List (ℕ × ℤ) → ℕ → Bool
names pairs x = list_any (λ pair. pair.0 == x) pairs

-- how many flags are set
abbrev pub set_flags : List Bool → ℕ
set_flags [] = 0
set_flags (flag ∷ flags) = cond flag (suc (set_flags flags)) (set_flags flags)

-- the flag of a variable
abbrev pub flag_of : List Bool → ℕ → Bool
flag_of flags x = slice_index_or flags x false

-- the sum of a variable
abbrev pub sum_at : List ℤ → ℕ → ℤ
sum_at sums x = slice_index_or sums x (pos 0)

-- each variable of the pairs has a place in an array of this length, and each coefficient is small
abbrev pub HavePlaces : ℕ → List (ℕ × ℤ) → Type 0
HavePlaces size pairs = AllByRecursion (IsSoundPair (size - 1)) pairs

-- so do those of tuples
abbrev pub AllHavePlaces : ℕ → List Place → Type 0
AllHavePlaces size places = AllByRecursion (λ place. HavePlaces size place.linear.pairs) places

-- no sum is larger than that of so many coefficients
abbrev pub AreWithin : ℕ → List ℤ → Type 0
AreWithin n sums = (x : ℕ) → unsigned_abs (sum_at sums x) ≤ n * 2 ^ 62

-- the two sums of a variable differ by little
abbrev pub differ_little : List ℤ → List ℤ → ℕ → Bool
differ_little left right x = is_small (sum_at left x -ℤ sum_at right x)

-- so do those of each variable of the pairs
abbrev pub pairs_differ_little : List ℤ → List ℤ → List (ℕ × ℤ) → Bool
pairs_differ_little left right pairs = list_all (λ pair. differ_little left right pair.0) pairs

-- so do those of each variable of the tuples
abbrev pub places_differ_little : List ℤ → List ℤ → List Place → Bool
places_differ_little left right places = list_all (λ place. pairs_differ_little left right place.linear.pairs) places

-- no flag is set
abbrev pub AreUnset : List Bool → Type 0
AreUnset flags = (x : ℕ) → flag_of flags x ≡ false

-- each sum is 0
abbrev pub AreZero : List ℤ → Type 0
AreZero sums = (x : ℕ) → sum_at sums x ≡ pos 0

-- a flag and two sums for each variable, none set
pub record IsClear (variables : ℕ) (scratch : Scratch) : Type 0 where
  pub flags : length scratch.seen.items ≡ variables + 1
  pub left_size : length scratch.left.items ≡ variables + 1
  pub right_size : length scratch.right.items ≡ variables + 1
  pub seen : AreUnset scratch.seen.items
  pub left : AreZero scratch.left.items
  pub right : AreZero scratch.right.items

-- the constant of a tuple's first place lies strictly between -2^62 and 2^62
abbrev pub HasSmallConstant : Place → Type 0
HasSmallConstant place = unsigned_abs place.linear.constant < 2 ^ 62

-- at most 65,536 coefficients, and they and the constant lie strictly between -2^62 and 2^62
pub record HasSmallNumbers (linear : Linear) : Type 0 where
  pub pairs : AllByRecursion (λ pair. unsigned_abs pair.1 < 2 ^ 62) linear.pairs
  pub few : length linear.pairs ≤ most
  pub small : unsigned_abs linear.constant < 2 ^ 62
