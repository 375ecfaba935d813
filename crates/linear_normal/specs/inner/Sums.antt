-- Sums moved to one side, as the code gathers, sorts and joins their pairs.
use Rattle.std.specs.Prelude.{◌≡◌, ℕ, suc, ◌^◌, ◌<◌, ◌≤◌, false, not, if◌then◌else◌, ℤ, pos, neg_ℤ, List, [], ◌∷◌, ◌++◌, map, unsigned_abs, IsTrue}
use Rattle.std.specs.Ordering.{int_eq}
use Rattle.std.specs.List.{AllByRecursion, filter, flat_map, range_with_len}
use Rattle.ground_model.specs.declared.linear.Linear.{Linear}
use Rattle.ground_model.specs.declared.linear.Place.{Place}
use Rattle.ground_model.specs.declared.linear.Relation.{Relation}
use Rattle.ground_model.specs.Sound.{is_sound_relation}

-- the relation is sound over so many variables and some table of symbols
abbrev pub IsSoundOver : ℕ → Relation → Type 0
IsSoundOver variables relation = (symbols : ℕ) × IsTrue (is_sound_relation symbols variables relation)

-- of so many variables, in order, those whose number is not 0, each with it
abbrev pub nonzero_pairs : ℕ → (ℕ → ℤ) → List (ℕ × ℤ)
nonzero_pairs variables number =
    filter (λ pair. not (int_eq pair.1 (pos 0))) (map (λ x. (x, number x)) (range_with_len 1 variables))

-- the same variable with the opposite coefficient
abbrev pub opposite_pair : ℕ × ℤ → ℕ × ℤ
opposite_pair pair = (pair.0, neg_ℤ pair.1)

-- the pairs of linear terms, one term after another
abbrev pub pairs_in : List Linear → List (ℕ × ℤ)
pairs_in linears = flat_map (λ linear. linear.pairs) linears

-- the pairs of both sides, those on the right with opposite coefficients
abbrev pub both_sides : List Linear → List Linear → List (ℕ × ℤ)
both_sides left right = pairs_in left ++ map opposite_pair (pairs_in right)

-- the pair alone, or nothing where its coefficient is 0
abbrev pub kept_pair : ℕ × ℤ → List (ℕ × ℤ)
kept_pair pair = (if int_eq pair.1 (pos 0) then [] else pair ∷ [])

-- the coefficient lies strictly between -2^62 and 2^62
abbrev pub HasSmallCoefficient : ℕ × ℤ → Type 0
HasSmallCoefficient pair = unsigned_abs pair.1 < 2 ^ 62

-- so do the coefficients and the constant of a tuple's first place
pub record HasSmallNumbers (place : Place) : Type 0 where
  pub pairs : AllByRecursion HasSmallCoefficient place.linear.pairs
  pub constant : unsigned_abs place.linear.constant < 2 ^ 62

-- variables do not fall, from this one up to the last, and coefficients are small
abbrev pub Climbs : ℕ → ℕ → List (ℕ × ℤ) → Type 0
Climbs first last [] = Unit {0}
Climbs first last (pair ∷ rest) = (first ≤ pair.0) × (pair.0 ≤ last) × HasSmallCoefficient pair × Climbs pair.0 last rest

-- variables rise, from this one up to but not the end, and no coefficient is 0
abbrev pub Rises : ℕ → ℕ → List (ℕ × ℤ) → Type 0
Rises first end [] = first ≤ end
Rises first end (pair ∷ rest) = (first ≤ pair.0) × (int_eq pair.1 (pos 0) ≡ false) × Rises (suc pair.0) end rest
