-- Held and passing nogoods as one list, by id. Only the code of this crate reads this file.
use Rattle.std.specs.Prelude.{◌≡◌, ◌<◌, ℕ, nat_le, nat_lt, true, false, cond, List, [], ◌∷◌}
use Rattle.std.specs.List.{AllByRecursion}
use Rattle.std.specs.List.Sorted.{IsPartitionPoint}
use Rattle.proof_checker.specs.declared.live.Live.{Live}

-- a nogood in its place among those that follow one another by id
abbrev pub put : Live → List Live → List Live
put one [] = one ∷ []
put one (other ∷ rest) = cond (nat_le one.id other.id) (one ∷ other ∷ rest) (other ∷ put one rest)

-- both lists as one, by id
abbrev pub merged : List Live → List Live → List Live
merged [] passing = passing
merged (one ∷ held) passing = put one (merged held passing)

-- each id is above those before it
abbrev pub Ascend : List Live → Type 0
Ascend [] = Unit {0}
Ascend (one ∷ rest) = AllByRecursion (λ x. one.id < x.id) rest × Ascend rest

-- what is kept by id: the next id and the live nogoods
pub record Kept : Type 0 where
  pub next : ℕ
  pub live : List Live

-- the ids of both lists ascend up to the next one; the first has those that are held
pub record IsTable (next : ℕ) (held passing : List Live) : Type 0 where
  pub held_up : Ascend held
  pub passing_up : Ascend passing
  pub held_below : AllByRecursion (λ x. x.id < next) held
  pub passing_below : AllByRecursion (λ x. x.id < next) passing
  pub held_stay : AllByRecursion (λ x. x.is_held ≡ true) held
  pub passing_go : AllByRecursion (λ x. x.is_held ≡ false) passing

-- before this place all ids are below the id, and from there on none is
abbrev pub IsPlace : List Live → ℕ → ℕ → Type 0
IsPlace live id place = IsPartitionPoint (λ one. nat_lt one.id id ≡ true) (λ one. nat_lt one.id id ≡ false) live place
