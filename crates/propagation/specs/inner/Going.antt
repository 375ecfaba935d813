-- What propagators stand for while they are undone. Only the code of this crate reads this file.
use Rattle.std.specs.Prelude.{◌≡◌, ℕ, ◌<◌, ◌≤◌, List, length, get_or}
use Rattle.symbols.specs.declared.ends.Ends.{Ends}
use Rattle.trail.specs.declared.entry.Entry.{Entry}
use Rattle.trail.specs.Assignment.{Assignment}
use Rattle.propagator_core.specs.Standing.{StandsFor}

-- the first so many stand for the trail, and the others are as they were
pub record AreUndone {X : Type 0} (stands : X → Ends → List Entry → Type 0) (looked : X → ℕ) (count : ℕ) (old new : List X) (t : Assignment) : Type 0 where
  pub as_many : length new ≡ length old
  pub first : (k : ℕ) (d : X) → k < count → k < length new → StandsFor (stands (get_or new k d)) (looked (get_or new k d)) t
  pub others : (k : ℕ) (d : X) → count ≤ k → get_or new k d ≡ get_or old k d
