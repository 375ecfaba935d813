-- What a queue keeps. Only the code of this crate reads this file.
use Rattle.std.specs.Prelude.{◌≡◌, ℕ, ◌<◌, Bool, true, false, List, length, get_or, Contains}
use Rattle.std.specs.List.{AllByRecursion}

-- places are those of propagators, and one with a flag is among them
pub record IsQueue (flags : List Bool) (places : List ℕ) : Type 0 where
  pub within : AllByRecursion (λ i. i < length flags) places
  pub flagged : (i : ℕ) → get_or flags i false ≡ true → Contains places i
