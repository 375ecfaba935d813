-- Which propagators are awake.
use Rattle.std.specs.Prelude.{ℕ, List}

-- how many propagators there are, and the places of those that are awake, in the order in which they are called
pub record Awake : Type 0 where
  pub count : ℕ
  pub places : List ℕ
