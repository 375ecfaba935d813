-- Calls that are counted from 1, over all kinds, and of which those of listed numbers fail.
use Rattle.std.specs.Prelude.{◌≡◌, ◌+◌, ◌-◌, ◌^◌, min, ℕ, List, Contains}
use Rattle.outside_io.specs.declared.calls.Calls.{Calls}

-- the number of the next call; the count of calls stops at its last value
abbrev pub next_number : Calls → ℕ
next_number calls = min (calls.made + 1) (2 ^ 64 - 1)

-- the next call is one of those that fail
abbrev pub NextFails : Calls → Type 0
NextFails calls = Contains calls.failing (next_number calls)

-- one more call was made, and the same numbers fail
pub record CountsCall (old new : Calls) : Type 0 where
  pub made : new.made ≡ next_number old
  pub failing : new.failing ≡ old.failing

-- no call was made, none has failed, and those of these numbers will fail
pub record IsFresh (calls : Calls) (numbers : List ℕ) : Type 0 where
  pub made : calls.made ≡ 0
  pub faults : calls.faults ≡ 0
  pub failing : calls.failing ≡ numbers
