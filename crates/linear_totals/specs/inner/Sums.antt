-- Sums over all pairs, and their runs of one variable.
use Rattle.std.specs.Prelude.{◌≡◌, ◌≤◌, ℕ, ◌==◌, Bool, false, if◌then◌else◌, Option, None, Some, ℤ, pos, negsuc, ◌+ℤ◌, ◌*ℤ◌, List, [], ◌∷◌}
use Rattle.std.specs.List.{AllByRecursion}
use Rattle.ground_model.specs.Sound.{is_small}
use Rattle.program_meaning.specs.declared.collected.CollectedPlace.{CollectedPlace}
use Rattle.linear_totals.specs.declared.runs.Run.{Run}

-- a pair with the other sign
abbrev pub turned : ℕ × ℤ → ℕ × ℤ
turned pair = (pair.0, negsuc 0 *ℤ pair.1)

-- the sum of the constants of first places
abbrev pub constants : List CollectedPlace → ℤ
constants [] = pos 0
constants (place ∷ rest) = place.linear.constant +ℤ constants rest

-- no variable is below one before it
abbrev pub Climb : List (ℕ × ℤ) → Type 0
Climb [] = Unit {0}
Climb (pair ∷ rest) = AllByRecursion (λ other. pair.0 ≤ other.0) rest × Climb rest

-- a run as its variable and its sum
abbrev pub run_in : Run → ℕ × ℤ
run_in run = (run.variable, run.sum)

-- a run with one pair more, or a new one where the sum of the last is small
abbrev pub next_run : ℕ × ℤ → ℕ × ℤ → Option (ℕ × ℤ)
next_run run pair = (if pair.0 == run.0 then Some (run.0, run.1 +ℤ pair.1) else (if is_small run.1 then Some pair else None))

abbrev pub IsNext : Option Run → Option (ℕ × ℤ) → Type 0
IsNext None wanted = wanted ≡ None
IsNext (Some run) wanted = wanted ≡ Some (run_in run)

-- a run and those behind it have small sums
abbrev pub are_small_runs : Option (ℕ × ℤ) → List (ℕ × ℤ) → Bool
are_small_runs None pairs = false
are_small_runs (Some run) [] = is_small run.1
are_small_runs (Some run) (pair ∷ rest) = are_small_runs (next_run run pair) rest
