-- How many answers are wanted.
use Rattle.std.specs.Prelude.{ℕ, Bool, Option, unwrap_or, if◌then◌else◌}

-- how many answers are wanted, 0 for all: by default one, and with an objective all
abbrev pub answers_wanted : Option ℕ → Bool → ℕ
answers_wanted answers has_objective = unwrap_or answers (if has_objective then 0 else 1)
