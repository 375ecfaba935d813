-- Worlds: a set of atoms and a value for each variable, both by number.
use Rattle.std.specs.Prelude.{◌≡◌, ℕ, ◌+◌, Bool, true, false, ℤ, List, [], ◌∷◌, slice_index_or}
use Rattle.ground_model.specs.declared.answer.Answer.{Answer}
use Rattle.ground_model.specs.Answers.{value_at, has_atom}

-- a world
pub record World : Type 0 where
  pub atoms : ℕ → Bool
  pub values : ℕ → ℤ

-- the world of an answer
abbrev pub world_of : Answer → World
world_of answer = record { atoms = has_atom answer.atoms; values = value_at answer.values }

-- the world of the flags of atoms, that of atom n at place n, and of the variables' values in order
abbrev pub world_by : List Bool → List ℤ → World
world_by flags values = record { atoms = λ a. slice_index_or flags a false; values = value_at values }

-- the numbers of the flags that are set, the first flag's number being given
abbrev pub flagged_from : ℕ → List Bool → List ℕ
flagged_from n [] = []
flagged_from n (true ∷ flags) = n ∷ flagged_from (n + 1) flags
flagged_from n (false ∷ flags) = flagged_from (n + 1) flags

-- no flag is set
abbrev pub AreClear : List Bool → Type 0
AreClear flags = (a : ℕ) → slice_index_or flags a false ≡ false
