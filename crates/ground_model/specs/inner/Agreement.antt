-- How the check of an answer compares flags and values.
use Rattle.std.specs.Prelude.{◌≡◌, ℕ, ◌<◌, ◌+◌, Bool, false, ◌&&◌, ◌==◌, nat_le, ℤ, int_le, List, length, slice_index_or}
use Rattle.std.specs.List.{list_all}
use Rattle.symbols.specs.declared.ends.Ends.{Ends}
use Rattle.ground_model.specs.declared.answer.Answer.{Answer}
use Rattle.ground_model.specs.declared.program.GroundProgram.{GroundProgram}
use Rattle.ground_model.specs.Answers.{ascend_from, IsValuation}

-- each value lies within the ends, as a test
abbrev pub are_within : Ends → List ℤ → Bool
are_within ends values = list_all (λ value. int_le ends.min value && int_le value ends.max) values

-- the atoms ascend and are the program's, and each variable has one value within the ends, as a test
abbrev pub is_shaped : GroundProgram → Answer → Bool
is_shaped program answer =
    ascend_from 0 answer.atoms && list_all (λ n. nat_le n (length program.atoms)) answer.atoms
    && (length answer.values == length program.variables) && are_within program.ends answer.values

-- the flags of atoms counted from 0 are those of atoms counted from 1
abbrev pub Agree : List Bool → List Bool → Type 0
Agree least flags = (k : ℕ) → k < length least → slice_index_or least k false ≡ slice_index_or flags (k + 1) false

-- flags for the atoms of a program, none for the number 0, and a valuation
pub record IsStableCandidate (program : GroundProgram) (flags : List Bool) (values : List ℤ) : Type 0 where
  pub size : length flags ≡ length program.atoms + 1
  pub first : slice_index_or flags 0 false ≡ false
  pub valuation : IsValuation program values
