-- Tuples that are one variable.
use Rattle.std.specs.Prelude.{ℕ, Bool, false, ◌&&◌, ◌==◌, if◌then◌else◌, ℤ, pos, List, [], ◌∷◌, Option, None, Some, slice_index_or}
use Rattle.std.specs.Ordering.{int_eq}
use Rattle.program_meaning.specs.declared.collected.CollectedPlace.{CollectedPlace}

abbrev pub lone_from : List (ℕ × ℤ) → ℤ → Option ℕ
lone_from [] constant = None
lone_from (pair ∷ []) constant = (if int_eq pair.1 (pos 1) && int_eq constant (pos 0) then Some pair.0 else None)
lone_from (pair ∷ other ∷ rest) constant = None

-- the variable that the first place is, with coefficient 1 and nothing beside it
abbrev pub lone_variable : CollectedPlace → Option ℕ
lone_variable place = lone_from place.linear.pairs place.linear.constant

abbrev pub is_it : ℕ → Option ℕ → Bool
is_it id None = false
is_it id (Some other) = other == id

-- it is this variable
abbrev pub is_lone : ℕ → CollectedPlace → Bool
is_lone id place = is_it id (lone_variable place)

-- a flag by id
abbrev pub flag_of : List Bool → ℕ → Bool
flag_of flags id = slice_index_or flags id false
