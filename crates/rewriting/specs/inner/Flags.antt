-- Which variables were seen before, as flags.
use Rattle.std.specs.Prelude.{◌≡◌, ◌<◌, ◌==◌, ℕ, Bool, false, if◌then◌else◌, List, [], ◌∷◌, ◌++◌, Option, None, Some, IfSome, slice_index_or, length}
use Rattle.std.specs.List.{list_any}
use Rattle.rewriting.specs.declared.sight.Sight.{Sight}
use Rattle.rewriting.specs.Order.{variable_in}

-- the variable that is seen, if one is, has a lesser number
abbrev pub IsBelow : ℕ → Sight → Type 0
IsBelow size sight = IfSome (variable_in sight) (λ n. n < size)

-- the flag of a number says whether it is listed, where the flags reach that far
abbrev pub AreFlags : List Bool → List ℕ → Type 0
AreFlags flags listed = (n : ℕ) → n < length flags → slice_index_or flags n false ≡ list_any (λ m. m == n) listed

-- the variable behind those before it, unless it is among them, or none is seen
abbrev pub noted : Option ℕ → List ℕ → List ℕ
noted None order = order
noted (Some n) order = (if list_any (λ m. m == n) order then order else order ++ n ∷ [])
