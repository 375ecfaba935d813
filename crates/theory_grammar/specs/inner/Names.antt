-- The numbers of names by hash. Only this crate's code and its laws cite this file.
use Rattle.std.specs.Prelude.{◌≡◌, ℕ, zero, suc, ◌≤◌, Option, Some, None, is_some, if◌then◌else◌, List, [], ◌∷◌, ◌++◌, length, take}
use Rattle.std.specs.Map.{lookup}
use Rattle.std.specs.Str.{bytes_eq}
use Rattle.syntax_tree.specs.declared.rule.Name.{Name}
use Rattle.grammar.specs.Tree.{number_of}

-- a number from 1, if it is one
abbrev pub some_number : ℕ → Option ℕ
some_number zero = None
some_number (suc n) = Some (suc n)

-- the number that was found, or 0
abbrev pub numbered : Option ℕ → ℕ
numbered None = 0
numbered (Some n) = n

-- the numbers that are filed are those of the first names, so many of them
pub record IsFiled (names : List Name) (filed : ℕ) (entries : List (List ℕ × ℕ)) : Type 0 where
  pub within : filed ≤ length names
  pub numbers : (name : List ℕ) → lookup (bytes_eq name) entries ≡ some_number (number_of (take filed names) name)

-- one number more, unless the name has one
abbrev pub with_number : List (List ℕ × ℕ) → List ℕ → ℕ → List (List ℕ × ℕ)
with_number entries name number = (if is_some (lookup (bytes_eq name) entries) then entries else entries ++ (name, number) ∷ [])
