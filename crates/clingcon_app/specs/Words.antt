-- The words of the command.
use Rattle.std.specs.Prelude.{ℕ, Bool, true, false, not, ◌&&◌, ◌==◌, nat_lt, List, [], ◌∷◌, map, length, String, codes}
use Rattle.std.specs.Global.{Global}
use Rattle.std.specs.List.{list_all}
use Rattle.std.specs.String.{string_bytes}

-- the name of an input: a hyphen, or a word that is not empty and does not begin with a hyphen
abbrev pub is_file : List ℕ → Bool
is_file [] = false
is_file (byte ∷ []) = true
is_file (byte ∷ next ∷ rest) = not (byte == 45)

-- each word is the name of an input, and there are at most 65,536
abbrev pub are_files : List (String Global) → Bool
are_files words = nat_lt (length words) 65537 && list_all (λ word. is_file (string_bytes word)) words

-- the names of the inputs: the words, or `-` where there is none
abbrev pub names_of : List (String Global) → List (List ℕ)
names_of [] = codes "-" ∷ []
names_of (word ∷ words) = map string_bytes (word ∷ words)
