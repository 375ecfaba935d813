-- The texts of the inputs, and their sizes.
use Rattle.std.specs.Prelude.{◌≡◌, ℕ, ◌+◌, ◌<◌, ◌≤◌, ◌^◌, ◌⊎◌, List, [], ◌∷◌, ◌++◌, length, take, slice_get, Some, IfSome, codes, decimal}
use Rattle.outside_io.specs.Outputs.{Input}

-- the bytes of texts
abbrev pub size_of : List (List ℕ) → ℕ
size_of [] = 0
size_of (text ∷ texts) = length text + size_of texts

-- each text has at most 16 MiB, and all together at most 64 MiB
abbrev pub AreSmall : List (List ℕ) → Type 0
AreSmall [] = Unit {0}
AreSmall (text ∷ texts) = (length text ≤ 2 ^ 24) × AreSmall texts

-- these are the texts under the names, where they are told
abbrev pub AreTold : Input → List (List ℕ) → List (List ℕ) → Type 0
AreTold files [] [] = Unit {0}
AreTold files [] (text ∷ texts) = ⊥
AreTold files (name ∷ names) [] = ⊥
AreTold files (name ∷ names) (text ∷ texts) = IfSome (files.text name) (λ told. text ≡ told) × AreTold files names texts

-- the texts of the inputs: each of a permitted size, and all of them together
pub record AreTexts (files : Input) (names : List (List ℕ)) (texts : List (List ℕ)) : Type 0 where
  pub told : AreTold files names texts
  pub small : AreSmall texts
  pub few : size_of texts ≤ 2 ^ 26

-- the text of this name is the first that has more than 16 MiB, or with which the texts have more than 64 MiB: so many bytes of it were taken
pub record IsTooLarge (files : Input) (names : List (List ℕ)) (taken : ℕ) (name : List ℕ) : Type 0 where
  pub before : List (List ℕ)
  pub here : slice_get names (length before) ≡ Some name
  pub texts : AreTexts files (take (length before) names) before
  pub large : (2 ^ 24 < taken) ⊎ (2 ^ 26 < size_of before + taken)
  pub told : IfSome (files.text name) (λ text. taken ≤ length text)

-- the line of a text that is too large
abbrev pub too_large_line : List ℕ → List ℕ
too_large_line name = name ++ codes ": error: text too large\n"

-- the line of a program with more ground instances than its limit, which tells this count
abbrev pub count_line : ℕ → List ℕ
count_line count = codes "error: ground limit, " ++ decimal count ++ codes " instances\n"
