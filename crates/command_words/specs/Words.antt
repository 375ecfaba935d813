-- What the words of a command say: options, each with its value, and FILEs.
use Rattle.std.specs.Prelude.{ℕ, List, [], ◌∷◌, Bool, true, false, not, ◌==◌, ◌&&◌, ◌||◌, length, codes, Option, Some, None, option_map, option_and_then, if◌then◌else◌, nat_eq}
use Rattle.std.specs.List.{list_any, starts_with, before_first, after_first}
use Rattle.std.specs.Str.{bytes_eq}

abbrev pub Text : Type 0
Text = List ℕ

-- an option with its value, or a FILE
pub data Piece : Type 0 where
  given : Text → Text → Piece
  file : Text → Piece

-- not empty, and not beginning with `-`
abbrev pub is_plain : Text → Bool
is_plain [] = false
is_plain (first ∷ rest) = not (first == 45)

-- a FILE before `--`
abbrev pub is_file : Text → Bool
is_file word = bytes_eq word (codes "-") || is_plain word

-- the word is one of the options
abbrev pub is_option : List Text → Text → Bool
is_option options word = list_any (λ option. bytes_eq word option) options

-- what stands before the first `=` of the word, and what stands behind it
abbrev pub before_equals : Text → Text
before_equals word = before_first (λ byte. byte == 61) word

abbrev pub behind_equals : Text → Text
behind_equals word = after_first (λ byte. byte == 61) word

-- an option of two dashes, and behind `=` its value, which is not empty
abbrev pub is_attached : List Text → Text → Bool
is_attached options word =
    starts_with nat_eq (before_equals word) (codes "--")
    && (is_option options (before_equals word) && not (length (behind_equals word) == 0))

abbrev pub with_piece : Piece → Option (List Piece) → Option (List Piece)
with_piece piece = option_map (λ pieces. piece ∷ pieces)

-- behind `--` every word is a FILE, and none is empty
abbrev pub files_behind : List Text → Option (List Piece)
files_behind [] = Some []
files_behind (word ∷ rest) =
    if length word == 0 then None else with_piece (file word) (files_behind rest)

-- the pieces of the words, of which the first is the value of the option that waits for one, if any
abbrev pub pieces_from : List Text → Option Text → List Text → Option (List Piece)
pieces_from options None [] = Some []
pieces_from options (Some option) [] = None
pieces_from options (Some option) (word ∷ rest) =
    if is_plain word then with_piece (given option word) (pieces_from options None rest) else None
pieces_from options None (word ∷ rest) =
    if bytes_eq word (codes "--") then files_behind rest
    else (if is_option options word then pieces_from options (Some word) rest
    else (if is_attached options word
    then with_piece (given (before_equals word) (behind_equals word)) (pieces_from options None rest)
    else (if is_file word then with_piece (file word) (pieces_from options None rest) else None)))

-- the options that are given, in order
abbrev pub options_given : List Piece → List Text
options_given [] = []
options_given (given option value ∷ rest) = option ∷ options_given rest
options_given (file word ∷ rest) = options_given rest

-- each text stands once
abbrev pub all_different : List Text → Bool
all_different [] = true
all_different (x ∷ xs) = not (list_any (λ y. bytes_eq x y) xs) && all_different xs

-- the value that is given for an option
abbrev pub value_of : Text → List Piece → Option Text
value_of option [] = None
value_of option (given other value ∷ rest) = if bytes_eq other option then Some value else value_of option rest
value_of option (file word ∷ rest) = value_of option rest

-- the FILEs, in order
abbrev pub files_of : List Piece → List Text
files_of [] = []
files_of (given option value ∷ rest) = files_of rest
files_of (file word ∷ rest) = word ∷ files_of rest

-- the pieces, where each option stands at most once
abbrev pub once_each : List Piece → Option (List Piece)
once_each pieces = if all_different (options_given pieces) then Some pieces else None

-- the pieces of a command's words
abbrev pub pieces_of : List Text → List Text → Option (List Piece)
pieces_of options words = option_and_then once_each (pieces_from options None words)
