-- Lines and columns, from 1.
use Rattle.std.specs.Prelude.{ℕ, ◌+◌, Bool, not, List, take}
use Rattle.std.specs.List.{count_by, suffix_len}
use Rattle.lexer.specs.Bytes.{is_line_feed}

-- a byte that ends no line
abbrev pub is_in_line : ℕ → Bool
is_in_line byte = not (is_line_feed byte)

-- one more than the line feeds before it
abbrev pub line_of : List ℕ → ℕ → ℕ
line_of text at = count_by is_line_feed (take at text) + 1

-- one more than the bytes between the last line feed before it and it
abbrev pub column_of : List ℕ → ℕ → ℕ
column_of text at = suffix_len is_in_line (take at text) + 1
