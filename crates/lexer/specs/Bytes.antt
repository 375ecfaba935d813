-- Classes of bytes.
use Rattle.std.specs.Prelude.{ℕ, Bool, not, ◌==◌, ◌||◌, ◌&&◌, nat_le}

-- a blank, a tab, a carriage return or a line feed
abbrev pub is_blank : ℕ → Bool
is_blank byte = byte == 32 || byte == 9 || byte == 13 || byte == 10

abbrev pub is_line_feed : ℕ → Bool
is_line_feed byte = byte == 10

-- 0 to 9
abbrev pub is_digit : ℕ → Bool
is_digit byte = nat_le 48 byte && nat_le byte 57

-- a to z
abbrev pub is_lower : ℕ → Bool
is_lower byte = nat_le 97 byte && nat_le byte 122

-- A to Z
abbrev pub is_upper : ℕ → Bool
is_upper byte = nat_le 65 byte && nat_le byte 90

abbrev pub is_underscore : ℕ → Bool
is_underscore byte = byte == 95

-- what may stand in a name: a letter, a digit, an underscore or an apostrophe
abbrev pub is_name_byte : ℕ → Bool
is_name_byte byte = is_lower byte || is_upper byte || is_digit byte || is_underscore byte || byte == 39

-- what may stand behind a backslash in a string: a backslash, a quote or n
abbrev pub is_escape : ℕ → Bool
is_escape byte = byte == 92 || byte == 34 || byte == 110

-- what a name may begin with: a letter or an underscore
abbrev pub is_name_first : ℕ → Bool
is_name_first byte = is_lower byte || is_upper byte || is_underscore byte

-- what begins no number, no name, no string, no comment and no word, and is no blank
abbrev pub is_other : ℕ → Bool
is_other byte = not (is_blank byte || is_digit byte || is_name_first byte || byte == 34 || byte == 35 || byte == 37)
