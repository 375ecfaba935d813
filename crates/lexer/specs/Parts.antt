-- The parts of a text: tokens, and the blanks and comments between them.
use Rattle.std.specs.Prelude.{◌≡◌, ℕ, ◌+◌, Bool, true, false, ◌==◌, ◌&&◌, if◌then◌else◌, Option, Some, None, List, [], ◌∷◌, ◌++◌, length}
use Rattle.std.specs.List.{before_first}
use Rattle.std.specs.Str.{IsUtf8}
use Rattle.lexer.specs.declared.token.TokenKind.{TokenKind}
use Rattle.lexer.specs.declared.token.Token.{Token}
use Rattle.lexer.specs.Bytes.{is_blank, is_line_feed}
use Rattle.lexer.specs.Forms.{has_form, is_sound}

-- a blank; a comment behind its `%`; a comment between its `%*` and `*%`; a token of a kind
pub data Part : Type 0 where
  blank : ℕ → Part
  line_comment : List ℕ → Part
  comment : List ℕ → Part
  token : TokenKind → List ℕ → Part

abbrev pub part_bytes : Part → List ℕ
part_bytes (blank byte) = byte ∷ []
part_bytes (line_comment inside) = 37 ∷ inside
part_bytes (comment inside) = 37 ∷ 42 ∷ (inside ++ 42 ∷ 37 ∷ [])
part_bytes (token kind bytes) = bytes

-- the token that a part is, where it stands at a place
abbrev pub part_tokens : ℕ → Part → List Token
part_tokens at (blank byte) = []
part_tokens at (line_comment inside) = []
part_tokens at (comment inside) = []
part_tokens at (token kind bytes) = record { kind = kind; start = at; «end» = at + length bytes } ∷ []

-- no more bytes of the rest give a token: the longest is taken
abbrev pub IsLongest : List ℕ → List ℕ → Type 0
IsLongest bytes rest = (kind : TokenKind) (more after : List ℕ) → rest ≡ more ++ after → has_form kind (bytes ++ more) ≡ true → more ≡ []

-- these bytes are the token that begins there, with the rest of the text behind them
pub record BeginsThere (kind : TokenKind) (bytes rest : List ℕ) : Type 0 where
  pub form : has_form kind bytes ≡ true
  pub longest : IsLongest bytes rest

abbrev pub begins_star : List ℕ → Bool
begins_star [] = false
begins_star (byte ∷ rest) = byte == 42

abbrev pub begins_close : List ℕ → Bool
begins_close [] = false
begins_close (byte ∷ []) = false
begins_close (first ∷ second ∷ rest) = (first == 42) && (second == 37)

-- where the first `*%` begins, if there is one: a number of bytes further on than the count given
abbrev pub close_from : ℕ → List ℕ → Option ℕ
close_from more [] = None
close_from more (byte ∷ rest) = (if begins_close (byte ∷ rest) then Some more else close_from (more + 1) rest)

-- the part stands there, with the rest of the text behind it
abbrev pub Stands : Part → List ℕ → Type 0
Stands (blank byte) rest = is_blank byte ≡ true
Stands (line_comment inside) rest = (begins_star (inside ++ rest) ≡ false) × (before_first is_line_feed (inside ++ rest) ≡ inside)
Stands (comment inside) rest = close_from 0 (inside ++ 42 ∷ 37 ∷ rest) ≡ Some (length inside)
Stands (token kind bytes) rest = BeginsThere kind bytes rest × (is_sound kind bytes ≡ true)

-- the text of parts, with the rest behind them
abbrev pub parts_text : List Part → List ℕ → List ℕ
parts_text [] rest = rest
parts_text (part ∷ parts) rest = part_bytes part ++ parts_text parts rest

-- each part stands in its place, with the rest of the text behind them
abbrev pub AllStand : List Part → List ℕ → Type 0
AllStand [] rest = Unit {0}
AllStand (part ∷ parts) rest = Stands part (parts_text parts rest) × AllStand parts rest

-- the tokens of parts, the first of which stands at a place
abbrev pub tokens_of : ℕ → List Part → List Token
tokens_of at [] = []
tokens_of at (part ∷ parts) = part_tokens at part ++ tokens_of (at + length (part_bytes part)) parts

-- the text is parts alone, and these are their tokens
pub record IsParted (text : List ℕ) (tokens : List Token) : Type 0 where
  pub parts : List Part
  pub whole : text ≡ parts_text parts []
  pub stand : AllStand parts []
  pub are : tokens ≡ tokens_of 0 parts

-- these are the tokens of the text, in order, with blanks and comments alone between them
pub record IsTokenisation (text : List ℕ) (tokens : List Token) : Type 0 where
  pub utf8 : IsUtf8 text
  pub parted : IsParted text tokens
