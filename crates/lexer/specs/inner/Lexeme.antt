-- What the readers of one part answer.
use Rattle.std.specs.Prelude.{◌≡◌, ℕ, zero, suc, ◌+◌, Bool, true, false, ◌==◌, ◌&&◌, if◌then◌else◌, List, [], ◌∷◌, ◌++◌, length, codes, Option, Some, None}
use Rattle.std.specs.Str.{bytes_eq}
use Rattle.lexer.specs.declared.token.TokenKind.{TokenKind}
use Rattle.lexer.specs.declared.token.TokenKind.TheVariants.{Id, Var, Anon, NotWord}
use Rattle.lexer.specs.declared.token.Token.{Token}
use Rattle.lexer.specs.declared.lexeme.Lexeme.{Lexeme}
use Rattle.lexer.specs.declared.lexeme.Lexeme.TheVariants.{Gap, Single, Anons}
use Rattle.lexer.specs.Bytes.{is_lower, is_upper, is_underscore, is_escape}
use Rattle.lexer.specs.Forms.{is_long_mark}
use Rattle.lexer.specs.Parts.{Part, parts_text, AllStand, tokens_of}

-- so many variables without a name, the first of which stands at a place
abbrev pub anon_tokens : ℕ → ℕ → List Token
anon_tokens at zero = []
anon_tokens at (suc count) = anon_tokens at count ++ record { kind = Anon; start = at + count; «end» = (at + count) + 1 } ∷ []

-- how many bytes a lexeme takes
abbrev pub lexeme_length : Lexeme → ℕ
lexeme_length (Gap long) = long
lexeme_length (Single kind long) = long
lexeme_length (Anons count) = count

-- the tokens of a lexeme at a place
abbrev pub lexeme_tokens : ℕ → Lexeme → List Token
lexeme_tokens at (Gap long) = []
lexeme_tokens at (Single kind long) = record { kind = kind; start = at; «end» = at + long } ∷ []
lexeme_tokens at (Anons count) = anon_tokens at count

-- parts stand at the front with the length and the tokens of the lexeme
pub record IsLexeme (rest : List ℕ) (lexeme : Lexeme) : Type 0 where
  pub parts : List Part
  pub behind : List ℕ
  pub begins : rest ≡ parts_text parts behind
  pub stand : AllStand parts behind
  pub some : (parts ≡ []) → ⊥
  pub tokens : (at : ℕ) → tokens_of at parts ≡ lexeme_tokens at lexeme
  pub long : lexeme_length lexeme ≡ length (parts_text parts [])

-- the kind of name that a letter begins
abbrev pub letter_kind : ℕ → Option TokenKind
letter_kind byte = (if is_lower byte then Some Id else (if is_upper byte then Some Var else None))

-- the kind of name that stands at the front: that of the letter behind its underscores
abbrev pub name_kind : List ℕ → Option TokenKind
name_kind [] = None
name_kind (byte ∷ rest) = (if is_underscore byte then name_kind rest else letter_kind byte)

-- a name is the word `not`, or what its first letter says
abbrev pub word_kind : TokenKind → List ℕ → TokenKind
word_kind kind word = (if bytes_eq word (codes "not") then NotWord else kind)

-- a mark of two bytes stands at the front
abbrev pub begins_long_mark : List ℕ → Bool
begins_long_mark [] = false
begins_long_mark (byte ∷ []) = false
begins_long_mark (first ∷ second ∷ rest) = is_long_mark first second

-- where a string's inside ends behind its closing quote, if it closes: a number of bytes further on than the count given
abbrev pub string_from : ℕ → List ℕ → Bool → Option ℕ
string_from more [] escaped = None
string_from more (byte ∷ rest) true = (if is_escape byte then string_from (more + 1) rest false else None)
string_from more (byte ∷ rest) false =
    (if byte == 34 then Some (more + 1) else (if byte == 10 then None else string_from (more + 1) rest (byte == 92)))

-- `%*` stands at the front
abbrev pub begins_comment : List ℕ → Bool
begins_comment [] = false
begins_comment (byte ∷ []) = false
begins_comment (first ∷ second ∷ rest) = (first == 37) && (second == 42)
