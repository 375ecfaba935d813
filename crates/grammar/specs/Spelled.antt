-- What the readers take of tokens: where they lie, and what they are spelled with. Only the readers' own code cites this file.
use Rattle.std.specs.Prelude.{ℕ, ◌^◌, ◌<◌, ◌≤◌, length, List, slice_index_or}
use Rattle.std.specs.List.{AllByRecursion}
use Rattle.std.specs.Str.Parse.{digits_value}
use Rattle.lexer.specs.declared.token.Token.{Token}
use Rattle.lexer.specs.declared.token.TokenKind.{TokenKind}
use Rattle.lexer.specs.declared.token.TokenKind.TheVariants.{Num, Anon}
use Rattle.lexer.specs.Tokens.{token_bytes}
use Rattle.grammar.specs.declared.words.WordKind.{WordKind}
use Rattle.grammar.specs.declared.words.WordKind.TheVariants.{Number, Text, Name, Variable, Anonymous, Not, Const, Show, Mark}
use Rattle.grammar.specs.Word.{Word, numeral, name, variable, anonymous, string, negation, const_word, show_word, mark, string_content}

-- a number of digits, with a value that an i32 holds
abbrev pub IsSpelled : TokenKind → List ℕ → Type 0
IsSpelled Num bytes = AllByRecursion (λ byte. (48 ≤ byte) × (byte ≤ 57)) bytes × (digits_value 10 bytes < 2 ^ 31)
IsSpelled _ bytes = Unit {0}

-- a token that lies in the text
pub record IsToken (text : List ℕ) (token : Token) : Type 0 where
  pub ordered : token.start ≤ token.«end»
  pub within : token.«end» ≤ length text
  pub spelled : IsSpelled token.kind (token_bytes text token)

-- tokens that lie in the text
abbrev pub AreTokens : List ℕ → List Token → Type 0
AreTokens text tokens = AllByRecursion (IsToken text) tokens

abbrev pub no_token : Token
no_token = record { kind = Anon; start = 0; «end» = 0 }

-- the bytes of the token at a place
abbrev pub bytes_at : List ℕ → List Token → ℕ → List ℕ
bytes_at text tokens at = token_bytes text (slice_index_or tokens at no_token)

-- the word of a kind with these bytes
abbrev pub word_by : WordKind → List ℕ → Word
word_by Number bytes = numeral (digits_value 10 bytes)
word_by Text bytes = string (string_content bytes)
word_by Name bytes = name bytes
word_by Variable bytes = variable bytes
word_by Anonymous bytes = anonymous
word_by Not bytes = negation
word_by Const bytes = const_word
word_by Show bytes = show_word
word_by (Mark m) bytes = mark m
