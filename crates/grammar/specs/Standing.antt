-- When the text of a word stands as its token: it has the token's form, and no byte behind it would make it longer.
use Rattle.std.specs.Prelude.{◌≡◌, ℕ, Bool, true, false, ◌==◌, not, List, [], ◌∷◌, ◌++◌, codes}
use Rattle.lexer.specs.Bytes.{is_digit, is_name_byte}
use Rattle.lexer.specs.Forms.{has_form, is_sound}
use Rattle.lexer.specs.Parts.{Part, token, blank}
use Rattle.lexer.specs.declared.token.TokenKind.{TokenKind}
use Rattle.lexer.specs.declared.token.TokenKind.TheVariants.{Num, Id, Var, Anon, Text, NotWord, ConstWord, ShowWord, Mark as MarkToken}
use Rattle.grammar.specs.declared.mark.Mark.{Mark}
use Rattle.grammar.specs.declared.mark.Mark.TheVariants.{Dot, Colon, Less, Greater}
use Rattle.grammar.specs.Word.{Word, numeral, name, variable, anonymous, string, negation, const_word, show_word, mark}
use Rattle.grammar.specs.WordText.{word_text}

-- the kind of a word's token
abbrev pub kind_of : Word → TokenKind
kind_of (numeral n) = Num
kind_of (name bytes) = Id
kind_of (variable bytes) = Var
kind_of anonymous = Anon
kind_of (string bytes) = Text
kind_of negation = NotWord
kind_of const_word = ConstWord
kind_of show_word = ShowWord
kind_of (mark m) = MarkToken

-- the word's text is a token of its kind
abbrev pub IsToken : Word → Type 0
IsToken word = (has_form (kind_of word) (word_text word) ≡ true) × (is_sound (kind_of word) (word_text word) ≡ true)

-- the byte behind a mark that would make it a longer one
abbrev pub mark_joins : Mark → ℕ → Bool
mark_joins Dot byte = byte == 46
mark_joins Colon byte = byte == 45
mark_joins Less byte = byte == 61
mark_joins Greater byte = byte == 61
mark_joins _ byte = false

-- the byte behind a word that would make its token longer
abbrev pub joins : Word → ℕ → Bool
joins (numeral n) byte = is_digit byte
joins (name bytes) byte = is_name_byte byte
joins (variable bytes) byte = is_name_byte byte
joins anonymous byte = is_name_byte byte
joins (string bytes) byte = false
joins negation byte = is_name_byte byte
joins const_word byte = false
joins show_word byte = false
joins (mark m) byte = mark_joins m byte

-- no byte with this property comes next
abbrev pub StopsAt : (ℕ → Bool) → List ℕ → Type 0
StopsAt test [] = Unit {0}
StopsAt test (byte ∷ rest) = test byte ≡ false

-- what a text is made of: words, and blanks between some of them
pub data Piece : Type 0 where
  solid : Word → Piece
  gap : Piece

abbrev pub piece_text : Piece → List ℕ
piece_text (solid word) = word_text word
piece_text gap = codes " "

abbrev pub pieces_text : List Piece → List ℕ
pieces_text [] = []
pieces_text (piece ∷ pieces) = piece_text piece ++ pieces_text pieces

-- the part of a text that a piece is
abbrev pub piece_part : Piece → Part
piece_part (solid word) = token (kind_of word) (word_text word)
piece_part gap = blank 32

-- each word is a token, and the byte behind it does not join it
abbrev pub AreApart : List Piece → Type 0
AreApart [] = Unit {0}
AreApart (solid word ∷ pieces) = IsToken word × StopsAt (joins word) (pieces_text pieces) × AreApart pieces
AreApart (gap ∷ pieces) = AreApart pieces
