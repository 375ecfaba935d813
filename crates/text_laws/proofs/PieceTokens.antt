-- The text of pieces that are apart is tokenised into the tokens of its words, and these are read as the words.
use Rattle.std.proofs.Common.{◌≡◌, ℕ, ◌+◌, true, List, [], ◌∷◌, ◌++◌, map, length, codes, IsUtf8, refl, sym, ◌∙◌, ap, append_assoc, length-append}
use Rattle.std.specs.List.{AllByRecursion, slice_range}
use Rattle.std.proofs.lemmas.Str.{IsUtf8-append, IsUtf8-nil, IsUtf8-from_is_utf8}
use Rattle.symbols.specs.Text.{quoted}
use Rattle.lexer.specs.Bytes.{is_digit, is_name_byte}
use Rattle.lexer.specs.Forms.{is_digits}
use Rattle.lexer.specs.Parts.{tokens_of, IsTokenisation}
use Rattle.lexer.proofs.ByteLemmas.{name_from_digit}
use Rattle.lexer.proofs.FormLemmas.{id_name, list_all-weaker}
use Rattle.lexer.proofs.TokenFacts.{name_bytes, var_name_bytes, name_utf8}
use Rattle.lexer.proofs.TokenLemmas.{range_at}
use Rattle.grammar.specs.declared.mark.Mark.{Mark}
use Rattle.grammar.specs.declared.mark.Mark.TheVariants.{Dot, Dots, Comma, Semicolon, Colon, Arrow, Open, Close, OpenBrace, CloseBrace, Plus, Minus, Times, Divide, Remainder, At, And, Equal, NotEqual, Less, LessEqual, Greater, GreaterEqual}
use Rattle.grammar.specs.Word.{Word, word_of, words_of}
use Rattle.grammar.specs.Word as word
use Rattle.grammar.specs.WordText.{word_text, mark_text}
use Rattle.grammar.specs.Written.{is_written}
use Rattle.grammar.specs.Standing.{kind_of, IsToken, Piece, solid, gap, pieces_text, piece_part, AreApart}
use Rattle.grammar.proofs.StandingLaws.{pieces_parted}
use Rattle.text_laws.proofs.Pieces.{words_in}
use Rattle.text_laws.proofs.QuotedLaws.{ascii_utf8, quoted_utf8}
use Rattle.text_laws.proofs.WordTokens.{word_back}

-- ---- the text is UTF-8
mark_utf8 : (m : Mark) → IsUtf8 (mark_text m)
mark_utf8 Dot = ascii_utf8 (mark_text Dot) refl
mark_utf8 Dots = ascii_utf8 (mark_text Dots) refl
mark_utf8 Comma = ascii_utf8 (mark_text Comma) refl
mark_utf8 Semicolon = ascii_utf8 (mark_text Semicolon) refl
mark_utf8 Colon = ascii_utf8 (mark_text Colon) refl
mark_utf8 Arrow = ascii_utf8 (mark_text Arrow) refl
mark_utf8 Open = ascii_utf8 (mark_text Open) refl
mark_utf8 Close = ascii_utf8 (mark_text Close) refl
mark_utf8 OpenBrace = ascii_utf8 (mark_text OpenBrace) refl
mark_utf8 CloseBrace = ascii_utf8 (mark_text CloseBrace) refl
mark_utf8 Plus = ascii_utf8 (mark_text Plus) refl
mark_utf8 Minus = ascii_utf8 (mark_text Minus) refl
mark_utf8 Times = ascii_utf8 (mark_text Times) refl
mark_utf8 Divide = ascii_utf8 (mark_text Divide) refl
mark_utf8 Remainder = ascii_utf8 (mark_text Remainder) refl
mark_utf8 At = ascii_utf8 (mark_text At) refl
mark_utf8 And = ascii_utf8 (mark_text And) refl
mark_utf8 Equal = ascii_utf8 (mark_text Equal) refl
mark_utf8 NotEqual = ascii_utf8 (mark_text NotEqual) refl
mark_utf8 Less = ascii_utf8 (mark_text Less) refl
mark_utf8 LessEqual = ascii_utf8 (mark_text LessEqual) refl
mark_utf8 Greater = ascii_utf8 (mark_text Greater) refl
mark_utf8 GreaterEqual = ascii_utf8 (mark_text GreaterEqual) refl

digits_utf8 : (bytes : List ℕ) → is_digits bytes ≡ true → IsUtf8 bytes
digits_utf8 [] h = IsUtf8-nil
digits_utf8 (byte ∷ bytes) h = name_utf8 (byte ∷ bytes) (list_all-weaker is_digit is_name_byte (byte ∷ bytes) name_from_digit h)

string_utf8 : (bytes : List ℕ) → IsUtf8 bytes → IsUtf8 (word_text (word.string bytes))
string_utf8 bytes u = IsUtf8-append (codes "\"") (quoted bytes ++ codes "\"") (ascii_utf8 (codes "\"") refl) (IsUtf8-append (quoted bytes) (codes "\"") (quoted_utf8 bytes u) (ascii_utf8 (codes "\"") refl))

word_utf8 : (w : Word) → IsToken w → is_written w ≡ true → IsUtf8 (word_text w)
word_utf8 (word.numeral n) is written = digits_utf8 (word_text (word.numeral n)) is.0
word_utf8 (word.name bytes) is written = name_utf8 bytes (name_bytes bytes (id_name bytes is.0))
word_utf8 (word.variable bytes) is written = name_utf8 bytes (var_name_bytes bytes is.0)
word_utf8 word.anonymous is written = ascii_utf8 (codes "_") refl
word_utf8 (word.string bytes) is written = string_utf8 bytes (IsUtf8-from_is_utf8 bytes written)
word_utf8 word.negation is written = ascii_utf8 (codes "not") refl
word_utf8 word.const_word is written = ascii_utf8 (codes "#const") refl
word_utf8 word.show_word is written = ascii_utf8 (codes "#show") refl
word_utf8 (word.mark m) is written = mark_utf8 m

pieces_utf8 : (pieces : List Piece) → AreApart pieces → AllByRecursion (λ w. is_written w ≡ true) (words_in pieces) → IsUtf8 (pieces_text pieces)
pieces_utf8 [] apart written = IsUtf8-nil
pieces_utf8 (solid w ∷ pieces) apart written = IsUtf8-append (word_text w) (pieces_text pieces) (word_utf8 w apart.0 written.0) (pieces_utf8 pieces apart.2 written.1)
pieces_utf8 (gap ∷ pieces) apart written = IsUtf8-append (codes " ") (pieces_text pieces) (ascii_utf8 (codes " ") refl) (pieces_utf8 pieces apart written)

-- ---- its tokens are read as the words
tokens_behind : (before part : List ℕ) (pieces : List Piece) (text : List ℕ) (words : List Word) → text ≡ before ++ (part ++ pieces_text pieces)
    → ((front : List ℕ) → text ≡ front ++ pieces_text pieces → words_of text (tokens_of (length front) (map piece_part pieces)) ≡ words)
    → words_of text (tokens_of (length before + length part) (map piece_part pieces)) ≡ words
tokens_behind before part pieces text words e each =
    ap (λ k. words_of text (tokens_of k (map piece_part pieces))) (sym (length-append before part)) ∙ each (before ++ part) (e ∙ sym (append_assoc before part (pieces_text pieces)))

word_there : (before : List ℕ) (w : Word) (rest text : List ℕ) → text ≡ before ++ (word_text w ++ rest) → IsToken w
    → word_of (kind_of w) (slice_range text (length before) (length before + length (word_text w))) ≡ w
word_there before w rest text e is =
    ap (λ l. word_of (kind_of w) (slice_range l (length before) (length before + length (word_text w)))) e
    ∙ ap (word_of (kind_of w)) (range_at before (word_text w) rest) ∙ word_back w is

tokens_read : (before : List ℕ) (pieces : List Piece) (text : List ℕ) → text ≡ before ++ pieces_text pieces → AreApart pieces
    → words_of text (tokens_of (length before) (map piece_part pieces)) ≡ words_in pieces
tokens_read before [] text e apart = refl
tokens_read before (solid w ∷ pieces) text e apart =
    let first = word_there before w (pieces_text pieces) text e apart.0 in
    let rest = tokens_behind before (word_text w) pieces text (words_in pieces) e (λ front g. tokens_read front pieces text g apart.2) in
    (λ i. first i ∷ rest i)
tokens_read before (gap ∷ pieces) text e apart = tokens_behind before (codes " ") pieces text (words_in pieces) e (λ front g. tokens_read front pieces text g apart)

-- the text of pieces that are apart is tokenised, and its words are those of the pieces
pub pieces_tokenised : (pieces : List Piece) → AreApart pieces → AllByRecursion (λ w. is_written w ≡ true) (words_in pieces)
    → IsTokenisation (pieces_text pieces) (tokens_of 0 (map piece_part pieces)) × (words_of (pieces_text pieces) (tokens_of 0 (map piece_part pieces)) ≡ words_in pieces)
pieces_tokenised pieces apart written = (record { utf8 = pieces_utf8 pieces apart written; parted = pieces_parted pieces apart }, tokens_read [] pieces (pieces_text pieces) refl apart)
