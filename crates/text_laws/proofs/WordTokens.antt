-- Words and their texts: a word is what its text is read as, and the words of a text are tokens.
use Rattle.std.proofs.Common.{◌≡◌, ℕ, true, List, [], ◌∷◌, refl, sym, ap, subst}
use Rattle.std.specs.List.{AllByRecursion}
use Rattle.syntax_tree.specs.declared.literal.TheoryName.{TheoryName}
use Rattle.syntax_tree.specs.declared.literal.TheoryName.TheVariants as theory
use Rattle.syntax_tree.specs.Printed.{theory_name_text}
use Rattle.lexer.specs.declared.token.TokenKind.{TokenKind}
use Rattle.lexer.specs.declared.token.TokenKind.TheVariants.{Num, Id, Var, Anon, Text, NotWord, ConstWord, ShowWord, Mark as MarkToken}
use Rattle.lexer.specs.declared.token.Token.{Token}
use Rattle.lexer.specs.Forms.{has_form, is_sound}
use Rattle.lexer.specs.Parts.{IsTokenisation}
use Rattle.lexer.specs.Tokens.{token_bytes, IsTokenOf}
use Rattle.lexer.proofs.TokenLemmas.{each_token}
use Rattle.grammar.specs.declared.mark.Mark.{Mark}
use Rattle.grammar.specs.declared.mark.Mark.TheVariants.{Dot, Dots, Comma, Semicolon, Colon, Arrow, Open, Close, OpenBrace, CloseBrace, Plus, Minus, Times, Divide, Remainder, At, And, Equal, NotEqual, Less, LessEqual, Greater, GreaterEqual}
use Rattle.grammar.specs.Word.{Word, word_of, words_of, mark_of, string_content}
use Rattle.grammar.specs.Word as word
use Rattle.grammar.specs.WordText.{word_text, mark_text}
use Rattle.grammar.specs.Standing.{kind_of, IsToken}
use Rattle.text_laws.proofs.QuotedLaws.{quoted_back, string_token}
use Rattle.text_laws.proofs.DecimalLaws.{decimal_back, number_digits}

-- ---- a word's text is read as the word
mark_back : (m : Mark) → mark_of (mark_text m) ≡ m
mark_back Dot = refl
mark_back Dots = refl
mark_back Comma = refl
mark_back Semicolon = refl
mark_back Colon = refl
mark_back Arrow = refl
mark_back Open = refl
mark_back Close = refl
mark_back OpenBrace = refl
mark_back CloseBrace = refl
mark_back Plus = refl
mark_back Minus = refl
mark_back Times = refl
mark_back Divide = refl
mark_back Remainder = refl
mark_back At = refl
mark_back And = refl
mark_back Equal = refl
mark_back NotEqual = refl
mark_back Less = refl
mark_back LessEqual = refl
mark_back Greater = refl
mark_back GreaterEqual = refl

-- a number with more digits than are written is no token
pub word_back : (w : Word) → IsToken w → word_of (kind_of w) (word_text w) ≡ w
word_back (word.numeral n) is = ap word.numeral (decimal_back n is.0 is.1)
word_back (word.name bytes) is = refl
word_back (word.variable bytes) is = refl
word_back word.anonymous is = refl
word_back (word.string bytes) is = ap word.string (quoted_back bytes)
word_back word.negation is = refl
word_back word.const_word is = refl
word_back word.show_word is = refl
word_back (word.mark m) is = ap word.mark (mark_back m)

-- ---- words that are tokens
pub mark_token : (m : Mark) → IsToken (word.mark m)
mark_token Dot = (refl, refl)
mark_token Dots = (refl, refl)
mark_token Comma = (refl, refl)
mark_token Semicolon = (refl, refl)
mark_token Colon = (refl, refl)
mark_token Arrow = (refl, refl)
mark_token Open = (refl, refl)
mark_token Close = (refl, refl)
mark_token OpenBrace = (refl, refl)
mark_token CloseBrace = (refl, refl)
mark_token Plus = (refl, refl)
mark_token Minus = (refl, refl)
mark_token Times = (refl, refl)
mark_token Divide = (refl, refl)
mark_token Remainder = (refl, refl)
mark_token At = (refl, refl)
mark_token And = (refl, refl)
mark_token Equal = (refl, refl)
mark_token NotEqual = (refl, refl)
mark_token Less = (refl, refl)
mark_token LessEqual = (refl, refl)
mark_token Greater = (refl, refl)
mark_token GreaterEqual = (refl, refl)

-- the name of each theory atom is one
pub theory_name_token : (k : TheoryName) → IsToken (word.name (theory_name_text k))
theory_name_token theory.Sum = (refl, refl)
theory_name_token theory.Diff = (refl, refl)
theory_name_token theory.Distinct = (refl, refl)
theory_name_token theory.Disjoint = (refl, refl)
theory_name_token theory.Dom = (refl, refl)
theory_name_token theory.Minimize = (refl, refl)
theory_name_token theory.Maximize = (refl, refl)
theory_name_token theory.Show = (refl, refl)
theory_name_token theory.Unknown = (refl, refl)

-- what a token of this kind is read as is a token
abbrev IsTokenText : TokenKind → List ℕ → Type 0
IsTokenText kind bytes = (has_form kind bytes ≡ true) × (is_sound kind bytes ≡ true)

read_token : (kind : TokenKind) (bytes : List ℕ) → IsTokenText kind bytes → IsToken (word_of kind bytes)
read_token Num bytes is = subst (IsTokenText Num) (sym (number_digits bytes is.0 is.1)) is
read_token Id bytes is = is
read_token Var bytes is = is
read_token Anon bytes is = (refl, refl)
read_token Text bytes is = string_token (string_content bytes)
read_token NotWord bytes is = (refl, refl)
read_token ConstWord bytes is = (refl, refl)
read_token ShowWord bytes is = (refl, refl)
read_token MarkToken bytes is = mark_token (mark_of bytes)

each_read : (text : List ℕ) (tokens : List Token) → AllByRecursion (IsTokenOf text) tokens → AllByRecursion IsToken (words_of text tokens)
each_read text [] h = tt
each_read text (token ∷ tokens) h = (read_token token.kind (token_bytes text token) (h.0.form, h.0.sound), each_read text tokens h.1)

-- the words of a text are tokens
pub words_are_tokens : (text : List ℕ) (tokens : List Token) → IsTokenisation text tokens → AllByRecursion IsToken (words_of text tokens)
words_are_tokens text tokens is = each_read text tokens (each_token text tokens is.parted)
