-- The words of a text: what its tokens are to the grammar.
use Rattle.std.specs.Prelude.{◌≡◌, ℕ, Bool, true, false, ◌==◌, if◌then◌else◌, List, [], ◌∷◌, map, drop}
use Rattle.std.specs.Str.Parse.{digits_value}
use Rattle.lexer.specs.Tokens.{token_bytes}
use Rattle.lexer.specs.declared.token.Token.{Token}
use Rattle.lexer.specs.declared.token.TokenKind.{TokenKind}
use Rattle.lexer.specs.declared.token.TokenKind.TheVariants.{Num, Id, Var, Anon, Text, NotWord, ConstWord, ShowWord, Mark as MarkToken}
use Rattle.grammar.specs.declared.mark.Mark.{Mark}
use Rattle.grammar.specs.declared.mark.Mark.TheVariants.{Dot, Dots, Comma, Semicolon, Colon, Arrow, Open, Close, OpenBrace, CloseBrace, Plus, Minus, Times, Divide, Remainder, At, And, Equal, NotEqual, Less, LessEqual, Greater, GreaterEqual}

-- a number, a name, a variable by its name, `_`, what a string holds, `not`, `#const`, `#show`, or a mark
pub data Word : Type 0 where
  numeral : ℕ → Word
  name : List ℕ → Word
  variable : List ℕ → Word
  anonymous : Word
  string : List ℕ → Word
  negation : Word
  const_word : Word
  show_word : Word
  mark : Mark → Word

-- the mark of one byte
abbrev pub short_mark : ℕ → Mark
short_mark byte =
    (if byte == 46 then Dot
    else (if byte == 44 then Comma
    else (if byte == 59 then Semicolon
    else (if byte == 58 then Colon
    else (if byte == 40 then Open
    else (if byte == 41 then Close
    else (if byte == 123 then OpenBrace
    else (if byte == 125 then CloseBrace
    else (if byte == 43 then Plus
    else (if byte == 45 then Minus
    else (if byte == 42 then Times
    else (if byte == 47 then Divide
    else (if byte == 92 then Remainder
    else (if byte == 64 then At
    else (if byte == 38 then And
    else (if byte == 61 then Equal
    else (if byte == 60 then Less
    else Greater)))))))))))))))))

-- the mark of two bytes, which its first byte tells
abbrev pub long_mark : ℕ → Mark
long_mark byte =
    (if byte == 46 then Dots
    else (if byte == 58 then Arrow
    else (if byte == 33 then NotEqual
    else (if byte == 60 then LessEqual
    else GreaterEqual))))

-- the mark with these bytes
abbrev pub mark_of : List ℕ → Mark
mark_of [] = Dot
mark_of (byte ∷ []) = short_mark byte
mark_of (first ∷ second ∷ rest) = long_mark first

-- the byte that an escape stands for: a line feed for n, and else itself
abbrev pub escaped : ℕ → ℕ
escaped byte = (if byte == 110 then 10 else byte)

-- what a string holds, its escapes undone, where its closing quote still stands behind; `escape` where a backslash stands before
abbrev pub unquoted : List ℕ → Bool → List ℕ
unquoted [] escape = []
unquoted (byte ∷ rest) true = escaped byte ∷ unquoted rest false
unquoted (byte ∷ rest) false = (if byte == 34 then [] else (if byte == 92 then unquoted rest true else byte ∷ unquoted rest false))

-- what a string between its quotes holds
abbrev pub string_content : List ℕ → List ℕ
string_content bytes = unquoted (drop 1 bytes) false

-- the word that a token of this kind with these bytes is
abbrev pub word_of : TokenKind → List ℕ → Word
word_of Num bytes = numeral (digits_value 10 bytes)
word_of Id bytes = name bytes
word_of Var bytes = variable bytes
word_of Anon bytes = anonymous
word_of Text bytes = string (string_content bytes)
word_of NotWord bytes = negation
word_of ConstWord bytes = const_word
word_of ShowWord bytes = show_word
word_of MarkToken bytes = mark (mark_of bytes)

-- the words that the tokens of a text are
abbrev pub words_of : List ℕ → List Token → List Word
words_of text tokens = map (λ token. word_of token.kind (token_bytes text token)) tokens

-- the words from a place of the tokens on
abbrev pub words_at : List ℕ → List Token → ℕ → List Word
words_at text tokens at = drop at (words_of text tokens)

-- marks by number, so that two of them can be told apart
abbrev pub mark_number : Mark → ℕ
mark_number Dot = 0
mark_number Dots = 1
mark_number Comma = 2
mark_number Semicolon = 3
mark_number Colon = 4
mark_number Arrow = 5
mark_number Open = 6
mark_number Close = 7
mark_number OpenBrace = 8
mark_number CloseBrace = 9
mark_number Plus = 10
mark_number Minus = 11
mark_number Times = 12
mark_number Divide = 13
mark_number Remainder = 14
mark_number At = 15
mark_number And = 16
mark_number Equal = 17
mark_number NotEqual = 18
mark_number Less = 19
mark_number LessEqual = 20
mark_number Greater = 21
mark_number GreaterEqual = 22

-- the word is this mark
abbrev pub is_word : Mark → Word → Bool
is_word m (mark other) = mark_number m == mark_number other
is_word m (numeral n) = false
is_word m (name bytes) = false
is_word m (variable bytes) = false
is_word m anonymous = false
is_word m (string bytes) = false
is_word m negation = false
is_word m const_word = false
is_word m show_word = false

-- the mark comes next
abbrev pub is_next : Mark → List Word → Bool
is_next m [] = false
is_next m (word ∷ words) = is_word m word

-- the words do not go on with a form, where this test says which words would
abbrev pub Ends : (Word → Bool) → List Word → Type 0
Ends goes_on [] = Unit {0}
Ends goes_on (next ∷ words) = goes_on next ≡ false
