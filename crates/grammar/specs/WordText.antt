-- The bytes that words are written with.
use Rattle.std.specs.Prelude.{ℕ, List, [], ◌∷◌, ◌++◌, codes, decimal}
use Rattle.symbols.specs.Text.{quoted}
use Rattle.grammar.specs.declared.mark.Mark.{Mark}
use Rattle.grammar.specs.declared.mark.Mark.TheVariants.{Dot, Dots, Comma, Semicolon, Colon, Arrow, Open, Close, OpenBrace, CloseBrace, Plus, Minus, Times, Divide, Remainder, At, And, Equal, NotEqual, Less, LessEqual, Greater, GreaterEqual}
use Rattle.grammar.specs.Word.{Word, numeral, name, variable, anonymous, string, negation, const_word, show_word, mark}

abbrev pub mark_text : Mark → List ℕ
mark_text Dot = codes "."
mark_text Dots = codes ".."
mark_text Comma = codes ","
mark_text Semicolon = codes ";"
mark_text Colon = codes ":"
mark_text Arrow = codes ":-"
mark_text Open = codes "("
mark_text Close = codes ")"
mark_text OpenBrace = codes "{"
mark_text CloseBrace = codes "}"
mark_text Plus = codes "+"
mark_text Minus = codes "-"
mark_text Times = codes "*"
mark_text Divide = codes "/"
mark_text Remainder = codes "\\"
mark_text At = codes "@"
mark_text And = codes "&"
mark_text Equal = codes "="
mark_text NotEqual = codes "!="
mark_text Less = codes "<"
mark_text LessEqual = codes "<="
mark_text Greater = codes ">"
mark_text GreaterEqual = codes ">="

-- a number in decimal, a name as it is, a string in quotes with its escapes
abbrev pub word_text : Word → List ℕ
word_text (numeral n) = decimal n
word_text (name bytes) = bytes
word_text (variable bytes) = bytes
word_text anonymous = codes "_"
word_text (string bytes) = codes "\"" ++ quoted bytes ++ codes "\""
word_text negation = codes "not"
word_text const_word = codes "#const"
word_text show_word = codes "#show"
word_text (mark m) = mark_text m

-- words with nothing between them
abbrev pub words_text : List Word → List ℕ
words_text [] = []
words_text (word ∷ words) = word_text word ++ words_text words
