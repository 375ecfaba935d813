-- The printed text of a symbol.
use Rattle.std.specs.Prelude.{ℕ, ◌==◌, ◌&&◌, if◌then◌else◌, List, [], ◌∷◌, ◌++◌, length, codes}
use Rattle.std.specs.Fmt.{signed_decimal}
use Rattle.symbols.specs.Symbol.{Symbol, Symbols, Number, Identifier, Text, Function, NoSymbols, MoreSymbols, arity}

-- a byte as it stands between quotes: a backslash, a quote and a line feed are escaped
abbrev pub byte_text : ℕ → List ℕ
byte_text byte =
    (if byte == 92 then codes "\\\\" else (if byte == 34 then codes "\\\"" else (if byte == 10 then codes "\\n" else byte ∷ [])))

-- the bytes of a text between its quotes
abbrev pub quoted : List ℕ → List ℕ
quoted [] = []
quoted (byte ∷ rest) = byte_text byte ++ quoted rest

-- what ends the arguments of a name: a tuple of one place has a comma before its parenthesis
abbrev pub closing : List ℕ → ℕ → List ℕ
closing name places = (if (length name == 0) && (places == 1) then codes ",)" else codes ")")

abbrev mutual
  -- a number in decimal, an identifier as it is, a text in quotes, a name before its arguments in parentheses
  pub symbol_text : Symbol → List ℕ
  symbol_text (Number n) = signed_decimal n
  symbol_text (Identifier name) = name
  symbol_text (Text text) = codes "\"" ++ quoted text ++ codes "\""
  symbol_text (Function name args) = name ++ codes "(" ++ args_text args ++ closing name (arity args)

  -- arguments, parted by commas with no blank
  pub args_text : Symbols → List ℕ
  args_text NoSymbols = []
  args_text (MoreSymbols symbol rest) = symbol_text symbol ++ rest_text rest

  -- the arguments behind the first, each after its comma
  pub rest_text : Symbols → List ℕ
  rest_text NoSymbols = []
  rest_text (MoreSymbols symbol rest) = codes "," ++ symbol_text symbol ++ rest_text rest
