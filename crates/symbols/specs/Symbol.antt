-- What a symbol is.
use Rattle.std.specs.Prelude.{ℕ, suc, max, ℤ, List, [], ◌∷◌}

mutual
  -- a 32-bit number, an identifier, a text, or a name with arguments; a tuple is a function whose name is empty
  pub data Symbol : Type 0 where
    Number : ℤ → Symbol
    Identifier : List ℕ → Symbol
    Text : List ℕ → Symbol
    Function : List ℕ → Symbols → Symbol

  -- a list of symbols
  pub data Symbols : Type 0 where
    NoSymbols : Symbols
    MoreSymbols : Symbol → Symbols → Symbols

-- the arguments as a list
abbrev pub listed : Symbols → List Symbol
listed NoSymbols = []
listed (MoreSymbols symbol rest) = symbol ∷ listed rest

-- a list as arguments
abbrev pub arguments : List Symbol → Symbols
arguments [] = NoSymbols
arguments (symbol ∷ rest) = MoreSymbols symbol (arguments rest)

-- how many arguments there are
abbrev pub arity : Symbols → ℕ
arity NoSymbols = 0
arity (MoreSymbols symbol rest) = suc (arity rest)

abbrev mutual
  -- how deep functions and tuples nest in a symbol: a number, an identifier and a text have depth 0
  pub depth : Symbol → ℕ
  depth (Number n) = 0
  depth (Identifier name) = 0
  depth (Text text) = 0
  depth (Function name args) = suc (deepest args)

  -- the greatest depth among these, 0 where there are none
  pub deepest : Symbols → ℕ
  deepest NoSymbols = 0
  deepest (MoreSymbols symbol rest) = max (depth symbol) (deepest rest)
