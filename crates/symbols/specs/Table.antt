-- A table as the list of its symbols.
use Rattle.std.specs.Prelude.{◌≡◌, ℕ, ◌<◌, length, pos, List, [], ◌∷◌, ◌++◌, slice_index_or}
use Rattle.symbols.specs.Symbol.{Symbol, Symbols, Number, Function, NoSymbols, MoreSymbols}

-- the symbol at a place
abbrev pub symbol_at : List Symbol → ℕ → Symbol
symbol_at symbols place = slice_index_or symbols place (Number (pos 0))

-- the symbols at these places, as arguments
abbrev pub symbols_at : List Symbol → List ℕ → Symbols
symbols_at symbols [] = NoSymbols
symbols_at symbols (place ∷ places) = MoreSymbols (symbol_at symbols place) (symbols_at symbols places)

-- a name with the symbols at these places as its arguments
abbrev pub applied : List Symbol → List ℕ → List ℕ → Symbol
applied symbols name args = Function name (symbols_at symbols args)

-- the new list is the old one with more behind it: each id keeps its symbol
abbrev pub IsFront : List Symbol → List Symbol → Type 0
IsFront old new = (more : List Symbol) × (new ≡ old ++ more)

-- no symbol stands at two places: ids are equal exactly where their symbols are
abbrev pub IsOnce : List Symbol → Type 0
IsOnce symbols =
    (a b : ℕ) → a < length symbols → b < length symbols → symbol_at symbols a ≡ symbol_at symbols b → a ≡ b
