-- The order of symbols: numbers by value, then identifiers by bytes, then texts by bytes, then functions
-- and tuples by their number of arguments, then by name, then by arguments from the left.
use Rattle.std.specs.Ordering.{nat_cmp, int_cmp, ordering_then}
use Rattle.std.specs.declared.cmp.Ordering.{Ordering}
use Rattle.std.specs.declared.cmp.Ordering.TheVariants.{Less, Equal, Greater}
use Rattle.std.specs.Cmp.Lexicographic.{slice_cmp}
use Rattle.symbols.specs.Symbol.{Symbol, Symbols, Number, Identifier, Text, Function, NoSymbols, MoreSymbols, arity}

abbrev mutual
  -- how the first symbol stands to the second
  pub symbol_cmp : Symbol → Symbol → Ordering
  symbol_cmp (Number m) (Number n) = int_cmp m n
  symbol_cmp (Number m) (Identifier b) = Less
  symbol_cmp (Number m) (Text b) = Less
  symbol_cmp (Number m) (Function b ys) = Less
  symbol_cmp (Identifier a) (Number n) = Greater
  symbol_cmp (Identifier a) (Identifier b) = slice_cmp nat_cmp a b
  symbol_cmp (Identifier a) (Text b) = Less
  symbol_cmp (Identifier a) (Function b ys) = Less
  symbol_cmp (Text a) (Number n) = Greater
  symbol_cmp (Text a) (Identifier b) = Greater
  symbol_cmp (Text a) (Text b) = slice_cmp nat_cmp a b
  symbol_cmp (Text a) (Function b ys) = Less
  symbol_cmp (Function a xs) (Number n) = Greater
  symbol_cmp (Function a xs) (Identifier b) = Greater
  symbol_cmp (Function a xs) (Text b) = Greater
  symbol_cmp (Function a xs) (Function b ys) =
      ordering_then (nat_cmp (arity xs) (arity ys)) (ordering_then (slice_cmp nat_cmp a b) (symbols_cmp xs ys))

  -- the same of arguments, from the left
  pub symbols_cmp : Symbols → Symbols → Ordering
  symbols_cmp NoSymbols NoSymbols = Equal
  symbols_cmp NoSymbols (MoreSymbols y ys) = Less
  symbols_cmp (MoreSymbols x xs) NoSymbols = Greater
  symbols_cmp (MoreSymbols x xs) (MoreSymbols y ys) = ordering_then (symbol_cmp x y) (symbols_cmp xs ys)
