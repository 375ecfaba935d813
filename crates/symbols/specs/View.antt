-- What a view of a symbol says.
use Rattle.std.specs.Prelude.{◌≡◌, ℕ, ◌<◌, length, List, All}
use Rattle.symbols.specs.declared.symbol_view.SymbolView.{SymbolView}
use Rattle.symbols.specs.declared.symbol_view.SymbolView.TheVariants.{Number as NumberView, Identifier as IdentifierView, Text as TextView, Function as FunctionView}
use Rattle.symbols.specs.Symbol.{Symbol, Number, Identifier, Text}
use Rattle.symbols.specs.Table.{applied}

-- the view shows the symbol, whose arguments are symbols of the list
abbrev pub Shows : List Symbol → SymbolView → Symbol → Type 0
Shows symbols (NumberView n) symbol = symbol ≡ Number n
Shows symbols (IdentifierView name) symbol = symbol ≡ Identifier name.now
Shows symbols (TextView text) symbol = symbol ≡ Text text.now
Shows symbols (FunctionView name args) symbol = (symbol ≡ applied symbols name.now args.now) × All (λ arg. arg < length symbols) args.now

-- the arguments that the view shows stand before a place
abbrev pub StandBefore : ℕ → SymbolView → Type 0
StandBefore place (NumberView n) = Unit {0}
StandBefore place (IdentifierView name) = Unit {0}
StandBefore place (TextView text) = Unit {0}
StandBefore place (FunctionView name args) = All (λ arg. arg < place) args.now
