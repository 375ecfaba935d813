use Rattle.std.proofs.Common.{◌≡◌, max, drop}
use Rattle.symbols.specs.inner.Layer.{deepest_at}
use Rattle.symbols.proofs.table.deepest_of.Given as goal

abbrev pub invariant-loop-symbol : goal.invariant-loop-symbol
invariant-loop-symbol l = max l.deepest (deepest_at l.depths (drop l.symbol-index l.symbols)) ≡ deepest_at l.depths l.symbols
