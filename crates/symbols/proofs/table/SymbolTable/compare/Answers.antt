use Rattle.std.proofs.Common.{length, ap, arith}
use Rattle.symbols.specs.inner.Layers.{layers_of}
use Rattle.symbols.proofs.LayerLemmas.{length-symbols_of}
use Rattle.symbols.proofs.table.SymbolTable.compare.Goals as goal

pub compare_places-requires-clause-a : goal.compare_places-requires-clause-a
compare_places-requires-clause-a c = omega (arith, length-symbols_of (layers_of c.self.inside.layers), ap length c.self.view_is)

pub compare_places-requires-clause-b : goal.compare_places-requires-clause-b
compare_places-requires-clause-b c = omega (arith, length-symbols_of (layers_of c.self.inside.layers), ap length c.self.view_is)
