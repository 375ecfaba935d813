use Rattle.symbols.specs.inner.Layers.{layers_of}
use Rattle.symbols.proofs.LayerLemmas.{place-within}
use Rattle.symbols.proofs.table.SymbolTable.write_symbol.Goals as goal

pub write_place-requires-clause-place : goal.write_place-requires-clause-place
write_place-requires-clause-place c = place-within (layers_of c.self.inside.layers) _ c.args.id c.place.result c.self.view_is c.place.ensures c.requires
