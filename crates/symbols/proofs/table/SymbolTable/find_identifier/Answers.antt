use Rattle.symbols.specs.inner.Layers.{layers_of}
use Rattle.symbols.proofs.LayerLemmas.{few-layers}
use Rattle.symbols.proofs.table.SymbolTable.find_identifier.Goals as goal

pub id_in-requires-clause-few : goal.id_in-requires-clause-few
id_in-requires-clause-few c = few-layers (layers_of c.self.inside.layers) c.self.inside.depths.items c.self.invariant.1
