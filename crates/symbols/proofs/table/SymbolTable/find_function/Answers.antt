use Rattle.std.proofs.Common.{refl}
use Rattle.symbols.specs.inner.Layers.{layers_of}
use Rattle.symbols.proofs.LayerLemmas.{few-layers, IsBelow-args}
use Rattle.symbols.proofs.table.SymbolTable.find_function.Goals as goal

pub id_in-requires-clause-few : goal.id_in-requires-clause-few
id_in-requires-clause-few c = few-layers (layers_of c.self.inside.layers) c.self.inside.depths.items c.self.invariant.1

pub id_in-requires-clause-below : goal.id_in-requires-clause-below
id_in-requires-clause-below c = IsBelow-args (layers_of c.self.inside.layers) _ c.args.args.now c.args.args.now refl c.self.view_is c.requires
