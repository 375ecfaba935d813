use Rattle.symbols.specs.inner.Layers.{layers_of}
use Rattle.symbols.proofs.LayerLemmas.{place-within}
use Rattle.symbols.proofs.CompareLemmas.{Shows-view, StandBefore-view}
use Rattle.symbols.proofs.table.SymbolTable.view.Goals as goal

pub view-requires-clause-place : goal.view-requires-clause-place
view-requires-clause-place c = place-within (layers_of c.self.inside.layers) _ c.args.id c.place.result c.self.view_is c.place.ensures c.requires

pub returns-clause-shown : goal.returns-clause-shown
returns-clause-shown c = Shows-view (layers_of c.self.inside.layers) c.args.self.now c.args.id c.place.result c.view.result c.self.view_is c.self.invariant.1.before c.place.ensures c.view.ensures

pub returns-clause-before : goal.returns-clause-before
returns-clause-before c = StandBefore-view (layers_of c.self.inside.layers) c.args.self.now c.args.id c.place.result c.view.result c.self.view_is c.self.invariant.1.before c.place.ensures c.view.ensures
