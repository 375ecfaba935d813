use Rattle.symbols.specs.inner.Layer.{shown}
use Rattle.symbols.proofs.NodeLemmas.{found-node, absent-node}
use Rattle.symbols.proofs.layers.Layers.find.Goals as goal

pub returns-in-Some-clause-found : goal.returns-in-Some-clause-found
returns-in-Some-clause-found c =
    found-node c.args.self.now c.in-Some.node (shown c.args.layer) c.get_index_of.result c.get_index_of.ensures.index c.in-Some.ensures.says

pub returns-in-Some-clause-absent : goal.returns-in-Some-clause-absent
returns-in-Some-clause-absent c =
    absent-node c.args.self.now c.in-Some.node (shown c.args.layer) c.get_index_of.result c.requires.layers c.in-Some.ensures.known c.in-Some.ensures.says c.get_index_of.ensures.found
