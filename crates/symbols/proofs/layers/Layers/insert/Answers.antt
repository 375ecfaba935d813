use Rattle.std.proofs.Common.{refl}
use Rattle.symbols.specs.inner.Layer.{shown}
use Rattle.symbols.proofs.NodeLemmas.{AreLayers-insert, placed-node}
use Rattle.symbols.proofs.layers.Layers.insert.Goals as goal

pub returns-clause-layers : goal.returns-clause-layers
returns-clause-layers c =
    AreLayers-insert c.node_for.new.self (record { names = c.node_for.new.self.names; lists = c.node_for.new.self.lists; nodes = c.insert_full.new.self }) c.in_ok-node.node _
    c.node_for.ensures.layers refl refl c.in_ok-place.ensures.keys c.in_ok-node.ensures.known c.in_ok-place.ensures.unique

pub returns-clause-place : goal.returns-clause-place
returns-clause-place c =
    let s = c.in_ok-place.ensures.stored in
    placed-node (record { names = c.node_for.new.self.names; lists = c.node_for.new.self.lists; nodes = c.insert_full.new.self }) c.in_ok-node.node s.0 (shown c.args.layer) c.in_ok-place.place
    s.1 s.2 c.in_ok-node.ensures.says
