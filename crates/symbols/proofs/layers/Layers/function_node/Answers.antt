use Rattle.std.proofs.Common.{◌≡◌, ◌∙◌, ◌<◌, ◌≤◌, List, ℕ, Some, length, refl, sym, ap, subst, arith, slice_get, IfSome, IfNone}
use Rattle.std.proofs.lemmas.Option.{slice_get_within}
use Rattle.symbols.specs.declared.layers.Layers.{Layers}
use Rattle.symbols.specs.inner.Layer.{Layer, IdentifierLayer, TextLayer, FunctionLayer, shown}
use Rattle.symbols.specs.inner.Layers.{names_of, lists_of, list_at, layer_of, layers_of, IsKnown}
use Rattle.symbols.proofs.ListLemmas.{list_at-place}
use Rattle.symbols.proofs.NodeLemmas.{absent-list}
use Rattle.symbols.proofs.layers.Layers.function_node.Goals as goal

pub returns-in-None-clause-absent : goal.returns-in-None-clause-absent
returns-in-None-clause-absent c =
    let many : 4 < length c.args.args.now = omega arith in
    absent-list c.args.self.now (list_at (names_of c.args.self.now) c.args.name) c.args.args.now c.requires.layers many c.in-None.ensures.absent
