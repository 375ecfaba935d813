use Rattle.std.proofs.Common.{◌≡◌, sym, map, rules, List}
use Rattle.std.specs.String.{string_bytes}
use Rattle.std.proofs.lemmas.List.Elements.{same_from_all_zip}
use Rattle.symbols.specs.inner.Layers.{names_of, lists_of}
use Rattle.symbols.proofs.ListLemmas.{map-copied}
use Rattle.symbols.proofs.NodeLemmas.{AreLayers-same, layers-same}
use Rattle.symbols.proofs.layers.Layers.copy.Goals as goal

pub returns-clause-layers : goal.returns-clause-layers
returns-clause-layers c =
    AreLayers-same c.args.self.now (record { names = c.in_ok-names.names; lists = c.in_ok-lists.lists; nodes = c.in_ok-nodes.nodes }) c.requires
    (map-copied _ string_bytes (λ x y h. h) c.args.self.now.names.keys c.in_ok-names.names.keys c.in_ok-names.ensures.cases)
    (map-copied _ (λ list. list.items) (λ x y h. same_from_all_zip _ x.items y.items h.0 (λ a b k. search rules)) c.args.self.now.lists.keys c.in_ok-lists.lists.keys c.in_ok-lists.ensures.cases)
    (same_from_all_zip _ c.args.self.now.nodes.keys c.in_ok-nodes.nodes.keys c.in_ok-nodes.ensures.cases (λ a b k. search rules))

pub returns-clause-same : goal.returns-clause-same
returns-clause-same c =
    layers-same c.args.self.now (record { names = c.in_ok-names.names; lists = c.in_ok-lists.lists; nodes = c.in_ok-nodes.nodes })
    (map-copied _ string_bytes (λ x y h. h) c.args.self.now.names.keys c.in_ok-names.names.keys c.in_ok-names.ensures.cases)
    (map-copied _ (λ list. list.items) (λ x y h. same_from_all_zip _ x.items y.items h.0 (λ a b k. search rules)) c.args.self.now.lists.keys c.in_ok-lists.lists.keys c.in_ok-lists.ensures.cases)
    (same_from_all_zip _ c.args.self.now.nodes.keys c.in_ok-nodes.nodes.keys c.in_ok-nodes.ensures.cases (λ a b k. search rules))
