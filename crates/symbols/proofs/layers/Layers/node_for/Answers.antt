use Rattle.std.proofs.Common.{◌≡◌, ◌∙◌, ◌<◌, ◌≤◌, List, ℕ, Some, length, refl, sym, ap, subst, arith, slice_get, IfSome, IfNone}
use Rattle.std.proofs.lemmas.Option.{slice_get_within}
use Rattle.symbols.specs.declared.layers.Layers.{Layers}
use Rattle.symbols.specs.inner.Layer.{Layer, IdentifierLayer, TextLayer, FunctionLayer, shown}
use Rattle.symbols.specs.inner.Layers.{names_of, lists_of, list_at, layer_of, layers_of, IsKnown}
use Rattle.symbols.proofs.ListLemmas.{list_at-place}
use Rattle.symbols.proofs.NodeLemmas.{AreLayers-names, layers-names, AreLayers-begun, layers-begun, lists-begun, lists-long, IsKnown-short, short-says}
use Rattle.symbols.proofs.layers.Layers.node_for.Goals as goal

pub returns-in_err-name-in-Identifier-clause-layers : goal.returns-in_err-name-in-Identifier-clause-layers
returns-in_err-name-in-Identifier-clause-layers c = AreLayers-names c.args.self.now (record { names = c.add_name.new.names; lists = c.args.self.now.lists; nodes = c.args.self.now.nodes }) c.requires refl refl c.add_name.ensures.begun c.add_name.ensures.once c.add_name.ensures.few

pub returns-in_err-name-in-Identifier-clause-same : goal.returns-in_err-name-in-Identifier-clause-same
returns-in_err-name-in-Identifier-clause-same c = layers-names c.args.self.now (record { names = c.add_name.new.names; lists = c.args.self.now.lists; nodes = c.args.self.now.nodes }) c.requires refl refl c.add_name.ensures.begun

pub returns-in_err-text-in-Text-clause-layers : goal.returns-in_err-text-in-Text-clause-layers
returns-in_err-text-in-Text-clause-layers c = AreLayers-names c.args.self.now (record { names = c.add_name-in-Text.new.names; lists = c.args.self.now.lists; nodes = c.args.self.now.nodes }) c.requires refl refl c.add_name-in-Text.ensures.begun c.add_name-in-Text.ensures.once c.add_name-in-Text.ensures.few

pub returns-in_err-text-in-Text-clause-same : goal.returns-in_err-text-in-Text-clause-same
returns-in_err-text-in-Text-clause-same c = layers-names c.args.self.now (record { names = c.add_name-in-Text.new.names; lists = c.args.self.now.lists; nodes = c.args.self.now.nodes }) c.requires refl refl c.add_name-in-Text.ensures.begun

pub returns-in_err-name-in-Function-clause-layers : goal.returns-in_err-name-in-Function-clause-layers
returns-in_err-name-in-Function-clause-layers c = AreLayers-names c.args.self.now (record { names = c.add_name-in-Function.new.names; lists = c.args.self.now.lists; nodes = c.args.self.now.nodes }) c.requires refl refl c.add_name-in-Function.ensures.begun c.add_name-in-Function.ensures.once c.add_name-in-Function.ensures.few

pub returns-in_err-name-in-Function-clause-same : goal.returns-in_err-name-in-Function-clause-same
returns-in_err-name-in-Function-clause-same c = layers-names c.args.self.now (record { names = c.add_name-in-Function.new.names; lists = c.args.self.now.lists; nodes = c.args.self.now.nodes }) c.requires refl refl c.add_name-in-Function.ensures.begun

pub returns-then-args-le4-clause-layers : goal.returns-then-args-le4-clause-layers
returns-then-args-le4-clause-layers c = AreLayers-names c.args.self.now (record { names = c.add_name-in-Function.new.names; lists = c.args.self.now.lists; nodes = c.args.self.now.nodes }) c.requires refl refl c.add_name-in-Function.ensures.begun c.add_name-in-Function.ensures.once c.add_name-in-Function.ensures.few

pub returns-then-args-le4-clause-same : goal.returns-then-args-le4-clause-same
returns-then-args-le4-clause-same c = layers-names c.args.self.now (record { names = c.add_name-in-Function.new.names; lists = c.args.self.now.lists; nodes = c.args.self.now.nodes }) c.requires refl refl c.add_name-in-Function.ensures.begun

pub returns-in_ok-name-in-Identifier-clause-layers : goal.returns-in_ok-name-in-Identifier-clause-layers
returns-in_ok-name-in-Identifier-clause-layers c = AreLayers-names c.args.self.now (record { names = c.add_name.new.names; lists = c.args.self.now.lists; nodes = c.args.self.now.nodes }) c.requires refl refl c.add_name.ensures.begun c.add_name.ensures.once c.add_name.ensures.few

pub returns-in_ok-name-in-Identifier-clause-same : goal.returns-in_ok-name-in-Identifier-clause-same
returns-in_ok-name-in-Identifier-clause-same c = layers-names c.args.self.now (record { names = c.add_name.new.names; lists = c.args.self.now.lists; nodes = c.args.self.now.nodes }) c.requires refl refl c.add_name.ensures.begun

pub returns-in_ok-text-in-Text-clause-layers : goal.returns-in_ok-text-in-Text-clause-layers
returns-in_ok-text-in-Text-clause-layers c = AreLayers-names c.args.self.now (record { names = c.add_name-in-Text.new.names; lists = c.args.self.now.lists; nodes = c.args.self.now.nodes }) c.requires refl refl c.add_name-in-Text.ensures.begun c.add_name-in-Text.ensures.once c.add_name-in-Text.ensures.few

pub returns-in_ok-text-in-Text-clause-same : goal.returns-in_ok-text-in-Text-clause-same
returns-in_ok-text-in-Text-clause-same c = layers-names c.args.self.now (record { names = c.add_name-in-Text.new.names; lists = c.args.self.now.lists; nodes = c.args.self.now.nodes }) c.requires refl refl c.add_name-in-Text.ensures.begun

pub returns-in_err-list-in-Function-clause-layers : goal.returns-in_err-list-in-Function-clause-layers
returns-in_err-list-in-Function-clause-layers c =
    let many : 4 < length c.in-Function.args.now = omega arith in
    AreLayers-begun c.args.self.now (record { names = c.add_name-in-Function.new.names; lists = c.add_list.new.lists; nodes = c.args.self.now.nodes }) c.requires refl c.add_name-in-Function.ensures.begun c.add_name-in-Function.ensures.once c.add_name-in-Function.ensures.few
    (lists-begun _ _ c.in-Function.args.now c.add_list.ensures.begun) c.add_list.ensures.once c.add_list.ensures.few (lists-long _ _ c.in-Function.args.now c.add_list.ensures.begun c.requires.long many)

pub returns-in_err-list-in-Function-clause-same : goal.returns-in_err-list-in-Function-clause-same
returns-in_err-list-in-Function-clause-same c = layers-begun c.args.self.now (record { names = c.add_name-in-Function.new.names; lists = c.add_list.new.lists; nodes = c.args.self.now.nodes }) c.requires refl c.add_name-in-Function.ensures.begun (lists-begun _ _ c.in-Function.args.now c.add_list.ensures.begun)

pub returns-in_ok-list-in-Function-clause-layers : goal.returns-in_ok-list-in-Function-clause-layers
returns-in_ok-list-in-Function-clause-layers c =
    let many : 4 < length c.in-Function.args.now = omega arith in
    AreLayers-begun c.args.self.now (record { names = c.add_name-in-Function.new.names; lists = c.add_list.new.lists; nodes = c.args.self.now.nodes }) c.requires refl c.add_name-in-Function.ensures.begun c.add_name-in-Function.ensures.once c.add_name-in-Function.ensures.few
    (lists-begun _ _ c.in-Function.args.now c.add_list.ensures.begun) c.add_list.ensures.once c.add_list.ensures.few (lists-long _ _ c.in-Function.args.now c.add_list.ensures.begun c.requires.long many)

pub returns-in_ok-list-in-Function-clause-same : goal.returns-in_ok-list-in-Function-clause-same
returns-in_ok-list-in-Function-clause-same c = layers-begun c.args.self.now (record { names = c.add_name-in-Function.new.names; lists = c.add_list.new.lists; nodes = c.args.self.now.nodes }) c.requires refl c.add_name-in-Function.ensures.begun (lists-begun _ _ c.in-Function.args.now c.add_list.ensures.begun)

pub returns-in_ok-name-in-Identifier-clause-known : goal.returns-in_ok-name-in-Identifier-clause-known
returns-in_ok-name-in-Identifier-clause-known c = slice_get_within (names_of (record { names = c.add_name.new.names; lists = c.args.self.now.lists; nodes = c.args.self.now.nodes })) c.in_ok-name-in-Identifier.name c.in-Identifier.name.now c.in_ok-name-in-Identifier.ensures.number

pub returns-in_ok-name-in-Identifier-clause-says : goal.returns-in_ok-name-in-Identifier-clause-says
returns-in_ok-name-in-Identifier-clause-says c = ap IdentifierLayer (list_at-place (names_of (record { names = c.add_name.new.names; lists = c.args.self.now.lists; nodes = c.args.self.now.nodes })) c.in_ok-name-in-Identifier.name c.in-Identifier.name.now c.in_ok-name-in-Identifier.ensures.number) ∙ sym (ap shown c.in-Identifier.is)

pub returns-in_ok-text-in-Text-clause-known : goal.returns-in_ok-text-in-Text-clause-known
returns-in_ok-text-in-Text-clause-known c = slice_get_within (names_of (record { names = c.add_name-in-Text.new.names; lists = c.args.self.now.lists; nodes = c.args.self.now.nodes })) c.in_ok-text-in-Text.text c.in-Text.text.now c.in_ok-text-in-Text.ensures.number

pub returns-in_ok-text-in-Text-clause-says : goal.returns-in_ok-text-in-Text-clause-says
returns-in_ok-text-in-Text-clause-says c = ap TextLayer (list_at-place (names_of (record { names = c.add_name-in-Text.new.names; lists = c.args.self.now.lists; nodes = c.args.self.now.nodes })) c.in_ok-text-in-Text.text c.in-Text.text.now c.in_ok-text-in-Text.ensures.number) ∙ sym (ap shown c.in-Text.is)

pub returns-then-args-le4-clause-known : goal.returns-then-args-le4-clause-known
returns-then-args-le4-clause-known c =
    let few : length c.in-Function.args.now ≤ 4 = omega arith in
    let new : Layers = (record { names = c.add_name-in-Function.new.names; lists = c.args.self.now.lists; nodes = c.args.self.now.nodes }) in
    subst (IsKnown (length (names_of new)) (length (lists_of new))) (sym c.short_node.ensures)
    (IsKnown-short (length (names_of new)) (length (lists_of new)) c.in_ok-name-in-Function.name c.in-Function.args.now
    (slice_get_within (names_of new) c.in_ok-name-in-Function.name c.in-Function.name.now c.in_ok-name-in-Function.ensures.number) few)

pub returns-then-args-le4-clause-says : goal.returns-then-args-le4-clause-says
returns-then-args-le4-clause-says c =
    let few : length c.in-Function.args.now ≤ 4 = omega arith in
    let new : Layers = (record { names = c.add_name-in-Function.new.names; lists = c.args.self.now.lists; nodes = c.args.self.now.nodes }) in
    ap (layer_of (names_of new) (lists_of new)) c.short_node.ensures ∙ short-says (names_of new) (lists_of new) c.in_ok-name-in-Function.name c.in-Function.args.now few
    ∙ ap (λ n. FunctionLayer n c.in-Function.args.now) (list_at-place (names_of new) c.in_ok-name-in-Function.name c.in-Function.name.now c.in_ok-name-in-Function.ensures.number)
    ∙ sym (ap shown c.in-Function.is)

pub returns-in_ok-list-in-Function-clause-known : goal.returns-in_ok-list-in-Function-clause-known
returns-in_ok-list-in-Function-clause-known c = (
  slice_get_within (names_of (record { names = c.add_name-in-Function.new.names; lists = c.add_list.new.lists; nodes = c.args.self.now.nodes })) c.in_ok-name-in-Function.name c.in-Function.name.now c.in_ok-name-in-Function.ensures.number,
  slice_get_within (lists_of (record { names = c.add_name-in-Function.new.names; lists = c.add_list.new.lists; nodes = c.args.self.now.nodes })) c.in_ok-list-in-Function.list c.in-Function.args.now c.in_ok-list-in-Function.ensures.number,
)

pub returns-in_ok-list-in-Function-clause-says : goal.returns-in_ok-list-in-Function-clause-says
returns-in_ok-list-in-Function-clause-says c =
    let name = list_at-place (names_of (record { names = c.add_name-in-Function.new.names; lists = c.add_list.new.lists; nodes = c.args.self.now.nodes })) c.in_ok-name-in-Function.name c.in-Function.name.now c.in_ok-name-in-Function.ensures.number in
    let list = list_at-place (lists_of (record { names = c.add_name-in-Function.new.names; lists = c.add_list.new.lists; nodes = c.args.self.now.nodes })) c.in_ok-list-in-Function.list c.in-Function.args.now c.in_ok-list-in-Function.ensures.number in
    (λ i. FunctionLayer (name i) (list i)) ∙ sym (ap shown c.in-Function.is)
