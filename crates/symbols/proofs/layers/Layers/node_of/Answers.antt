use Rattle.std.proofs.Common.{◌≡◌, ◌∙◌, ◌<◌, ◌≤◌, List, ℕ, Some, length, refl, sym, ap, subst, arith, slice_get, IfSome, IfNone}
use Rattle.std.proofs.lemmas.Option.{slice_get_within}
use Rattle.symbols.specs.declared.layers.Layers.{Layers}
use Rattle.symbols.specs.inner.Layer.{Layer, IdentifierLayer, TextLayer, FunctionLayer, shown}
use Rattle.symbols.specs.inner.Layers.{names_of, lists_of, list_at, layer_of, layers_of, IsKnown}
use Rattle.symbols.proofs.ListLemmas.{list_at-place}
use Rattle.symbols.proofs.NodeLemmas.{absent-name, name_in_layer}
use Rattle.symbols.proofs.layers.Layers.node_of.Goals as goal

pub returns-in-None-clause-absent : goal.returns-in-None-clause-absent
returns-in-None-clause-absent c =
    absent-name c.args.self.now c.in-Identifier.name.now (shown c.args.layer) c.requires.layers c.in-None.ensures.absent (ap (λ v. name_in_layer (shown v)) c.in-Identifier.is)

pub returns-in-Some-name_number-clause-known : goal.returns-in-Some-name_number-clause-known
returns-in-Some-name_number-clause-known c = slice_get_within (names_of c.args.self.now) c.in-Some-name_number.text c.in-Text.text.now c.in-Some-name_number.ensures.found

pub returns-in-Some-name_number-clause-says : goal.returns-in-Some-name_number-clause-says
returns-in-Some-name_number-clause-says c =
    ap TextLayer (list_at-place (names_of c.args.self.now) c.in-Some-name_number.text c.in-Text.text.now c.in-Some-name_number.ensures.found) ∙ sym (ap shown c.in-Text.is)

pub returns-in-None-name_number-clause-absent : goal.returns-in-None-name_number-clause-absent
returns-in-None-name_number-clause-absent c =
    absent-name c.args.self.now c.in-Text.text.now (shown c.args.layer) c.requires.layers c.in-None-name_number.ensures.absent (ap (λ v. name_in_layer (shown v)) c.in-Text.is)

pub returns-in-Some-name_number-2-clause-says : goal.returns-in-Some-name_number-2-clause-says
returns-in-Some-name_number-2-clause-says c =
    let e : FunctionLayer (list_at (names_of c.args.self.now) c.in-Some-name_number-2.name) c.in-Function.args.now ≡ shown c.args.layer =
    ap (λ n. FunctionLayer n c.in-Function.args.now) (list_at-place (names_of c.args.self.now) c.in-Some-name_number-2.name c.in-Function.name.now c.in-Some-name_number-2.ensures.found)
    ∙ sym (ap shown c.in-Function.is) in
    subst (λ l. IfSome c.function_node.result (λ node. layer_of (names_of c.args.self.now) (lists_of c.args.self.now) node ≡ l)) e c.function_node.ensures.says

pub returns-in-Some-name_number-2-clause-absent : goal.returns-in-Some-name_number-2-clause-absent
returns-in-Some-name_number-2-clause-absent c =
    let e : FunctionLayer (list_at (names_of c.args.self.now) c.in-Some-name_number-2.name) c.in-Function.args.now ≡ shown c.args.layer =
    ap (λ n. FunctionLayer n c.in-Function.args.now) (list_at-place (names_of c.args.self.now) c.in-Some-name_number-2.name c.in-Function.name.now c.in-Some-name_number-2.ensures.found)
    ∙ sym (ap shown c.in-Function.is) in
    subst (λ l. IfNone c.function_node.result ((place : ℕ) → ¬ (slice_get (layers_of c.args.self.now) place ≡ Some l))) e c.function_node.ensures.absent

pub returns-in-None-name_number-2-clause-absent : goal.returns-in-None-name_number-2-clause-absent
returns-in-None-name_number-2-clause-absent c =
    absent-name c.args.self.now c.in-Function.name.now (shown c.args.layer) c.requires.layers c.in-None-name_number-2.ensures.absent (ap (λ v. name_in_layer (shown v)) c.in-Function.is)
