use Rattle.std.proofs.Common.{◌≡◌, ◌<◌, ◌∙◌, List, sym, ap, rules, arith, subst}
use Rattle.std.specs.List.{AllByRecursion}
use Rattle.symbols.specs.Symbol.{Symbol}
use Rattle.std.specs.declared.cmp.Ordering.TheVariants.{Equal}
use Rattle.symbols.specs.Order.{symbol_cmp}
use Rattle.symbols.specs.Table.{symbol_at}
use Rattle.symbols.specs.inner.Layer.{shown, symbols_of, heads_cmp, first_apart}
use Rattle.symbols.specs.inner.Layers.{layers_of}
use Rattle.symbols.proofs.OrderLemmas.{symbol_cmp-itself}
use Rattle.symbols.proofs.CompareLemmas.{places-apart, places-other, apart_cmp, first_apart-below, args-at}
use Rattle.symbols.proofs.order.+compare_places.Goals as goal

pub returns-then-a-b : goal.returns-then-a-b
returns-then-a-b t c =
    let same : c.args.a ≡ c.args.b = search rules in
    sym (ap (λ k. symbol_cmp (symbol_at (symbols_of (layers_of c.args.layers.now)) c.args.a) (symbol_at (symbols_of (layers_of c.args.layers.now)) k)) (sym same)
    ∙ symbol_cmp-itself (symbol_at (symbols_of (layers_of c.args.layers.now)) c.args.a))

pub compare_places-requires : goal.compare_places-requires
compare_places-requires t c =
    let firsts : AllByRecursion (λ id. id < c.args.a) c.args_of.result.now =
    subst (AllByRecursion (λ id. id < c.args.a)) (sym c.args_of.ensures) (args-at (layers_of c.args.layers.now) c.args.a _ c.requires.before c.view-first.ensures) in
    let seconds : AllByRecursion (λ id. id < c.args.b) c.args_of-in-Equal.result.now =
    subst (AllByRecursion (λ id. id < c.args.b)) (sym c.args_of-in-Equal.ensures) (args-at (layers_of c.args.layers.now) c.args.b _ c.requires.before c.view-second.ensures) in
    let below = first_apart-below c.args.a c.args.b c.args_of.result.now c.args_of-in-Equal.result.now _ firsts seconds (sym c.in-Some.ensures) in
    let first : c.place.result < c.args.a = subst (λ k. k < c.args.a) (sym c.place.ensures) below.0 in
    let second : c.place-in-Some.result < c.args.b = subst (λ k. k < c.args.b) (sym c.place-in-Some.ensures) below.1 in
    (omega (arith, c.decreases), (c.requires.layers, (c.requires.before, (c.requires.once, (omega arith, omega arith)))))

pub returns-in-Some : goal.returns-in-Some
returns-in-Some t c =
    let m : List Symbol = symbols_of (layers_of c.args.layers.now) in
    let level : heads_cmp (shown c.view-first.result) (shown c.view-second.result) ≡ Equal = sym c.in-Equal.ensures in
    c.compare_places.ensures
    ∙ (λ i. symbol_cmp (symbol_at m (c.place.ensures i)) (symbol_at m (c.place-in-Some.ensures i)))
    ∙ sym (places-apart (layers_of c.args.layers.now) c.args.a c.args.b _ _ c.requires.before c.requires.once c.view-first.ensures c.view-second.ensures level
    ∙ ap (apart_cmp m) ((λ i. first_apart (sym c.args_of.ensures i) (sym c.args_of-in-Equal.ensures i)) ∙ sym c.in-Some.ensures))

pub returns-in-None : goal.returns-in-None
returns-in-None t c =
    let m : List Symbol = symbols_of (layers_of c.args.layers.now) in
    let level : heads_cmp (shown c.view-first.result) (shown c.view-second.result) ≡ Equal = sym c.in-Equal.ensures in
    sym (places-apart (layers_of c.args.layers.now) c.args.a c.args.b _ _ c.requires.before c.requires.once c.view-first.ensures c.view-second.ensures level
    ∙ ap (apart_cmp m) ((λ i. first_apart (sym c.args_of.ensures i) (sym c.args_of-in-Equal.ensures i)) ∙ sym c.in-None.ensures))

pub returns-in_default : goal.returns-in_default
returns-in_default t c =
    c.compare_heads.ensures
    ∙ sym (places-other (layers_of c.args.layers.now) c.args.a c.args.b _ _ c.requires.before c.view-first.ensures c.view-second.ensures (λ e. c.in_default.not-Equal (c.compare_heads.ensures ∙ e)))
