use Rattle.std.proofs.Common.{◌≡◌, ◌<◌, ◌≤◌, ◌++◌, List, length, OnOk, ap, sym, ◌∙◌, subst, refl, arith, rules, ℕ, drop, w32, FitsSigned}
use Rattle.std.specs.Fmt.{signed_decimal}
use Rattle.std.proofs.lemmas.Int.{to_z-of_z}
use Rattle.symbols.specs.Symbol.{Symbol, Number, Identifier, Text}
use Rattle.symbols.specs.Table.{symbol_at, symbols_at, applied}
use Rattle.symbols.specs.Text.{symbol_text, args_text, closing}
use Rattle.symbols.specs.inner.Layer.{shown, symbol_of, symbols_of, args_in}
use Rattle.symbols.specs.inner.Layers.{layers_of}
use Rattle.symbols.proofs.OnceLemmas.{symbol_at-symbols_of}
use Rattle.symbols.proofs.CompareLemmas.{All-args}
use Rattle.symbols.proofs.WriteLemmas.{tail_text, tail_text-step, written-function}
use Rattle.symbols.proofs.write.+write_place.Goals as goal

pub write_place-requires : goal.write_place-requires
write_place-requires t c =
    let below = (All-args (layers_of c.args.layers.now) _ c.args.place c.args.place _ c.in-Function.args.now refl c.requires.before refl c.view.ensures (sym (ap (λ v. args_in (shown v)) c.in-Function.is))).0 in
    let within : c.loop-index.index < length c.in-Function.args.now = omega arith in
    let before : c.place.result < c.args.place =
    subst (λ k. k < c.args.place) (sym (c.place.ensures ∙ c.index-args-index.is)) (below c.loop-index.index c.index-args-index.result within) in
    (omega (arith, c.decreases), (c.requires.layers, (c.requires.before, omega arith)))

pub loop-index-preserved : goal.loop-index-preserved
loop-index-preserved t c =
    let m : List Symbol = symbols_of (layers_of c.args.layers.now) in
    let within : c.loop-index.index < length c.in-Function.args.now = omega arith in
    tail_text-step m c.in-Function.args.now c.loop-index.index c.index-args-index.result c.loop-index.out c.append-in-loop-index.new.self c.write_place.new.out _ within c.index-args-index.is
    (c.in_ok-append-in-Function-3.ensures.ok ∙ ap (λ l. c.loop-index.out ++ l) c.separator_of.ensures)
    (c.in_ok-write_place-in-Function.ensures ∙ ap (λ k. c.append-in-loop-index.new.self ++ symbol_text (symbol_at m k)) c.place.ensures) c.loop-index.invariant

pub returns-in-Number : goal.returns-in-Number
returns-in-Number t c =
    let e : symbol_at (symbols_of (layers_of c.args.layers.now)) c.args.place ≡ Number c.in-Number.n =
    symbol_at-symbols_of (layers_of c.args.layers.now) c.args.place _ c.requires.before c.view.ensures ∙ ap (λ v. symbol_of (symbols_of (layers_of c.args.layers.now)) (shown v)) c.in-Number.is in
    let fits : FitsSigned w32 c.in-Number.n = search rules in
    let digits : OnOk c.write_number.result (c.write_number.new.out ≡ c.args.out.now ++ signed_decimal c.in-Number.n) =
    subst (λ n. OnOk c.write_number.result (c.write_number.new.out ≡ c.args.out.now ++ signed_decimal n)) (to_z-of_z w32 c.in-Number.n fits) c.write_number.ensures in
    subst (λ s. OnOk c.write_number.result (c.write_number.new.out ≡ c.args.out.now ++ symbol_text s)) (sym e) digits

pub returns-in-Identifier : goal.returns-in-Identifier
returns-in-Identifier t c =
    let e : symbol_at (symbols_of (layers_of c.args.layers.now)) c.args.place ≡ Identifier c.as_bytes.result.now =
    symbol_at-symbols_of (layers_of c.args.layers.now) c.args.place _ c.requires.before c.view.ensures ∙ ap (λ v. symbol_of (symbols_of (layers_of c.args.layers.now)) (shown v)) c.in-Identifier.is
    ∙ ap Identifier (sym c.as_bytes.ensures.value) in
    subst (λ s. OnOk c.append.result (c.append.new.self ≡ c.args.out.now ++ symbol_text s)) (sym e) c.append.ensures.ok

pub returns-in-Text : goal.returns-in-Text
returns-in-Text t c =
    let e : symbol_at (symbols_of (layers_of c.args.layers.now)) c.args.place ≡ Text c.as_bytes-in-Text.result.now =
    symbol_at-symbols_of (layers_of c.args.layers.now) c.args.place _ c.requires.before c.view.ensures ∙ ap (λ v. symbol_of (symbols_of (layers_of c.args.layers.now)) (shown v)) c.in-Text.is
    ∙ ap Text (sym c.as_bytes-in-Text.ensures.value) in
    subst (λ s. OnOk c.write_quoted.result (c.write_quoted.new.out ≡ c.args.out.now ++ symbol_text s)) (sym e) c.write_quoted.ensures

pub returns-after-loop-index : goal.returns-after-loop-index
returns-after-loop-index t c =
    let m : List Symbol = symbols_of (layers_of c.args.layers.now) in
    let ids : List ℕ = c.in-Function.args.now in
    let name : List ℕ = c.in-Function.name.now in
    let e : symbol_at m c.args.place ≡ applied m name ids =
    symbol_at-symbols_of (layers_of c.args.layers.now) c.args.place _ c.requires.before c.view.ensures ∙ ap (λ v. symbol_of m (shown v)) c.in-Function.is in
    let done : length ids ≤ c.loop-index.index = omega arith in
    let whole : c.loop-index.out ++ c.closing_of.result.now ≡ c.args.out.now ++ symbol_text (applied m name ids) =
    written-function m ids name c.args.out.now c.append-in-Function.new.self c.append-in-Function-2.new.self c.loop-index.out c.closing_of.result.now c.loop-index.index
    (c.in_ok-append-in-Function.ensures.ok ∙ ap (λ l. c.args.out.now ++ l) c.as_bytes-in-Function.ensures.value) c.in_ok-append-in-Function-2.ensures.ok c.loop-index.invariant done
    c.closing_of.ensures in
    subst (λ s. OnOk c.append-in-Function-3.result (c.append-in-Function-3.new.self ≡ c.args.out.now ++ symbol_text s)) (sym e)
    (subst (λ l. OnOk c.append-in-Function-3.result (c.append-in-Function-3.new.self ≡ l)) whole c.append-in-Function-3.ensures.ok)
