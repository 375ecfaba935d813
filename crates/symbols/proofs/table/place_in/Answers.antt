use Rattle.std.proofs.Common.{rules, arith, ◌≡◌, [], ◌∷◌, ◌++◌, true, false, length, ◌+◌, ◌^◌, ◌<◌, subst, sym, ap, ◌∙◌, slice_get}
use Rattle.std.proofs.lemmas.List.{length-map}
use Rattle.symbols.specs.Symbol.{depth}
use Rattle.symbols.specs.Table.{IsFront}
use Rattle.symbols.specs.inner.Layer.{symbols_of, shown, AreBelow, IsTable}
use Rattle.symbols.specs.inner.Layers.{layers_of, IsEachOnce}
use Rattle.symbols.proofs.LayerLemmas.{length-symbols_of, IsFront-push, IsFront-same, placed-symbol}
use Rattle.symbols.proofs.OnceLemmas.{IsTable-push}
use Rattle.symbols.proofs.NodeLemmas.{IsEachOnce-layers}
use Rattle.symbols.proofs.table.place_in.Goals as goal

pub returns-then-not-added-clause-id : goal.returns-then-not-added-clause-id
returns-then-not-added-clause-id c =
    let off : c.in_ok-place.added ≡ false = search rules in
    let same : layers_of c.insert.new.self ≡ layers_of c.args.layers.now = c.in_ok-place.ensures.same off in
    let front : IsFront (symbols_of (layers_of c.args.layers.now)) (symbols_of (layers_of c.insert.new.self)) =
    subst (λ l. IsFront (symbols_of (layers_of c.args.layers.now)) (symbols_of l)) (sym same) (IsFront-same (symbols_of (layers_of c.args.layers.now))) in
    let before : AreBelow 0 (layers_of c.insert.new.self) = subst (AreBelow 0) (sym same) c.requires.table.before in
    ap (λ i. slice_get (symbols_of (layers_of c.insert.new.self)) i) c.at-id.ensures
    ∙ placed-symbol (layers_of c.args.layers.now) (layers_of c.insert.new.self) (shown c.args.layer) c.in_ok-place.place before c.requires.below c.in_ok-place.ensures.place front

pub returns-clause-kept : goal.returns-clause-kept
returns-clause-kept c =
    let on : c.in_ok-place.added ≡ true = search rules in
    subst (λ l. IsFront (symbols_of (layers_of c.args.layers.now)) (symbols_of l)) (sym (c.in_ok-place.ensures.added on)) (IsFront-push (layers_of c.args.layers.now) (shown c.args.layer))

pub returns-clause-table : goal.returns-clause-table
returns-clause-table c =
    let on : c.in_ok-place.added ≡ true = search rules in
    let more : layers_of c.insert.new.self ≡ layers_of c.args.layers.now ++ shown c.args.layer ∷ [] = c.in_ok-place.ensures.added on in
    let each : IsEachOnce (layers_of c.args.layers.now ++ shown c.args.layer ∷ []) = subst IsEachOnce more (IsEachOnce-layers c.insert.new.self c.insert.ensures.layers) in
    let as_many : length c.args.depths.now.items ≡ length (layers_of c.args.layers.now) =
    ap length c.requires.table.depths ∙ length-map (symbols_of (layers_of c.args.layers.now)) depth ∙ length-symbols_of (layers_of c.args.layers.now) in
    let room : length c.args.depths.now.items + 1 < 2 ^ 32 = omega arith in
    let table : IsTable (layers_of c.args.layers.now ++ shown c.args.layer ∷ []) (c.args.depths.now.items ++ c.args.level ∷ []) =
    IsTable-push (layers_of c.args.layers.now) c.args.depths.now.items (shown c.args.layer) c.args.level c.requires.table c.requires.below c.requires.level c.requires.fits room each in
    let kept : c.push.new.self.items ≡ c.args.depths.now.items ++ c.args.level ∷ [] = c.in_ok-push.ensures.items ∙ ap (λ l. l ++ c.args.level ∷ []) c.in_ok-reserve.ensures.items in
    subst (λ l. IsTable l c.push.new.self.items) (sym more) (subst (λ k. IsTable (layers_of c.args.layers.now ++ shown c.args.layer ∷ []) k) (sym kept) table)

pub returns-clause-id : goal.returns-clause-id
returns-clause-id c =
    ap (λ i. slice_get (symbols_of (layers_of c.insert.new.self)) i) c.at-id.ensures
    ∙ placed-symbol (layers_of c.args.layers.now) (layers_of c.insert.new.self) (shown c.args.layer) c.in_ok-place.place (returns-clause-table c).before c.requires.below c.in_ok-place.ensures.place
    (returns-clause-kept c)
