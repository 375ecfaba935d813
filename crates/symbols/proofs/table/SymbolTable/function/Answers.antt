use Rattle.std.proofs.Common.{◌≡◌, ◌≤◌, suc, Result, Ok, Err, OnOk, arith, sym, refl}
use Rattle.symbols.specs.Symbol.{deepest}
use Rattle.symbols.specs.Table.{symbols_at}
use Rattle.symbols.specs.inner.Layer.{symbols_of}
use Rattle.symbols.specs.inner.Layers.{layers_of}
use Rattle.symbols.proofs.LayerLemmas.{IsBelow-args, found-deepest}
use Rattle.symbols.proofs.table.SymbolTable.function.Goals as goal

OnOk-always : {T E : Type 0} (r : Result T E) (P : Type 0) → P → OnOk r P
OnOk-always (Ok x) P p = p
OnOk-always (Err x) P p = tt

pub returns-then-below-ge-MAX_DEPTH-clause-too_deep : goal.returns-then-below-ge-MAX_DEPTH-clause-too_deep
returns-then-below-ge-MAX_DEPTH-clause-too_deep c = λ _.
    let d = found-deepest (layers_of c.self.inside.layers) c.self.inside.depths.items _ _ c.args.args.now _ c.self.view_is c.self.invariant.1.depths c.requires.args c.deref.ensures.value c.deepest_of-below.ensures in
    omega arith

pub place_in-requires-clause-below : goal.place_in-requires-clause-below
place_in-requires-clause-below c =
    IsBelow-args (layers_of c.self.inside.layers) _ _ c.args.args.now refl c.self.view_is c.requires.args

pub place_in-requires-clause-level : goal.place_in-requires-clause-level
place_in-requires-clause-level c =
    let d = found-deepest (layers_of c.self.inside.layers) c.self.inside.depths.items _ _ c.args.args.now _ c.self.view_is c.self.invariant.1.depths c.requires.args c.deref.ensures.value c.deepest_of-below.ensures in
    let e : deepest (symbols_at c.args.self.now c.args.args.now) ≡ deepest (symbols_at (symbols_of (layers_of c.self.inside.layers)) c.args.args.now) =
    (λ i. deepest (symbols_at (sym c.self.view_is i) c.args.args.now)) in
    omega arith

pub returns-clause-fits : goal.returns-clause-fits
returns-clause-fits c =
    let d = found-deepest (layers_of c.self.inside.layers) c.self.inside.depths.items _ _ c.args.args.now _ c.self.view_is c.self.invariant.1.depths c.requires.args c.deref.ensures.value c.deepest_of-below.ensures in
    let fits : suc (deepest (symbols_at c.args.self.now c.args.args.now)) ≤ 256 = omega arith in
    OnOk-always _ _ fits
