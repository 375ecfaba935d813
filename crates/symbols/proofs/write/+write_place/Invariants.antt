use Rattle.std.proofs.Common.{◌≡◌, ◌++◌, drop}
use Rattle.symbols.specs.Table.{symbols_at}
use Rattle.symbols.specs.Text.{args_text}
use Rattle.symbols.specs.inner.Layer.{symbols_of}
use Rattle.symbols.specs.inner.Layers.{layers_of}
use Rattle.symbols.proofs.WriteLemmas.{tail_text}
use Rattle.symbols.proofs.write.+write_place.Given as goal

abbrev pub decreases-write_place : goal.decreases-write_place
decreases-write_place l = l.place

abbrev pub invariant-loop-index : goal.invariant-loop-index
invariant-loop-index l =
    l.out ++ tail_text l.index (symbols_at (symbols_of (layers_of l.layers)) (drop l.index l.args)) ≡ l.initial.out ++ args_text (symbols_at (symbols_of (layers_of l.layers)) l.args)
