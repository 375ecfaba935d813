use Rattle.std.proofs.Common.{◌≡◌, drop}
use Rattle.symbols.specs.inner.Layer.{first_apart}
use Rattle.symbols.proofs.order.ids_apart.Given as goal

abbrev pub invariant-loop-place : goal.invariant-loop-place
invariant-loop-place l = first_apart (drop l.place l.xs) (drop l.place l.ys) ≡ first_apart l.xs l.ys
