use Rattle.std.proofs.Common.{◌≡◌, ◌++◌, map, drop, vec_items}
use Rattle.literals.specs.Nogoods.{canonical}
use Rattle.completion.proofs.atom.add_rows.Given as goal

abbrev pub invariant-loop-row : goal.invariant-loop-row
invariant-loop-row l =
    l.nogoods ++ map (λ row. canonical (vec_items row)) (drop l.row-index l.rows) ≡ l.fn.nogoods ++ map (λ row. canonical (vec_items row)) l.rows
