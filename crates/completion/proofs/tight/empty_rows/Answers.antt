use Rattle.std.proofs.Common.{ℕ, List, [], vec_items}
use Rattle.completion.proofs.RowLemmas.{row_added}
use Rattle.completion.proofs.tight.empty_rows.Goals as goal

pub loop-preserved : goal.loop-preserved
loop-preserved c =
    let none : ℕ → List ℕ = λ a. [] in
    rw c.in_ok-push.ensures.items (row_added vec_items none c.loop.rows.items 0 c.loop.counter c.new.result c.loop.invariant c.new.ensures.items)
