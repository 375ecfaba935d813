use Rattle.std.proofs.Common.{vec_items}
use Rattle.linear_normal.proofs.SelectionLemmas.{empty_next}
use Rattle.linear_normal.proofs.selections.empty_rows.Goals as goal

pub loop-atom-preserved : goal.loop-atom-preserved
loop-atom-preserved c =
    rw c.in_ok-push.ensures.items (empty_next vec_items c.loop-atom.rows.items c.new.result c.args.atoms.now c.loop-atom._atom-index 0 c.loop-atom-test.true c.loop-atom.invariant c.new.ensures.items)
