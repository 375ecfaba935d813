use Rattle.std.proofs.Common.{vec_items, refl}
use Rattle.completion.proofs.AtomLemmas.{row_made}
use Rattle.completion.proofs.atom.true_atoms.Goals as goal

pub loop-at-preserved : goal.loop-at-preserved
loop-at-preserved c =
    rw c.in_ok-push-2.ensures.items
    (row_made vec_items c.loop-at.rows.items c.loop-at.at c.push.new.self c.loop-at.invariant (rw (c.in_ok-push.ensures.items, c.new-row.ensures.items) refl))
