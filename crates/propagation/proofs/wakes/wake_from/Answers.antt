use Rattle.std.proofs.Common.{subst, sym, ℕ}
use Rattle.conflict_analysis.proofs.CountLaws.{entry_named}
use Rattle.propagation.specs.Waking.{HasRows}
use Rattle.propagation.proofs.wakes.wake_from.Goals as goal

pub wake-requires : goal.wake-requires
wake-requires c = record {
  rows = (
    c.args.trail.now.shape,
    subst (λ (n : ℕ). HasRows c.args.trail.now.shape n c.args.wakes.now) (sym c.loop-at.invariant.count) c.requires.rows,
    entry_named c.args.trail.now c.loop-at.at c.entry.result.now c.length-at-end.ensures.assignment c.entry.ensures,
  );
}
