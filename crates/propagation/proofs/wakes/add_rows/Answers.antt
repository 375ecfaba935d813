use Rattle.std.proofs.Common.{subst, sym, List, ℕ, arith}
use Rattle.propagation.specs.Waking.{AreWithin}
use Rattle.propagation.specs.inner.Hearing.{EachIsKept}
use Rattle.propagation.proofs.RowLaws.{kept_none, within_none, none_added, longer_none}
use Rattle.propagation.proofs.wakes.add_rows.Goals as goal

pub loop-row-preserved : goal.loop-row-preserved
loop-row-preserved c =
    let rows : List (List ℕ) = c.loop-row.rows.items in
    let is = none_added rows c.push.new.self.items c.new.result c.in_ok-push.ensures.items c.new.ensures in
    let had = c.loop-row.invariant.long in
    let longer = c.loop-row.invariant.longer in
    let more = longer_none rows c.push.new.self.items is in
    record {
      long = omega (arith, had, more);
      longer = omega (arith, longer, more);
      kept = subst (EachIsKept c.args.rows.now.items) (sym is) (kept_none c.args.rows.now.items rows c.loop-row.invariant.kept);
      within = λ n a. subst (AreWithin n) (sym is) (within_none n rows (c.loop-row.invariant.within n a));
    }
