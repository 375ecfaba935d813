use Rattle.propagation.proofs.RowLaws.{has_rows}
use Rattle.propagation.proofs.wakes.empty.Goals as goal

pub returns : goal.returns
returns c n =
    has_rows c.args.shape n c.new.result.items c.new-2.result.items c.add_rows.new.rows.items c.add_rows-2.new.rows.items c.new.ensures.items c.new-2.ensures.items
    c.in_ok-add_rows.ensures.long c.in_ok-add_rows-2.ensures.long c.in_ok-add_rows.ensures.within c.in_ok-add_rows-2.ensures.within
