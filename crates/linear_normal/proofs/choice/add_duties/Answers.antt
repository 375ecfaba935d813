use Rattle.linear_normal.proofs.ChoiceLemmas.{both_bounds}
use Rattle.linear_normal.proofs.choice.add_duties.Goals as goal

pub returns : goal.returns
returns c = both_bounds _ _ _ c.args.items.now c.args.first _ _ _ _ _ c.in_ok-add_duty.ensures c.in_ok-add_duty-2.ensures
