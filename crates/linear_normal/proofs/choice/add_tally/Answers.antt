use Rattle.linear_normal.proofs.ChoiceLemmas.{tally_given}
use Rattle.linear_normal.proofs.choice.add_tally.Goals as goal

pub returns-clause-gives : goal.returns-clause-gives
returns-clause-gives c = tally_given _ _ c.args.bodies.now c.in_ok-bodies.bodies c.in_ok-number.number c.in_ok-bodies.ensures c.in_ok-number.ensures.puts
