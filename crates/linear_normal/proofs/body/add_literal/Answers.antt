use Rattle.linear_normal.proofs.BodyCodeLemmas.{literal_given}
use Rattle.linear_normal.proofs.body.add_literal.Goals as goal

pub returns-in_ok-number-in-Theory-clause-gives : goal.returns-in_ok-number-in-Theory-clause-gives
returns-in_ok-number-in-Theory-clause-gives c =
    literal_given _ _ c.args.variables c.args.literal.now c.in-Theory.relation c.in-Theory.sign c.in_ok-number-in-Theory.number c.in-Theory.is c.in_ok-number-in-Theory.ensures.gives
