use Rattle.linear_normal.proofs.ChoiceLemmas.{some_bound, no_bound}
use Rattle.linear_normal.proofs.choice.add_duty.Goals as goal

pub returns-in_ok-push-in-Some : goal.returns-in_ok-push-in-Some
returns-in_ok-push-in-Some c =
    some_bound _ _ c.args.items.now c.args.first c.in_ok-number-in-Some.number c.args.bound c.in-Some.bound c.args.duties.now c.push.new.self c.in-Some.is c.in_ok-number-in-Some.ensures
    c.in_ok-push-in-Some.ensures.ok

pub returns-in-None : goal.returns-in-None
returns-in-None c = no_bound _ c.args.items.now c.args.first c.args.bound c.args.duties.now c.in-None.is
