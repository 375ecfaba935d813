use Rattle.clingcon_app.proofs.FrontLemmas.{front_of_block, front_behind_block}
use Rattle.clingcon_app.proofs.running.print_answer.Goals as goal

pub returns-in-Err-clause-front : goal.returns-in-Err-clause-front
returns-in-Err-clause-front g c is = front_of_block _ _ c.args.block.now _ c.in-Err.ensures.front c.stopped.ensures.answers

pub returns-in-Err-write_last-clause-front : goal.returns-in-Err-write_last-clause-front
returns-in-Err-write_last-clause-front g c is =
    front_behind_block _ _ _ c.args.block.now _ c.in-Ok.ensures.whole c.in-Err-write_last.ensures.front c.stopped-in-Err-write_last.ensures.answers
