use Rattle.safety.proofs.Answering.{adds_one}
use Rattle.safety.proofs.conditions.in_atom.Goals as goal

pub returns : goal.returns
returns c =
    adds_one c.args.ways.now.table.keys c.args.flags.now c.args.atom.now c.in_ok-answer.answer c.args.found.now c.push.new.self c.in_ok-push.ensures.ok
    c.in_ok-answer.ensures
