use Rattle.asp_parser.proofs.TextTurns.{stood_start, stood_more, stood_stop, stood_all}
use Rattle.asp_parser.proofs.text.statements.Goals as goal

pub turns-init : goal.turns-init
turns-init c = stood_start c.args.text.now c.args.tokens.now c.new-found.result c.new-found.ensures

pub turns-preserved : goal.turns-preserved
turns-preserved c =
    stood_more c.args.text.now c.args.tokens.now c.turns.at c.in-Ok.next c.turns.found c.push.new.self c.in-Ok.made c.turns.invariant c.in-Ok.ensures c.in-Ok-push.ensures.ok

pub returns-in-Err : goal.returns-in-Err
returns-in-Err c = stood_stop c.args.text.now c.args.tokens.now c.turns.at c.turns.found c.in-Err.stop c.turns.invariant c.turns-test.true c.in-Err.ensures

pub returns : goal.returns
returns c = stood_all c.args.text.now c.args.tokens.now c.turns.at c.turns.found c.turns.invariant c.turns-test.false
