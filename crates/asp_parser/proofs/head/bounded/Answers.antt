use Rattle.std.proofs.Common.{sym}
use Rattle.asp_parser.proofs.ChoiceReads.{bounded_rel, bounded_plain}
use Rattle.asp_parser.proofs.head.bounded.Goals as goal

pub returns-in-Some : goal.returns-in-Some
returns-in-Some c = bounded_rel c.args.text.now c.args.tokens.now c.args.at c.args.kept.now c.choice.new.kept c.args.left c.in-Some.rel c.choice.result (sym c.in-Some.ensures.is) c.choice.ensures

pub returns-in-None : goal.returns-in-None
returns-in-None c = bounded_plain c.args.text.now c.args.tokens.now c.args.at c.args.kept.now c.choice-in-None.new.kept c.args.left c.choice-in-None.result (sym c.in-None.ensures.is) c.choice-in-None.ensures
