use Rattle.std.proofs.Common.{sym}
use Rattle.asp_parser.proofs.LiteralReads.{held_theory, held_condition}
use Rattle.asp_parser.proofs.literal.literal.Goals as goal

pub returns-then-is_mark : goal.returns-then-is_mark
returns-then-is_mark c = held_theory c.args.text.now c.args.tokens.now c.args.at c.args.kept.now c.placed.new.kept c.placed.result (sym c.if-is_not.ensures) (sym c.if-is_mark.ensures.is) c.placed.ensures

pub returns : goal.returns
returns c = held_condition c.args.text.now c.args.tokens.now c.args.at c.args.kept.now c.positive.new.seen c.positive.result (sym c.if-is_not.ensures) (sym c.if-is_mark.ensures.is) c.positive.ensures
