use Rattle.std.proofs.Common.{sym}
use Rattle.asp_parser.proofs.LiteralReads.{body_none, body_some}
use Rattle.asp_parser.proofs.body.body.Goals as goal

pub returns-then-not-begins_literal : goal.returns-then-not-begins_literal
returns-then-not-begins_literal c = body_none c.args.text.now c.args.tokens.now c.args.at c.args.kept.now _ (sym c.if-not-begins_literal.ensures) c.requires.at c.new.ensures

pub returns : goal.returns
returns c = body_some c.args.text.now c.args.tokens.now c.args.at c.args.kept.now c.literals.new.kept c.literals.result (sym c.if-not-begins_literal.ensures) c.literals.ensures
