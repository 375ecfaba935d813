use Rattle.std.proofs.Common.{sym}
use Rattle.theory_grammar.proofs.MissingReads.{given_none, given_some}
use Rattle.theory_grammar.proofs.condition.given.Goals as goal

pub returns-then-not-is_mark : goal.returns-then-not-is_mark
returns-then-not-is_mark c = given_none c.args.text.now c.args.tokens.now c.args.refused c.args.at c.args.seen.now _ (sym c.if-not-is_mark.ensures.is) c.requires.at c.new.ensures

pub returns : goal.returns
returns c =
    given_some c.args.text.now c.args.tokens.now c.args.refused c.args.at c.args.seen.now c.fail_at.new.self c.held.new.seen c.held.result (sym c.if-not-is_mark.ensures.is) c.fail_at.ensures c.held.ensures
