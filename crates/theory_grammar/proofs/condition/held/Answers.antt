use Rattle.std.proofs.Common.{sym}
use Rattle.theory_grammar.proofs.MissingReads.{held_none, held_some}
use Rattle.theory_grammar.proofs.condition.held.Goals as goal

pub returns-then-not-begins : goal.returns-then-not-begins
returns-then-not-begins c = held_none c.args.text.now c.args.tokens.now c.args.at c.args.seen.now _ (sym c.if-not-begins.ensures) c.requires.at c.new.ensures

pub returns : goal.returns
returns c = held_some c.args.text.now c.args.tokens.now c.args.at c.args.seen.now c.conditions.new.seen c.conditions.result (sym c.if-not-begins.ensures) c.conditions.ensures
