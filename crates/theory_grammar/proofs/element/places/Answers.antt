use Rattle.std.proofs.Common.{sym}
use Rattle.theory_grammar.proofs.MissingReads.{places_none, places_some}
use Rattle.theory_grammar.proofs.element.places.Goals as goal

pub returns-then-not-is_mark : goal.returns-then-not-is_mark
returns-then-not-is_mark c = places_none c.args.text.now c.args.tokens.now c.args.name c.args.at c.args.seen.now _ (sym c.if-not-is_mark.ensures.is) c.requires.at c.new.ensures

pub returns : goal.returns
returns c = places_some c.args.text.now c.args.tokens.now c.args.name c.args.at c.args.seen.now c.row.new.seen c.row.result (sym c.if-not-is_mark.ensures.is) c.row.ensures
