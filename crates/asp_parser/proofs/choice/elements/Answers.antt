use Rattle.std.proofs.Common.{sym}
use Rattle.asp_parser.proofs.ChoiceReads.{elements_none, elements_some}
use Rattle.asp_parser.proofs.choice.elements.Goals as goal

pub returns-then-not-is_name : goal.returns-then-not-is_name
returns-then-not-is_name c = elements_none c.args.text.now c.args.tokens.now c.args.at c.args.kept.now _ (sym c.if-not-is_name.ensures.is) c.requires.at c.new.ensures

pub returns : goal.returns
returns c = elements_some c.args.text.now c.args.tokens.now c.args.at c.args.kept.now c.chosens.new.kept c.chosens.result (sym c.if-not-is_name.ensures.is) c.chosens.ensures
