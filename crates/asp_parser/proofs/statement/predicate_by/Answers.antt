use Rattle.std.proofs.Common.{arith}
use Rattle.asp_parser.proofs.ShowReads.{show_uncounted}
use Rattle.asp_parser.proofs.statement.predicate_by.Goals as goal

pub returns-in_default : goal.returns-in_default
returns-in_default c = λ kept. (show_uncounted c.args.text.now c.args.tokens.now c.args.at c.requires.begins _ c.requires.name c.requires.divide c.args.kind _ c.requires.word c.in_default.not-Number, omega (arith, c.requires.at))
