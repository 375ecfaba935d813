use Rattle.std.proofs.Common.{ap, arith}
use Rattle.grammar.specs.Reading.{starts_next}
use Rattle.grammar.specs.TheoryReading.{is_name}
use Rattle.asp_parser.proofs.ConstantReads.{constant_unnamed}
use Rattle.asp_parser.proofs.statement.constant.Goals as goal

pub returns-in-None : goal.returns-in-None
returns-in-None c = (constant_unnamed c.args.text.now c.args.tokens.now c.args.at c.requires.begins (ap (starts_next is_name) c.in-None.ensures.end), omega (arith, c.requires.at))
