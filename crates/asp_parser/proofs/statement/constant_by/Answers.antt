use Rattle.std.proofs.Common.{◌∙◌, ap, arith}
use Rattle.grammar.specs.Reading.{starts_next}
use Rattle.grammar.specs.TheoryReading.{is_name}
use Rattle.theory_grammar.proofs.ConditionReads.{kind_no_name}
use Rattle.asp_parser.proofs.ConstantReads.{constant_unnamed}
use Rattle.asp_parser.proofs.statement.constant_by.Goals as goal

pub returns-in_default : goal.returns-in_default
returns-in_default c =
    (constant_unnamed c.args.text.now c.args.tokens.now c.args.at c.requires.begins (ap (starts_next is_name) c.requires.word ∙ kind_no_name c.args.text.now c.args.tokens.now c.args.kind _ c.in_default.not-Name), omega (arith, c.requires.at))
