use Rattle.std.proofs.Common.{ap, sym}
use Rattle.grammar.specs.Reading.{starts_next}
use Rattle.grammar.specs.StatementReading.{is_const, is_show}
use Rattle.asp_parser.proofs.FormReads.{by_constraint, by_rule}
use Rattle.asp_parser.proofs.statement.form.Goals as goal

pub returns-then-is_mark : goal.returns-then-is_mark
returns-then-is_mark c = by_constraint c.args.text.now c.args.tokens.now c.args.at c.args.kept.now c.constraint.new.kept c.constraint.result (sym c.if-is_mark.ensures.is) c.constraint.ensures

pub returns-in-None : goal.returns-in-None
returns-in-None c =
    by_rule c.args.text.now c.args.tokens.now c.args.at c.args.kept.now c.rule.new.kept c.rule.result (sym c.if-is_mark.ensures.is) (ap (starts_next is_const) c.in-None.ensures.end) (ap (starts_next is_show) c.in-None.ensures.end) c.rule.ensures
