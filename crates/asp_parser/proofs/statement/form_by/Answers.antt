use Rattle.std.proofs.Common.{◌∙◌, ap}
use Rattle.grammar.specs.Spelled.{word_by, bytes_at}
use Rattle.grammar.specs.Reading.{starts_next}
use Rattle.grammar.specs.StatementReading.{is_const, is_show}
use Rattle.asp_parser.proofs.FormReads.{by_constant, by_show, by_rule, kind_no_const, kind_no_show}
use Rattle.asp_parser.proofs.statement.form_by.Goals as goal

pub returns-in-Const : goal.returns-in-Const
returns-in-Const c =
    by_constant c.args.text.now c.args.tokens.now c.args.at c.args.kept.now c.constant.new.kept c.constant.result c.requires.no_arrow (ap (starts_next is_const) c.requires.word ∙ ap (λ kind. is_const (word_by kind (bytes_at c.args.text.now c.args.tokens.now c.args.at))) c.in-Const.is) c.constant.ensures

pub returns-in-Show : goal.returns-in-Show
returns-in-Show c = by_show c.args.text.now c.args.tokens.now c.args.at c.args.kept.now c.args.kept.now c.show.result c.requires.no_arrow (ap (starts_next is_show) c.requires.word ∙ ap (λ kind. is_show (word_by kind (bytes_at c.args.text.now c.args.tokens.now c.args.at))) c.in-Show.is) (c.show.ensures c.args.kept.now)

pub returns-in_default : goal.returns-in_default
returns-in_default c =
    by_rule c.args.text.now c.args.tokens.now c.args.at c.args.kept.now c.rule.new.kept c.rule.result c.requires.no_arrow (ap (starts_next is_const) c.requires.word ∙ kind_no_const c.args.kind _ c.in_default.not-Const) (ap (starts_next is_show) c.requires.word ∙ kind_no_show c.args.kind _ c.in_default.not-Show)
    c.rule.ensures
