use Rattle.std.proofs.Common.{◌+◌, ◌∙◌, ◌++◌, ◌∷◌, [], sym, ap}
use Rattle.grammar.specs.Word.{words_at}
use Rattle.grammar.specs.Reading.{level}
use Rattle.grammar.specs.StatementReading.{literal_with}
use Rattle.theory_grammar.proofs.TermReads.{fails_along}
use Rattle.asp_parser.proofs.LiteralReads.{literals_start, literals_more, literals_fail, literals_done, first_literal_fails}
use Rattle.asp_parser.proofs.body.literals.Goals as goal

pub turns-init : goal.turns-init
turns-init c =
    literals_start c.args.text.now c.args.tokens.now c.args.at c.args.kept.now c.literal.new.kept c.in-Ok.read.0 c.in-Ok.read.1 c.push.new.self c.in-Ok.ensures (c.in-Ok-push.ensures.ok ∙ ap (λ z. z ++ c.in-Ok.read.0 ∷ []) c.new-found.ensures)

pub turns-preserved : goal.turns-preserved
turns-preserved c =
    literals_more c.args.text.now c.args.tokens.now c.args.at c.args.kept.now c.turns.kept c.literal-in-turns.new.kept c.turns.found c.turns.next c.in-Ok-literal.item c.in-Ok-literal.after c.push-in-Ok-literal.new.self c.turns.invariant
    (sym c.turns-test.ensures.is) c.in-Ok-literal.ensures c.in-Ok-push-2.ensures.ok

pub returns-in-Err : goal.returns-in-Err
returns-in-Err c =
    fails_along c.args.text.now c.args.tokens.now c.in-Err.stop (literal_with (level 64) (words_at c.args.text.now c.args.tokens.now c.args.at)) _ (λ f h. first_literal_fails c.args.text.now c.args.tokens.now c.args.at f h) c.in-Err.ensures

pub returns-in-Err-literal : goal.returns-in-Err-literal
returns-in-Err-literal c =
    fails_along c.args.text.now c.args.tokens.now c.in-Err-literal.stop (literal_with (level 64) (words_at c.args.text.now c.args.tokens.now (c.turns.next + 1))) _
    (λ f h. literals_fail c.args.text.now c.args.tokens.now c.args.at c.args.kept.now c.turns.kept c.turns.found c.turns.next f c.turns.invariant (sym c.turns-test.ensures.is) h) c.in-Err-literal.ensures

pub returns : goal.returns
returns c = literals_done c.args.text.now c.args.tokens.now c.args.at c.args.kept.now c.turns.kept c.turns.found c.turns.next c.turns.invariant (sym c.turns-test.ensures.is)
