use Rattle.std.proofs.Common.{◌+◌, ◌∙◌, not, sym, ap}
use Rattle.grammar.specs.Word.{words_at}
use Rattle.grammar.specs.Check.{places_where}
use Rattle.grammar.specs.Reading.{term_at}
use Rattle.theory_grammar.specs.State.{least}
use Rattle.theory_grammar.proofs.MissingReads.{duration_none, duration_some, duration_fails}
use Rattle.theory_grammar.proofs.TermReads.{fails_along}
use Rattle.theory_grammar.proofs.element.duration.Goals as goal

pub returns-then-not-is_mark : goal.returns-then-not-is_mark
returns-then-not-is_mark c =
    duration_none c.args.text.now c.args.tokens.now c.args.name c.args.first c.args.at c.args.seen.now c.fail_at.new.self (sym c.if-not-is_mark.ensures.is) c.requires.at
    (c.fail_at.ensures ∙ ap (λ b. record c.args.seen.now { bad = least c.args.seen.now.bad (places_where b c.args.first) }) c.is_disjoint.ensures)

pub returns-in-Ok : goal.returns-in-Ok
returns-in-Ok c =
    duration_some c.args.text.now c.args.tokens.now c.args.name c.args.first c.args.at c.args.seen.now c.fail_at-2.new.self c.judged_term.new.seen c.in-Ok.read.term c.in-Ok.read.shape c.in-Ok.read.next (sym c.if-not-is_mark.ensures.is)
    (c.fail_at-2.ensures ∙ ap (λ b. record c.args.seen.now { bad = least c.args.seen.now.bad (places_where (not b) c.args.at) }) c.is_disjoint-2.ensures) c.in-Ok.ensures

pub returns-in-Err : goal.returns-in-Err
returns-in-Err c =
    fails_along c.args.text.now c.args.tokens.now c.in-Err.stop (term_at 64 (words_at c.args.text.now c.args.tokens.now (c.args.at + 1))) _
    (λ f h. duration_fails c.args.text.now c.args.tokens.now c.args.name c.args.at f (sym c.if-not-is_mark.ensures.is) h) c.in-Err.ensures
