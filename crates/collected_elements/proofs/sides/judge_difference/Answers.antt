use Rattle.std.proofs.Common.{◌∙◌, ◌||◌, IsTrue, ap, subst}
use Rattle.syntax_tree.specs.Outcome.{bound_in}
use Rattle.syntax_tree.specs.declared.literal.TheoryName.TheVariants as name
use Rattle.syntax_tree.proofs.Holding.{bound-front}
use Rattle.program_meaning.specs.Collected.{collected}
use Rattle.program_meaning.specs.Theory.{first_not_linear}
use Rattle.collected_elements.proofs.ElementLemmas.{judged_same}
use Rattle.collected_elements.proofs.sides.judge_difference.Goals as goal

pub returns-in-Err-judge_term-clause-over : goal.returns-in-Err-judge_term-clause-over
returns-in-Err-judge_term-clause-over c = λ e.
    subst (λ b. IsTrue (collected b c.args.term.now).over) (bound-front c.args.symbols.now c.has_bad_side.new.symbols c.args.binding.now.values c.in-Ok.ensures.kept c.requires.binding)
    (c.in-Err-judge_term.ensures.over e)

pub returns-in-Ok-judge_term-clause-judged : goal.returns-in-Ok-judge_term-clause-judged
returns-in-Ok-judge_term-clause-judged c =
    let old = c.args.symbols.now in
    let mid = c.has_bad_side.new.symbols in
    let new = c.judge_term.new.symbols in
    let values = c.args.binding.now.values in
    let term = c.args.term.now in
    let front = bound-front old mid values c.in-Ok.ensures.kept c.requires.binding in
    let here = c.unless_bad.ensures.judged new (collected (bound_in mid values) term) c.in-Ok-judge_term.ensures.judged in
    judged_same new c.unless_bad.result (collected (bound_in mid values) term) (collected (bound_in old values) term) ((collected (bound_in mid values) term).not_linear || c.in-Ok.bad)
    (first_not_linear name.Diff (bound_in old values) term) (λ i. collected (front i) term)
    (ap (λ b. (collected b term).not_linear || c.in-Ok.bad) front ∙ c.in-Ok.ensures.bad) here

pub returns-in-Ok-judge_term-clause-known : goal.returns-in-Ok-judge_term-clause-known
returns-in-Ok-judge_term-clause-known c = c.unless_bad.ensures.known c.judge_term.new.symbols c.in-Ok-judge_term.ensures.known
