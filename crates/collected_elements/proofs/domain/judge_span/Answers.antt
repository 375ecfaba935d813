use Rattle.std.proofs.Common.{◌∙◌, ◌||◌, IsTrue, subst}
use Rattle.syntax_tree.specs.Outcome.{bound_in}
use Rattle.syntax_tree.proofs.Holding.{ok_along, bound-front}
use Rattle.program_meaning.specs.Collected.{collected}
use Rattle.program_meaning.specs.Comparison.{span_of}
use Rattle.program_meaning.specs.Theory.{is_span_over}
use Rattle.row_tests.specs.Reaches.{span_said}
use Rattle.collected_elements.proofs.ElementLemmas.{span_same}
use Rattle.collected_elements.proofs.domain.judge_span.Goals as goal

pub returns-clause-span : goal.returns-clause-span
returns-clause-span c =
    let old = c.args.symbols.now in
    let bound = bound_in old c.args.binding.now.values in
    let front = bound-front old c.collect_term.new.symbols c.args.binding.now.values c.in-Ok.ensures.kept c.requires.binding in
    let span = c.in-Ok-integers.ensures.reach ∙ (λ i. span_of (front i) c.args.term.now) in
    ok_along c.by_reach.result _ _ c.by_reach.ensures.span
    (span_same c.in-Ok.found.over (collected bound c.args.term.now).over (span_said c.in-Ok-integers.reach) (span_of bound c.args.term.now) c.in-Ok.ensures.found.over span)

pub returns-clause-over : goal.returns-clause-over
returns-clause-over c = λ e.
    let old = c.args.symbols.now in
    let bound = bound_in old c.args.binding.now.values in
    let front = bound-front old c.collect_term.new.symbols c.args.binding.now.values c.in-Ok.ensures.kept c.requires.binding in
    let span = c.in-Ok-integers.ensures.reach ∙ (λ i. span_of (front i) c.args.term.now) in
    subst (λ o. IsTrue (o || is_span_over (span_of bound c.args.term.now))) c.in-Ok.ensures.found.over
    (subst (λ s. IsTrue (c.in-Ok.found.over || is_span_over s)) span (c.by_reach.ensures.over e))
