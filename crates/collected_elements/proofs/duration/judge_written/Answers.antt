use Rattle.std.proofs.Common.{◌∙◌, IsTrue, subst}
use Rattle.syntax_tree.specs.Outcome.{bound_in, outcome_of}
use Rattle.syntax_tree.specs.Value.{value_of}
use Rattle.syntax_tree.proofs.Holding.{ok_along, bound-front}
use Rattle.program_meaning.specs.Collected.{collected}
use Rattle.collected_elements.specs.inner.Places.{is_value_over}
use Rattle.collected_elements.proofs.ElementLemmas.{duration_same}
use Rattle.collected_elements.proofs.duration.judge_written.Goals as goal

pub returns-clause-duration : goal.returns-clause-duration
returns-clause-duration c =
    let old = c.args.symbols.now in
    let bound = bound_in old c.args.binding.now.values in
    let front = bound-front old c.collect_term.new.symbols c.args.binding.now.values c.in-Ok.ensures.kept c.requires.binding in
    let value = c.in-Ok-evaluate.ensures.value ∙ (λ i. value_of (front i) c.args.term.now) in
    ok_along c.by_value.result _ _ c.by_value.ensures.duration
    (duration_same c.in-Ok.found.over (collected bound c.args.term.now).over (outcome_of c.evaluate.new.symbols c.in-Ok-evaluate.value) (value_of bound c.args.term.now) c.in-Ok.ensures.found.over value)

pub returns-clause-over : goal.returns-clause-over
returns-clause-over c = λ e.
    let old = c.args.symbols.now in
    let bound = bound_in old c.args.binding.now.values in
    let front = bound-front old c.collect_term.new.symbols c.args.binding.now.values c.in-Ok.ensures.kept c.requires.binding in
    let value = c.in-Ok-evaluate.ensures.value ∙ (λ i. value_of (front i) c.args.term.now) in
    subst (λ o. IsTrue (is_value_over o (value_of bound c.args.term.now))) c.in-Ok.ensures.found.over
    (subst (λ v. IsTrue (is_value_over c.in-Ok.found.over v)) value (c.by_value.ensures.over e))
