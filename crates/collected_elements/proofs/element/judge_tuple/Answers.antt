use Rattle.std.proofs.Common.{◌∙◌, IsTrue, sym, ap, subst}
use Rattle.std.specs.List.{AllByRecursion, list_any}
use Rattle.symbols.proofs.TableLemmas.{IsFront-trans}
use Rattle.syntax_tree.specs.Outcome.{bound_in}
use Rattle.syntax_tree.specs.Tree.{is_term}
use Rattle.syntax_tree.specs.Value.{value_of}
use Rattle.syntax_tree.proofs.Holding.{bound-front}
use Rattle.program_meaning.specs.Collected.{collected}
use Rattle.program_meaning.specs.Theory.{first_not_linear, is_over}
use Rattle.collected_elements.specs.Judged.{IsJudged}
use Rattle.collected_elements.specs.inner.Places.{IsRestOf}
use Rattle.collected_elements.proofs.ElementLemmas.{element_parts, rest_terms, over_first, over_duration, over_rest, err_again, first_over_is, judged_same, judged_front, judged_known}
use Rattle.collected_elements.proofs.element.judge_tuple.Goals as goal

pub judge_rest-requires-clause-rest : goal.judge_rest-requires-clause-rest
judge_rest-requires-clause-rest c = subst (AllByRecursion (λ t. IsTrue (is_term t))) (sym c.items.ensures) (rest_terms c.args.element.now c.requires.element)

pub returns-in-Err-clause-over : goal.returns-in-Err-clause-over
returns-in-Err-clause-over c = λ e. over_duration c.args.name (bound_in c.args.symbols.now c.args.binding.now.values) c.args.element.now (c.in-Err.ensures.over (err_again e))

pub returns-in-Err-judge_first-clause-over : goal.returns-in-Err-judge_first-clause-over
returns-in-Err-judge_first-clause-over c = λ e.
    let old = c.args.symbols.now in
    let one = c.judge_duration.new.symbols in
    let values = c.args.binding.now.values in
    let front = bound-front old one values c.in-Ok.ensures.kept c.requires.binding in
    over_first c.args.name (bound_in old values) c.args.element.now
    (first_over_is c.args.name c.requires.name (bound_in old values) c.args.element.now.first
    ∙ ap (λ b. (collected b c.args.element.now.first).over) (sym front) ∙ c.in-Err-judge_first.ensures.over (err_again e))

pub returns-in-Err-judge_rest-clause-over : goal.returns-in-Err-judge_rest-clause-over
returns-in-Err-judge_rest-clause-over c = λ e.
    let old = c.args.symbols.now in
    let one = c.judge_duration.new.symbols in
    let two = c.judge_first.new.symbols in
    let values = c.args.binding.now.values in
    let front = bound-front old two values (IsFront-trans old one two c.in-Ok.ensures.kept c.in-Ok-judge_first.ensures.kept) c.requires.binding in
    over_rest c.args.name (bound_in old values) c.args.element.now
    ((λ i. list_any (λ t. is_over (value_of (sym front i) t)) (sym c.items.ensures i)) ∙ c.in-Err-judge_rest.ensures.over (err_again e))

pub returns-in-Ok-judge_rest-clause-judged : goal.returns-in-Ok-judge_rest-clause-judged
returns-in-Ok-judge_rest-clause-judged c =
    let old = c.args.symbols.now in
    let one = c.judge_duration.new.symbols in
    let two = c.judge_first.new.symbols in
    let three = c.judge_rest.new.symbols in
    let values = c.args.binding.now.values in
    let bound = bound_in old values in
    let front_one = bound-front old one values c.in-Ok.ensures.kept c.requires.binding in
    let front_two = bound-front old two values (IsFront-trans old one two c.in-Ok.ensures.kept c.in-Ok-judge_first.ensures.kept) c.requires.binding in
    let element = c.args.element.now in
    let term = element.first in
    let first =
    judged_front two three c.in-Ok-judge_rest.ensures.kept c.in-Ok-judge_first.first c.in-Ok-judge_first.ensures.known (collected bound term) (first_not_linear c.args.name bound term)
    (judged_same two c.in-Ok-judge_first.first (collected (bound_in one values) term) (collected bound term) (first_not_linear c.args.name (bound_in one values) term)
    (first_not_linear c.args.name bound term) (λ i. collected (front_one i) term) (λ i. first_not_linear c.args.name (front_one i) term) c.in-Ok-judge_first.ensures.judged) in
    let rest = subst (λ ts. IsRestOf three bound ts c.in-Ok-judge_rest.rest) c.items.ensures
    (subst (λ b. IsRestOf three b c.items.result.now c.in-Ok-judge_rest.rest) front_two c.in-Ok-judge_rest.ensures.rest) in
    subst (λ r. IsJudged three c.args.name bound r c.as_tuple.result) (sym (element_parts element))
    (c.as_tuple.ensures.judged three c.args.name bound _ c.requires.name first c.in-Ok.ensures.duration rest)

pub returns-in-Ok-judge_rest-clause-known : goal.returns-in-Ok-judge_rest-clause-known
returns-in-Ok-judge_rest-clause-known c =
    c.as_tuple.ensures.known c.judge_rest.new.symbols
    (judged_known c.judge_first.new.symbols c.judge_rest.new.symbols c.in-Ok-judge_rest.ensures.kept c.in-Ok-judge_first.first c.in-Ok-judge_first.ensures.known)
    c.in-Ok-judge_rest.ensures.known
