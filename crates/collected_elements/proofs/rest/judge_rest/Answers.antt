use Rattle.std.proofs.Common.{◌∙◌, sym, ap}
use Rattle.symbols.proofs.TableLemmas.{IsFront-trans}
use Rattle.syntax_tree.specs.Outcome.{bound_in, outcome_of}
use Rattle.syntax_tree.specs.Value.{value_of}
use Rattle.syntax_tree.proofs.Holding.{bound-front}
use Rattle.collected_elements.proofs.RestLemmas.{rest_more, known_more, over_at}
use Rattle.collected_elements.proofs.rest.judge_rest.Goals as goal

pub returns-in-Err-with_place-clause-over : goal.returns-in-Err-with_place-clause-over
returns-in-Err-with_place-clause-over c = λ e.
    let old = c.args.symbols.now in
    let now = c.loop-place.symbols in
    let front = bound-front old now c.args.binding.now.values c.loop-place.invariant.kept c.requires.binding in
    let value = c.in-Ok.ensures.value ∙ (λ i. value_of (front i) c.index-rest-place.result) in
    over_at (bound_in old c.args.binding.now.values) c.args.rest.now c.loop-place.place c.index-rest-place.result c.index-rest-place.is c.loop-place-test.true
    (sym (ap (outcome_of c.evaluate.new.symbols) (c.in-Err-with_place.ensures.over e)) ∙ value)

pub loop-place-preserved : goal.loop-place-preserved
loop-place-preserved c =
    let old = c.args.symbols.now in
    let now = c.loop-place.symbols in
    let new = c.evaluate.new.symbols in
    let bound = bound_in old c.args.binding.now.values in
    let front = bound-front old now c.args.binding.now.values c.loop-place.invariant.kept c.requires.binding in
    let value = c.in-Ok.ensures.value ∙ (λ i. value_of (front i) c.index-rest-place.result) in
    record {
      rest = rest_more now new bound c.args.rest.now c.loop-place.place c.index-rest-place.result c.loop-place.found c.in-Ok.value c.in-Ok-with_place.more c.index-rest-place.is
          c.loop-place-test.true c.in-Ok.ensures.kept c.loop-place.invariant.rest c.loop-place.invariant.known value c.in-Ok-with_place.ensures.more;
      known = known_more now new c.in-Ok.ensures.kept c.loop-place.found c.in-Ok.value c.in-Ok-with_place.more c.loop-place.invariant.known c.in-Ok.ensures.known c.in-Ok-with_place.ensures.more;
      kept = IsFront-trans old now new c.loop-place.invariant.kept c.in-Ok.ensures.kept;
    }
