use Rattle.std.proofs.Common.{◌∙◌}
use Rattle.symbols.proofs.TableLemmas.{IsFront-trans}
use Rattle.syntax_tree.specs.Outcome.{bound_in}
use Rattle.syntax_tree.proofs.Holding.{bound-front}
use Rattle.program_meaning.specs.Collected.{collected}
use Rattle.collected_elements.specs.inner.Places.{is_bad}
use Rattle.collected_elements.proofs.SideLemmas.{bad_more}
use Rattle.collected_elements.proofs.sides.has_bad_part.Goals as goal

pub loop-part-preserved : goal.loop-part-preserved
loop-part-preserved c =
    let old = c.args.symbols.now in
    let now = c.loop-part.symbols in
    let front = bound-front old now c.args.binding.now.values c.loop-part.invariant.kept c.requires.binding in
    record {
      bad =
          c.either-bad.ensures
          ∙ bad_more (bound_in old c.args.binding.now.values) c.args.parts.now c.loop-part.part-index c.part-item.result c.loop-part.bad c.in_ok-is_bad_part.field-0 c.part-item.is
          c.loop-part-test.true c.loop-part.invariant.bad (c.in_ok-is_bad_part.ensures.bad ∙ (λ i. is_bad (collected (front i) c.part-item.result.term)));
      kept = IsFront-trans old now c.is_bad_part.new.symbols c.loop-part.invariant.kept c.in_ok-is_bad_part.ensures.kept;
    }
