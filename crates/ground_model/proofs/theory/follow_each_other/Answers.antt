use Rattle.std.proofs.Common.{◌≡◌, ◌<◌, ◌+◌, Bool, true, false, cond, int_lt, pos, ℕ, sym, ◌∙◌, arith}
use Rattle.ground_model.proofs.SweepLemmas.{begin, go_on, span_at}
use Rattle.ground_model.proofs.theory.follow_each_other.Goals as goal

pub loop-at-init : goal.loop-at-init
loop-at-init c = record { earlier = omega arith; swept = begin c.args.spans.now c.requires.sized c.requires.ascending }

below_next : (t : Bool) (new last at : ℕ) → last < at → new ≡ cond t at last → new < at + 1
below_next true new last at earlier is = omega arith
below_next false new last at earlier is = omega arith

pub loop-at-preserved : goal.loop-at-preserved
loop-at-preserved c = record {
  earlier = below_next (int_lt (pos 0) (span_at c.args.spans.now c.loop-at.at).1) c.last_with_length-last.result c.loop-at.last c.loop-at.at c.loop-at.invariant.earlier c.last_with_length-last.ensures;
  swept = go_on c.args.spans.now c.loop-at.last c.loop-at.at c.loop-at-test.true c.loop-at.invariant.swept c.last_with_length-last.result
      (sym c.share.ensures ∙ c.if-share.false) c.last_with_length-last.ensures;
}
