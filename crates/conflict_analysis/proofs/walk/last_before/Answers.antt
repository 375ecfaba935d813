use Rattle.std.proofs.Common.{arith, sym, subst}
use Rattle.conflict_analysis.specs.inner.Runs.{IsHit}
use Rattle.conflict_analysis.proofs.RunLaws.{none_before}
use Rattle.conflict_analysis.proofs.walk.last_before.Goals as goal

pub returns-in-Some : goal.returns-in-Some
returns-in-Some c = (
  omega (arith, c.in-Some.ensures.0),
  subst (λ p. IsHit c.args.trail.now c.args.marks.now p c.in-Some.hit.lit) (sym c.in-Some.ensures.0) c.in-Some.ensures.1,
  λ i l h lt. c.loop-place.invariant.none i l (omega (arith, c.in-Some.ensures.0)) lt,
)

pub loop-place-preserved : goal.loop-place-preserved
loop-place-preserved c = record {
  order = omega arith;
  none = none_before c.args.trail.now c.args.marks.now c.loop-place.place c.args.at c.loop-place-test.true c.in-None.ensures c.loop-place.invariant.none;
}
