use Rattle.std.proofs.Common.{sym, ◌∙◌, subst, arith}
use Rattle.std.proofs.Math.Seq.{map-set_same}
use Rattle.propagator_core.proofs.SeveralLaws.{fit_at}
use Rattle.propagator_core.specs.Several.{AllFit}
use Rattle.propagation.proofs.StepLaws.{one_undone, next_stands}
use Rattle.propagation.proofs.steps.undo_all.Goals as goal

pub undo_one-requires-clause-fit : goal.undo_one-requires-clause-fit
undo_one-requires-clause-fit g c =
    let P = g.P.Propagator in
    let long = c.loop-at.auto.propagators in
    let below = c.loop-at-test.true in
    fit_at P.meaning c.loop-at.propagators c.loop-at.at c.index-propagators-at.result c.args.trail.now.shape
    (subst (λ ms. AllFit ms c.args.trail.now.shape) (sym c.loop-at.invariant.meanings) c.requires.fit) (omega (arith, long, below))

pub undo_one-requires-clause-stand : goal.undo_one-requires-clause-stand
undo_one-requires-clause-stand g c =
    let P = g.P.Propagator in
    let long = c.loop-at.auto.propagators in
    let below = c.loop-at-test.true in (
      c.requires.stand.0,
      c.requires.stand.1,
      c.requires.stand.2,
      next_stands P.stands P.looked c.args.propagators.now c.loop-at.propagators c.loop-at.at c.index-propagators-at.result c.requires.stand.0 c.args.trail.now
          (omega (arith, long, below)) c.loop-at.invariant.stand c.requires.stand.3,
      c.requires.stand.4,
    )

pub loop-at-preserved : goal.loop-at-preserved
loop-at-preserved g c =
    let P = g.P.Propagator in
    let long = c.loop-at.auto.propagators in
    let below = c.loop-at-test.true in
    record {
      meanings =
          map-set_same P.meaning c.loop-at.propagators c.loop-at.at c.undo_one.new.propagator c.index-propagators-at.result c.undo_one.ensures.meaning
          ∙ c.loop-at.invariant.meanings;
      stand =
          one_undone P.stands P.looked c.args.propagators.now c.loop-at.propagators c.loop-at.at c.undo_one.new.propagator c.args.trail.now (omega (arith, long, below))
          c.loop-at.invariant.stand c.undo_one.ensures.stand;
    }
