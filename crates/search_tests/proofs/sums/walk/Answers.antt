use Rattle.std.proofs.Common.{◌∙◌}
use Rattle.trail.proofs.GrowthLaws.{grows_shape}
use Rattle.propagator_core.specs.Shown.{IsShown}
use Rattle.search_tests.proofs.WalkLaws.{fits_on}
use Rattle.search_tests.proofs.sums.walk.Goals as goal

pub propagate-requires-clause-fits : goal.propagate-requires-clause-fits
propagate-requires-clause-fits g c =
    let P = g.P.Propagator in
    fits_on (P.meaning c.loop-word.sum) (P.meaning c.take.new.sum) c.loop-word.trail.shape c.take.new.trail.shape c.take.ensures.meaning c.take.ensures.shape c.loop-word.invariant.fits

pub loop-word-preserved : goal.loop-word-preserved
loop-word-preserved g c =
    let P = g.P.Propagator in
    record {
      fits =
          fits_on (P.meaning c.loop-word.sum) (P.meaning c.propagate.new.self) c.loop-word.trail.shape c.propagate.new.trail.shape
          (c.propagate.ensures.meaning ∙ c.take.ensures.meaning)
          (grows_shape (IsShown (P.meaning c.take.new.sum).valid) c.take.new.trail c.propagate.new.trail c.propagate.ensures.grows ∙ c.take.ensures.shape)
          c.loop-word.invariant.fits;
      stands = c.propagate.ensures.stands;
    }
