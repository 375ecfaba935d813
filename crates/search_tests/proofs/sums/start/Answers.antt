use Rattle.std.proofs.Common.{List, IsTrue, subst, sym}
use Rattle.linear_normal.specs.declared.constraint.Item.{Item}
use Rattle.sum_propagator.specs.Sums.{fits_sum, StandsAt}
use Rattle.sum_propagator.specs.Kinds.{meaning_of}
use Rattle.search_tests.proofs.WalkLaws.{fits_same, stands_new}
use Rattle.search_tests.proofs.sums.start.Goals as goal

pub returns-in-Ok-clause-fits : goal.returns-in-Ok-clause-fits
returns-in-Ok-clause-fits c =
    fits_same (meaning_of c.in-Ok.sum.sum.kind c.in-Ok.sum.sum.number c.in-Ok.sum.sum.items c.in-Ok.sum.sum.most) 1 c.in_ok-list.list _ c.args.trail.now.shape c.in-Ok.ensures.meaning
    (subst (λ (items : List Item). IsTrue (fits_sum 1 items c.args.trail.now.shape)) (sym c.in_ok-list.ensures) c.requires.fits)

pub returns-in-Ok-clause-stands : goal.returns-in-Ok-clause-stands
returns-in-Ok-clause-stands c = stands_new (StandsAt c.in-Ok.sum.sum.items c.in-Ok.sum.totals c.in-Ok.sum.widest) c.in-Ok.sum.seen c.args.trail.now c.in-Ok.ensures.seen c.in-Ok.ensures.stands
