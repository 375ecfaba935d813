use Rattle.std.proofs.Common.{List, IsTrue, ap, ◌∙◌, subst, sym, pos, negsuc}
use Rattle.linear_normal.specs.declared.constraint.Item.{Item}
use Rattle.sum_propagator.specs.Sums.{fits_sum, sum_meaning, StandsAt}
use Rattle.sum_propagator.specs.Kinds.{meaning_of}
use Rattle.sum_trial.proofs.MoreLaws.{fits_same, stands_new, link_fits}
use Rattle.sum_trial.proofs.chain.link.Goals as goal

pub returns-in-Ok-clause-meaning : goal.returns-in-Ok-clause-meaning
returns-in-Ok-clause-meaning c = c.in-Ok.ensures.meaning ∙ ap (λ (items : List Item). sum_meaning c.args.number items (negsuc 9)) c.in_ok-list.ensures

pub returns-in-Ok-clause-fits : goal.returns-in-Ok-clause-fits
returns-in-Ok-clause-fits c =
    fits_same (meaning_of c.in-Ok.sum.sum.kind c.in-Ok.sum.sum.number c.in-Ok.sum.sum.items c.in-Ok.sum.sum.most) c.args.number c.in_ok-list.list _ c.args.trail.now.shape c.in-Ok.ensures.meaning
    (subst (λ (items : List Item). IsTrue (fits_sum c.args.number items c.args.trail.now.shape)) (sym c.in_ok-list.ensures) (link_fits c.args.number (pos 1) (negsuc 0) c.args.trail.now.shape c.requires.low c.requires.high c.requires.next))

pub returns-in-Ok-clause-stands : goal.returns-in-Ok-clause-stands
returns-in-Ok-clause-stands c = stands_new (StandsAt c.in-Ok.sum.sum.items c.in-Ok.sum.totals c.in-Ok.sum.widest) c.in-Ok.sum.seen c.args.trail.now c.in-Ok.ensures.seen c.in-Ok.ensures.stands
