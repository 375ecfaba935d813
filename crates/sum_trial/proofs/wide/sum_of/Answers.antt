use Rattle.std.proofs.Common.{List, ap, ◌∙◌, ◌-◌, arith, ℤ, w64, to_z, of_z}
use Rattle.std.proofs.lemmas.Int.{to_z-of_z}
use Rattle.linear_normal.specs.declared.constraint.Item.{Item}
use Rattle.sum_propagator.specs.Sums.{sum_meaning, StandsAt}
use Rattle.sum_propagator.specs.Kinds.{meaning_of}
use Rattle.sum_trial.specs.Trials.{wide_items}
use Rattle.sum_trial.proofs.MoreLaws.{fits_same, stands_new, wide_fits}
use Rattle.sum_trial.proofs.wide.sum_of.Goals as goal

pub returns-in-Ok-clause-meaning : goal.returns-in-Ok-clause-meaning
returns-in-Ok-clause-meaning c =
    c.in-Ok.ensures.meaning
    ∙ ap (λ (items : List Item). sum_meaning 1 items (to_z w64 (of_z w64 c.args.most))) c.in_ok-items.ensures.exactly
    ∙ ap (λ (k : ℤ). sum_meaning 1 (wide_items (c.args.constraints - 1)) k) (to_z-of_z w64 c.args.most c.ranges.most)

pub returns-in-Ok-clause-fits : goal.returns-in-Ok-clause-fits
returns-in-Ok-clause-fits c =
    fits_same (meaning_of c.in-Ok.sum.sum.kind c.in-Ok.sum.sum.number c.in-Ok.sum.sum.items c.in-Ok.sum.sum.most) 1 c.in_ok-items.items _ c.args.trail.now.shape c.in-Ok.ensures.meaning
    (wide_fits c.args.trail.now.shape c.in_ok-items.items (let e = c.requires.constraints in let h = c.requires.some in omega arith)
    (c.in_ok-items.ensures.named c.args.trail.now.shape (let e = c.requires.constraints in omega arith) c.requires.variables))

pub returns-in-Ok-clause-stands : goal.returns-in-Ok-clause-stands
returns-in-Ok-clause-stands c = stands_new (StandsAt c.in-Ok.sum.sum.items c.in-Ok.sum.totals c.in-Ok.sum.widest) c.in-Ok.sum.seen c.args.trail.now c.in-Ok.ensures.seen c.in-Ok.ensures.stands
