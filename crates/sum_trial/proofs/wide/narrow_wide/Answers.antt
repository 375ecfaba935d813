use Rattle.std.proofs.Common.{ap, ◌∙◌, ◌-◌, ℤ, w64}
use Rattle.std.proofs.lemmas.Int.{to_z-of_z}
use Rattle.sum_propagator.specs.Sums.{sum_meaning}
use Rattle.sum_propagator.specs.Kinds.{meaning_of}
use Rattle.sum_trial.specs.Trials.{wide_items}
use Rattle.sum_trial.proofs.TrialLaws.{widened}
use Rattle.sum_trial.proofs.wide.narrow_wide.Goals as goal

pub returns : goal.returns
returns c =
    let sum = c.in_ok-sum.sum.sum in
    let both =
    widened c.args.count c.length.result c.args.most (meaning_of sum.kind sum.number sum.items sum.most) c.in_ok-trail.trail c.raise.new.trail
    (c.in_ok-sum.ensures.meaning ∙ ap (λ (k : ℤ). sum_meaning 1 (wide_items (c.args.count - 1)) k) (to_z-of_z w64 c.args.most c.ranges.most))
    c.in_ok-trail.ensures.entries c.raise.ensures.grows c.in_ok-raise.ensures.raised c.length.ensures.value in
    record { at_least = both.1; widened = both.0 }
