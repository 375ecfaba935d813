use Rattle.std.proofs.Common.{ap, ◌∙◌, ◌≡◌, subst, sym}
use Rattle.linear_normal.specs.declared.constraint.Item.{Item}
use Rattle.trail_bounds.specs.OnTrail.{bounds_on}
use Rattle.trail_bounds.specs.Items.{low_in, high_in}
use Rattle.trail_bounds.specs.inner.Ranges.{least_count, greatest_count}
use Rattle.trail_bounds.proofs.Ranges.{known_low, known_high}
use Rattle.trail_bounds.proofs.range.range_on.Goals as goal

pub returns-in-Truth-clause-low : goal.returns-in-Truth-clause-low
returns-in-Truth-clause-low c =
    subst (λ (i : Item). c.count_of.result.low ≡ low_in (bounds_on c.args.trail.now) i) (sym c.in-Truth.is)
    (c.count_of.ensures.low ∙ ap least_count c.truth.ensures ∙ known_low c.args.trail.now c.in-Truth.n c.in-Truth.field-1 c.requires.assignment)

pub returns-in-Truth-clause-high : goal.returns-in-Truth-clause-high
returns-in-Truth-clause-high c =
    subst (λ (i : Item). c.count_of.result.high ≡ high_in (bounds_on c.args.trail.now) i) (sym c.in-Truth.is)
    (c.count_of.ensures.high ∙ ap greatest_count c.truth.ensures ∙ known_high c.args.trail.now c.in-Truth.n c.in-Truth.field-1 c.requires.assignment)
