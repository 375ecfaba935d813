use Rattle.std.proofs.Common.{arith, ap, ◌∙◌}
use Rattle.std.proofs.lemmas.Int.{ints}
use Rattle.trail_bounds.specs.Items.{at_least}
use Rattle.trail_bounds.proofs.backing.weaker.Goals as goal

pub returns-then-c-ge0-clause-low : goal.returns-then-c-ge0-clause-low
returns-then-c-ge0-clause-low c = λ s.
    let a = c.requires.low s in
    let low = c.args.range.low_small in
    let steps = c.requires.steps in
    c.least_lit.ensures ∙ ap (λ k. at_least c.args.item k) (omega (arith, ints, a, steps, low))
