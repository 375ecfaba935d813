use Rattle.std.proofs.Common.{rules, ◌≤ℤ◌, FitsSigned}
use Rattle.std.specs.Int.{w32}
use Rattle.std.proofs.lemmas.Int.{to_z-of_z}
use Rattle.propagators.proofs.QuietLaws.{lower_within, above_within}
use Rattle.propagators.proofs.domain.gap_around.Goals as goal

pub returns-in-None-clause-none : goal.returns-in-None-clause-none
returns-in-None-clause-none c =
    let f : FitsSigned w32 c.lower.result = search rules in
    let low = simp to_z-of_z at c.in-None.ensures.none in
    lower_within c.args.domain.now.set c.items-intervals.result.now c.args.trail.now c.args.domain.now.variable c.lower.result c.items-intervals.ensures c.lower.ensures c.requires.assignment low

pub returns-in-Some-above-clause-none : goal.returns-in-Some-above-clause-none
returns-in-Some-above-clause-none c =
    let f : FitsSigned w32 c.lower.result = search rules in
    let gap = simp to_z-of_z at c.in-Some.ensures.some in
    let le : c.in-Some-above.above ≤ℤ c.upper.result = search rules in
    above_within c.args.domain.now.set c.items-intervals.result.now c.args.trail.now c.args.domain.now.variable c.lower.result c.upper.result c.in-Some-above.above c.in-Some.gap c.items-intervals.ensures c.lower.ensures c.upper.ensures gap c.in-Some-above.is le
