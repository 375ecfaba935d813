use Rattle.std.proofs.Common.{rules, true, Some, FitsSigned}
use Rattle.std.specs.Int.{w32}
use Rattle.std.proofs.lemmas.Int.{to_z-of_z}
use Rattle.propagators.proofs.QuietLaws.{done, both_kept}
use Rattle.propagators.proofs.domain.keep_within.Goals as goal

pub returns-in-None-gap_at-clause-answer : goal.returns-in-None-gap_at-clause-answer
returns-in-None-gap_at-clause-answer c =
    let f : FitsSigned w32 c.lower.result = search rules in
    let g : FitsSigned w32 c.upper.result = search rules in
    let low = simp to_z-of_z at c.in-None.ensures.none in
    let high = simp to_z-of_z at c.in-None-gap_at.ensures.none in
    done c.args.domain.now.number c.args.domain.now.variable c.args.domain.now.set c.args.trail.now (Some true) c.requires.assignment c.requires.on
    (both_kept c.args.domain.now.set c.items-intervals.result.now c.args.trail.now c.args.domain.now.variable c.lower.result c.upper.result c.items-intervals.ensures c.lower.ensures c.upper.ensures low high)
