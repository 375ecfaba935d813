use Rattle.std.proofs.Common.{FitsSigned, w32, rules, ◌∙◌}
use Rattle.std.proofs.lemmas.Int.{to_z-of_z}
use Rattle.trail.specs.Assignment.{lower_on}
use Rattle.decisions.proofs.ScanLaws.{map_more}
use Rattle.decisions.proofs.answer.least_values.Goals as goal

pub loop-at-preserved : goal.loop-at-preserved
loop-at-preserved c =
    let fits : FitsSigned w32 c.lower.result = search rules in
    map_more (λ x. lower_on c.args.trail.now x) c.loop-at.at c.loop-at.values c.push.new.self _ c.loop-at.invariant c.in_ok-push.ensures.ok (to_z-of_z w32 c.lower.result fits ∙ c.lower.ensures)
