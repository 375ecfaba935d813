use Rattle.std.proofs.Common.{ap, ◌∙◌}
use Rattle.trail.specs.declared.shape.Shape.{Shape}
use Rattle.trail.specs.declared.entry.Why.TheVariants.{Decision}
use Rattle.sum_trial.proofs.TrialLaws.{first_more}
use Rattle.sum_trial.proofs.starting.start.Goals as goal

pub loop-number-preserved : goal.loop-number-preserved
loop-number-preserved c =
    let inv = c.loop-number.invariant in
    record {
      constraints = ap (λ (s : Shape). s.constraints) c.set.ensures.shape ∙ inv.constraints;
      variables = ap (λ (s : Shape). s.variables) c.set.ensures.shape ∙ inv.variables;
      entries = first_more c.loop-number.number c.loop-number.trail c.set.new.self Decision c.in_ok-set.field-0 inv.entries c.in_ok-set.ensures.ok;
    }
