use Rattle.std.proofs.Common.{◌≡◌, List, ap, ◌∙◌}
use Rattle.literals.specs.declared.lit.Lit.{Lit}
use Rattle.literals.specs.declared.reason.Step.{Step}
use Rattle.literals.specs.declared.reason.Reason.{Reason}
use Rattle.literals.specs.Nogoods.{canonical}
use Rattle.literals.proofs.Puts.{joined-nil}
use Rattle.conflict_analysis.proofs.reasons.copy_reason.Goals as goal

same_reason : (n : List Lit) (s : Step) (r : Reason) → n ≡ r.nogood → s ≡ r.step → record { nogood = n; step = s } ≡ r
same_reason n s r e f = ap (λ (m : List Lit). record { nogood = m; step = s }) e ∙ ap (λ (u : Step). record { nogood = r.nogood; step = u }) f

pub returns : goal.returns
returns c =
    same_reason c.in_ok-nogood.nogood c.in_ok-step.step c.args.reason.now
    (c.in_ok-nogood.ensures.value ∙ ap canonical c.lits.ensures.value ∙ joined-nil c.args.reason.now.nogood c.lits.ensures.nogood.rises)
    c.in_ok-step.ensures
