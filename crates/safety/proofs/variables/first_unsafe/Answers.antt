use Rattle.std.proofs.Common.{subst}
use Rattle.safety.specs.inner.Rules.{IsFirst, is_told}
use Rattle.safety.proofs.Verdicts.{unsafe_answer}
use Rattle.safety.proofs.variables.first_unsafe.Goals as goal

pub returns : goal.returns
returns c = λ old from.
    unsafe_answer c.args.rule.now c.args.order.now c.args.sights.now old from c.in_ok-flags.flags c.in_ok-flags.ensures c.first_told-found.result
    (subst (λ v. IsFirst (is_told v c.args.sights.now) c.args.order.now c.first_told-found.result) c.items.ensures c.first_told-found.ensures)
