use Rattle.std.proofs.Common.{[], refl, subst}
use Rattle.program_meaning.specs.Read.{rule_read}
use Rattle.variable_safety.specs.inner.Binding.{AreFlags}
use Rattle.variable_safety.proofs.Unsafes.{unsafe_flags}
use Rattle.variable_safety.proofs.unsafety.unsafe_variables.Goals as goal

pub returns : goal.returns
returns c =
    unsafe_flags (rule_read c.args.rule.now c.args.order.now) (rule_read c.args.rule.now []) c.in_ok-found.found c.in_ok-flags.flags refl refl
    c.in_ok-found.ensures (subst (λ v. AreFlags v c.in_ok-flags.flags) c.items.ensures c.in_ok-flags.ensures)
