use Rattle.variable_safety.specs.inner.Binding.{plain_literals}
use Rattle.variable_safety.proofs.Notes.{condition_bound}
use Rattle.variable_safety.proofs.bound.bound.Goals as goal

pub returns : goal.returns
returns c =
    condition_bound c.args.given.now (plain_literals c.args.literals.now) c.new-bindings.result.rules c.push_facts.new.self.rules
    c.push_literals.new.bindings.rules c.in_ok-flags.flags c.new-bindings.ensures c.in_ok-push_facts.ensures c.in_ok-push_literals.ensures
    c.in_ok-flags.ensures
