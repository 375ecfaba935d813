use Rattle.std.proofs.Common.{◌≤◌, rules, arith}
use Rattle.nogood_store.specs.inner.Watching.{IsStored}
use Rattle.nogood_store.proofs.propagate.propagate.Goals as goal

pub returns-in-Ok-None-clause-stored : goal.returns-in-Ok-None-clause-stored
returns-in-Ok-None-clause-stored c =
    let st : c.run.new.trail.level ≤ c.run.new.work.low → IsStored c.args.slots.now c.run.new.work = search rules in
    c.rest.ensures.stored c.args.slots.now c.in-Ok-None.ensures.left (λ le. st (omega (arith, le, c.level.ensures.value)))
