use Rattle.std.proofs.lemmas.Result.{on_ok_weaker}
use Rattle.propagation.proofs.StepLaws.{decided_keeps}
use Rattle.propagation.proofs.steps.decide.Goals as goal

pub returns-clause-others : goal.returns-clause-others
returns-clause-others c =
    on_ok_weaker c.wake_from.result
    (λ heard ms. decided_keeps c.args.wakes.now ms c.args.awake.now.places c.wake_from.new.awake.places c.args.trail.now c.open_level.new.self c.set.new.self c.args.lit c.in_ok-set.field-0 c.length-from.result c.length-from.ensures.value c.in_ok-open_level.ensures.ok
    c.requires.names c.requires.is_open c.in_ok-set.ensures.ok c.wake_from.ensures.kept heard)
    c.wake_from.ensures.heard
