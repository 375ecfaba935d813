use Rattle.std.proofs.Common.{◌==◌, ap, ◌∙◌, length}
use Rattle.propagator_core.proofs.SeveralLaws.{turn_as}
use Rattle.propagator_core.proofs.several.take_turn.Goals as goal

pub returns-in-Ok-clause-turn : goal.returns-in-Ok-clause-turn
returns-in-Ok-clause-turn g c =
    turn_as g.P.Propagator.meaning c.args.all.now c.args.at c.args.trail.now c.call_one.new.trail c.in-Ok.outcome c.turn_of.result (c.length.result == c.length-before.result)
    c.requires.at c.call_one.ensures.grows c.in-Ok.ensures.answer c.turn_of.ensures
    (ap (λ n. n == c.length-before.result) c.length.ensures.value ∙ ap (λ n. length c.call_one.new.trail.entries == n) c.length-before.ensures.value)
