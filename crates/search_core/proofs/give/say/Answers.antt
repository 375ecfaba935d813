use Rattle.std.proofs.Common.{◌≡◌, map, sym, subst}
use Rattle.std.proofs.lemmas.Result.{IfOk-weaker}
use Rattle.ground_model.specs.Answers.{IsAnswerOf}
use Rattle.trail_worlds.specs.Worlds.{answer_on}
use Rattle.search_core.proofs.TurnLaws.{answer_is}
use Rattle.search_core.proofs.give.say.Goals as goal

pub returns-clause-answer : goal.returns-clause-answer
returns-clause-answer g c =
    let P = g.P.Propagator in
    let r = c.args.room.now in
    let model = answer_is r.ground r.notes r.store r.trail (map P.meaning r.propagators.items) r.wakes c.requires.room.search c.trails_are_assignments.ensures.assignment c.requires.bottom.0 c.requires.bottom.1 (c.requires.bottom.2 r.ground c.requires.room.loops) in
    IfOk-weaker c.answer_of.result (λ a. a ≡ answer_on r.trail) (IsAnswerOf r.ground) (λ a e. subst (IsAnswerOf r.ground) (sym e) model) c.answer_of.ensures
