use Rattle.std.proofs.Common.{map}
use Rattle.std.proofs.lemmas.Result.{IfOk-weaker}
use Rattle.ground_model.specs.declared.program.GroundProgram.{GroundProgram}
use Rattle.learning.specs.Known.{Known}
use Rattle.learning.specs.Learning.{IsAnswered, IsLesson}
use Rattle.search_core.proofs.SearchLaws.{met_starts, is_answered}
use Rattle.search_core.proofs.overcome.study.Goals as goal

pub learn-requires-clause-conflict : goal.learn-requires-clause-conflict
learn-requires-clause-conflict g c =
    let P = g.P.Propagator in
    let r = c.args.room.now in
    (met_starts r.ground r.notes r.store r.trail (map P.meaning r.propagators.items) r.wakes r.loops c.args.start c.requires.room.search c.requires.room.loops c.requires.met).0

pub returns-clause-lesson : goal.returns-clause-lesson
returns-clause-lesson g c =
    let P = g.P.Propagator in
    let r = c.args.room.now in
    let answered = is_answered r.ground r.notes r.store r.trail (map P.meaning r.propagators.items) r.wakes r.loops c.last.result c.args.start c.requires.room.search c.requires.room.loops c.requires.met c.last.ensures in
    IfOk-weaker c.learn.result (λ lesson. (program : GroundProgram) (known : Known) → IsAnswered program known c.last.result r.store.held r.trail c.args.start → IsLesson program known r.store.held lesson.learned lesson.id)
    (λ lesson. IsLesson r.ground r.notes r.store.held lesson.learned lesson.id) (λ lesson h. h r.ground r.notes answered) c.learn.ensures.lesson

pub returns-clause-full : goal.returns-clause-full
returns-clause-full g c =
    let P = g.P.Propagator in
    let r = c.args.room.now in
    λ e. c.learn.ensures.full e r.ground r.notes (is_answered r.ground r.notes r.store r.trail (map P.meaning r.propagators.items) r.wakes r.loops c.last.result c.args.start c.requires.room.search c.requires.room.loops c.requires.met c.last.ensures)
