use Rattle.std.proofs.Common.{arith}
use Rattle.learning.proofs.LessonLaws.{shown_next, shown_one}
use Rattle.learning.proofs.lesson.count_ids.Goals as goal

pub loop-link-preserved : goal.loop-link-preserved
loop-link-preserved c =
    let next = shown_next c.args.first.now c.args.chain.now c.loop-link.link-index c.link-item.result c.loop-link-test.true c.link-item.is in
    let was = c.loop-link.invariant in
    let ids = c.ids_of-count-in-loop-link.ensures in
    let one = shown_one c.link-item.result.used in
    record { is = omega (arith, next, was.is, ids); within = omega (arith, was.within, ids, one) }
