use Rattle.std.proofs.Common.{◌≡◌, List, length, ◌∙◌, ap, arith}
use Rattle.conflict_analysis.specs.declared.learned.Link.{Link}
use Rattle.learning.specs.Chain.{shown_lines, uses_of}
use Rattle.learning.proofs.LessonLaws.{lesson_told, lesson_full}
use Rattle.learning.proofs.lesson.learn.Goals as goal

pub returns-in-None-clause-full : goal.returns-in-None-clause-full
returns-in-None-clause-full c = λ is program known answered.
    let shown : c.count_ids-shown.result ≡ length (shown_lines (uses_of c.in-Ok.learned.first c.in-Ok.learned.chain)) =
    c.count_ids-shown.ensures ∙ ap (λ (links : List Link). length (shown_lines (uses_of c.in-Ok.learned.first links))) c.items.ensures in
    let full = c.in-None.ensures in
    let fits = c.ranges.last in
    lesson_full program known c.args.last c.args.store.now.held c.args.trail.now c.args.start c.in-Ok.learned c.in-Ok.ensures.first c.in-Ok.ensures.used (omega (arith, fits)) (omega (arith, full, shown)) answered

pub returns-in-Some-clause-lesson : goal.returns-in-Some-clause-lesson
returns-in-Some-clause-lesson c = λ program known answered.
    let shown : c.count_ids-shown.result ≡ length (shown_lines (uses_of c.in-Ok.learned.first c.in-Ok.learned.chain)) =
    c.count_ids-shown.ensures ∙ ap (λ (links : List Link). length (shown_lines (uses_of c.in-Ok.learned.first links))) c.items.ensures in
    let id = c.in-Some.ensures in
    lesson_told program known c.args.last c.in-Some.id c.args.store.now.held c.args.trail.now c.args.start c.in-Ok.learned c.in-Ok.ensures.first c.in-Ok.ensures.used c.in-Ok.ensures.replays (omega (arith, id, shown)) answered
