use Rattle.std.proofs.Common.{sym, ap, ◌∙◌, subst}
use Rattle.conflict_analysis.specs.Marked.{IsMark, is_high as of_level}
use Rattle.conflict_analysis.proofs.PlaceLaws.{has_place}
use Rattle.conflict_analysis.proofs.RunLaws.{mark_is, put_count, put_least, put_room}
use Rattle.conflict_analysis.proofs.put.put.Goals as goal

pub is_high-is-requires : goal.is_high-is-requires
is_high-is-requires c = subst (IsMark c.args.trail.now) (sym c.mark_for-new.ensures) (mark_is c.args.trail.now c.args.lit)

pub recount-requires-clause-least : goal.recount-requires-clause-least
recount-requires-clause-least c =
    put_least c.args.trail.now c.args.high c.args.marks.now c.args.lit c.args.count c.is_high-was.result
    (has_place c.args.trail.now.shape c.args.marks.now c.args.lit c.requires.fits c.requires.named.within)
    c.requires.counted (c.is_high-was.ensures ∙ ap (of_level c.args.trail.now c.args.high) c.mark-old.ensures.mark)

pub recount-requires-clause-room : goal.recount-requires-clause-room
recount-requires-clause-room c =
    put_room c.args.trail.now c.args.high c.args.marks.now c.args.lit c.mark_for-new.result c.args.count c.is_high-was.result c.is_high-is.result
    (has_place c.args.trail.now.shape c.args.marks.now c.args.lit c.requires.fits c.requires.named.within)
    c.mark-old.ensures.few c.requires.counted (c.is_high-was.ensures ∙ ap (of_level c.args.trail.now c.args.high) c.mark-old.ensures.mark) c.is_high-is.ensures

pub returns-clause-counted : goal.returns-clause-counted
returns-clause-counted c =
    put_count c.args.trail.now c.args.high c.args.marks.now c.set.new.self c.args.lit c.mark_for-new.result c.recount.result c.args.count c.is_high-was.result c.is_high-is.result
    (has_place c.args.trail.now.shape c.args.marks.now c.args.lit c.requires.fits c.requires.named.within)
    c.requires.counted (c.is_high-was.ensures ∙ ap (of_level c.args.trail.now c.args.high) c.mark-old.ensures.mark) c.is_high-is.ensures c.in_ok-set.ensures c.recount.ensures
