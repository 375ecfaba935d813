use Rattle.std.proofs.lemmas.Result.{on_ok_weaker}
use Rattle.propagation.proofs.RowLaws.{note_bounds, note_truths, more_bounds, more_truths, there_bounds, there_truths, on_both}
use Rattle.propagation.proofs.wakes.note.Goals as goal

pub returns-in-Bounds-clause-kept : goal.returns-in-Bounds-clause-kept
returns-in-Bounds-clause-kept c = on_ok_weaker c.put.result (note_bounds c.args.wakes.now c.wakes.inside.bounds.items c.put.new.rows.items c.wakes.inside.truths.items c.wakes.view_is) c.put.ensures.kept

pub returns-in-Bounds-clause-there : goal.returns-in-Bounds-clause-there
returns-in-Bounds-clause-there c = on_ok_weaker c.put.result (there_bounds c.put.new.rows.items c.wakes.inside.truths.items c.args.touch c.in-Bounds.x c.args.place c.in-Bounds.is) c.put.ensures.there

pub returns-in-Bounds-clause-rows : goal.returns-in-Bounds-clause-rows
returns-in-Bounds-clause-rows c =
    on_both c.put.result (more_bounds c.args.wakes.now c.args.place c.wakes.inside.bounds.items c.put.new.rows.items c.wakes.inside.truths.items c.wakes.view_is) c.put.ensures.longer c.put.ensures.within

pub returns-in-Truth-clause-kept : goal.returns-in-Truth-clause-kept
returns-in-Truth-clause-kept c = on_ok_weaker c.put-in-Truth.result (note_truths c.args.wakes.now c.wakes.inside.truths.items c.wakes.inside.bounds.items c.put-in-Truth.new.rows.items c.wakes.view_is) c.put-in-Truth.ensures.kept

pub returns-in-Truth-clause-there : goal.returns-in-Truth-clause-there
returns-in-Truth-clause-there c = on_ok_weaker c.put-in-Truth.result (there_truths c.wakes.inside.bounds.items c.put-in-Truth.new.rows.items c.args.touch c.in-Truth.c c.args.place c.in-Truth.is) c.put-in-Truth.ensures.there

pub returns-in-Truth-clause-rows : goal.returns-in-Truth-clause-rows
returns-in-Truth-clause-rows c =
    on_both c.put-in-Truth.result (more_truths c.args.wakes.now c.args.place c.wakes.inside.truths.items c.wakes.inside.bounds.items c.put-in-Truth.new.rows.items c.wakes.view_is) c.put-in-Truth.ensures.longer c.put-in-Truth.ensures.within
