use Rattle.propagation.proofs.RowLaws.{put_kept, put_within, put_there}
use Rattle.propagation.proofs.wakes.put.Goals as goal

pub returns-clause-kept : goal.returns-clause-kept
returns-clause-kept c =
    put_kept c.args.rows.now.items c.add_rows.new.rows.items c.args.at c.args.place c.index_mut.result.now c.push.new.self c.in_ok-add_rows.ensures.long c.index_mut.ensures.value c.in_ok-push.ensures.ok c.in_ok-add_rows.ensures.kept

pub returns-clause-there : goal.returns-clause-there
returns-clause-there c = put_there c.add_rows.new.rows.items c.args.at c.args.place c.index_mut.result.now c.push.new.self c.in_ok-add_rows.ensures.long c.index_mut.ensures.value c.in_ok-push.ensures.ok

pub returns-clause-within : goal.returns-clause-within
returns-clause-within c =
    put_within c.args.rows.now.items c.add_rows.new.rows.items c.args.at c.args.place c.index_mut.result.now c.push.new.self c.in_ok-add_rows.ensures.long c.index_mut.ensures.value c.in_ok-push.ensures.ok c.in_ok-add_rows.ensures.within
