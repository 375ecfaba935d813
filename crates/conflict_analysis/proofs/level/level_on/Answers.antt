use Rattle.conflict_analysis.proofs.CountLaws.{since_within, level_on_read}
use Rattle.conflict_analysis.proofs.level.level_on.Goals as goal

pub entry-requires : goal.entry-requires
entry-requires c = since_within c.args.trail.now c.args.lit c.in-Some.place c.in-Some.ensures

pub returns-in-Some : goal.returns-in-Some
returns-in-Some c = level_on_read c.args.trail.now c.args.lit c.in-Some.place c.entry.result.now c.in-Some.ensures c.entry.ensures
