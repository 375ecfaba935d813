use Rattle.conflict_analysis.proofs.CountLaws.{mark_within, high_read}
use Rattle.conflict_analysis.proofs.put.is_high.Goals as goal

pub entry-requires : goal.entry-requires
entry-requires c = mark_within c.args.trail.now c.args.mark c.in-ByEntry.field-0 c.in-ByEntry.place c.requires c.in-ByEntry.is

pub returns-in-ByEntry : goal.returns-in-ByEntry
returns-in-ByEntry c = high_read c.args.trail.now c.args.high c.args.mark c.in-ByEntry.field-0 c.in-ByEntry.place c.entry.result.now c.in-ByEntry.is c.entry.ensures
