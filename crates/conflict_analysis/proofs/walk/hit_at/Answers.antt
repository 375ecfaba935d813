use Rattle.conflict_analysis.proofs.PlaceLaws.{is_placed}
use Rattle.conflict_analysis.proofs.CountLaws.{entry_of}
use Rattle.conflict_analysis.proofs.walk.hit_at.Goals as goal

pub mark-requires : goal.mark-requires
mark-requires c = is_placed c.args.trail.now.shape c.args.marks.now c.entry.result.now.lit c.requires.fits (entry_of c.args.trail.now c.args.place c.entry.result.now c.requires.assignment c.entry.ensures)
