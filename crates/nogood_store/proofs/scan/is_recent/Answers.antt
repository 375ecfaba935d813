use Rattle.std.proofs.Common.{◌∙◌, arith, sym}
use Rattle.trail.proofs.SinceLaws.{since_found}
use Rattle.trail.proofs.EntryLaws.{length-lits_of}
use Rattle.nogood_store.proofs.Ending.{recent_since, is_equal}
use Rattle.nogood_store.proofs.scan.is_recent.Goals as goal

pub entry-requires : goal.entry-requires
entry-requires c = let f = since_found c.args.trail.now c.args.lit c.in-Some.at (sym c.since.ensures ∙ c.in-Some.is) in omega (arith, f.0, length-lits_of c.args.trail.now.entries)

pub returns-in-Some : goal.returns-in-Some
returns-in-Some c = λ h. recent_since c.args.trail.now c.args.lit c.in-Some.at c.entry.result.now c.level.ensures.assignment (sym c.since.ensures ∙ c.in-Some.is) c.entry.ensures (is_equal c.entry.result.now.level c.level-in-Some.result h ∙ c.level-in-Some.ensures.value)
