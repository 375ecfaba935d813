use Rattle.std.proofs.Common.{sym, ◌∙◌}
use Rattle.literals.proofs.SortedLaws.{has_found, has_none}
use Rattle.literals.proofs.sorted.has_sorted.Goals as goal

pub returns-in-Some : goal.returns-in-Some
returns-in-Some c = c.same.ensures ∙ has_found c.args.lits.now c.args.lit c.in-Some.found c.requires (sym c.in-Some.is ∙ c.standing_at.ensures)

pub returns-in-None : goal.returns-in-None
returns-in-None c = has_none c.args.lits.now c.args.lit c.requires (sym c.in-None.is ∙ c.standing_at.ensures)
