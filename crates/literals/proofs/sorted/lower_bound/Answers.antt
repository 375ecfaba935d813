use Rattle.std.proofs.Common.{FitsSigned, w32, rules, ◌∙◌}
use Rattle.std.proofs.lemmas.Int.{to_z-of_z}
use Rattle.literals.proofs.SortedLaws.{lower_is}
use Rattle.literals.proofs.sorted.lower_bound.Goals as goal

pub returns : goal.returns
returns c =
    let fits : FitsSigned w32 c.with_lower.result = search rules in
    to_z-of_z w32 c.with_lower.result fits ∙ c.with_lower.ensures ∙ lower_is c.args.ends c.args.lits.now c.args.variable c.standing_at.result c.requires c.standing_at.ensures
