use Rattle.std.proofs.Common.{true, FitsSigned, w32, rules}
use Rattle.std.proofs.lemmas.Int.{to_z-of_z}
use Rattle.decisions.proofs.OpenLaws.{tested, closed}
use Rattle.decisions.proofs.split.split.Goals as goal

pub returns-then-upper-lower-clause-none : goal.returns-then-upper-lower-clause-none
returns-then-upper-lower-clause-none c = λ none.
    let fits_lower : FitsSigned w32 c.lower-lower.result = search rules in
    let fits_upper : FitsSigned w32 c.upper-upper.result = search rules in
    closed c.args.trail.now c.args.x c.lower-lower.result c.upper-upper.result c.shape-shape.ensures.assignment c.lower-lower.ensures c.upper-upper.ensures
    (tested c.upper-upper.result c.lower-lower.result _ _ true (to_z-of_z w32 c.upper-upper.result fits_upper) (to_z-of_z w32 c.lower-lower.result fits_lower) c.if-upper-lower.true)
