use Rattle.std.proofs.Common.{◌≡◌, true, false, FitsSigned, w32, to_z, of_z, rules}
use Rattle.std.proofs.lemmas.Int.{to_z-of_z}
use Rattle.decisions.proofs.OpenLaws.{tested, most_at, most_least, least_greatest}
use Rattle.decisions.proofs.split.towards.Goals as goal

pub returns-then-upper-value : goal.returns-then-upper-value
returns-then-upper-value c =
    let fits : FitsSigned w32 c.args.upper = search rules in
    least_greatest c.args.trail.now c.args.x c.args.lower c.args.upper _ c.requires.first c.requires.within c.requires.lower c.requires.upper (to_z-of_z w32 c.args.upper fits) c.requires.apart

pub returns-then-lower-value : goal.returns-then-lower-value
returns-then-lower-value c =
    let fits_lower : FitsSigned w32 c.args.lower = search rules in
    let fits_upper : FitsSigned w32 c.args.upper = search rules in
    let fits : FitsSigned w32 c.args.value = search rules in
    let value : to_z w32 (of_z w32 c.args.value) ≡ c.args.value = to_z-of_z w32 c.args.value fits in
    most_at c.args.trail.now c.args.x c.args.lower c.args.upper c.args.value _ c.requires.first c.requires.within c.requires.lower c.requires.upper value
    (tested c.args.lower c.args.value _ _ true (to_z-of_z w32 c.args.lower fits_lower) value c.if-lower-value.true)
    (tested c.args.upper c.args.value _ _ false (to_z-of_z w32 c.args.upper fits_upper) value c.if-upper-value.false)

pub returns-else-lower-value : goal.returns-else-lower-value
returns-else-lower-value c =
    let fits : FitsSigned w32 c.args.lower = search rules in
    most_least c.args.trail.now c.args.x c.args.lower c.args.upper _ c.requires.first c.requires.within c.requires.lower c.requires.upper (to_z-of_z w32 c.args.lower fits) c.requires.apart
