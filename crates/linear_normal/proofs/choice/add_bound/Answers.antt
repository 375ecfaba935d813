use Rattle.std.proofs.Common.{◌<◌, ◌^◌, unsigned_abs, FitsSigned, w32, ◌∙◌, arith, rules}
use Rattle.std.proofs.lemmas.Int.{ints, to_z-of_z}
use Rattle.linear_normal.proofs.ChoiceLemmas.{compared_as}
use Rattle.linear_normal.proofs.WrapLemmas.{same_number}
use Rattle.linear_normal.proofs.choice.add_bound.Goals as goal

pub returns : goal.returns
returns c =
    let fits : FitsSigned w32 c.args.bound.value = search rules in
    let small : unsigned_abs c.from.result < 2 ^ 62 = grind (arith, ints) in
    compared_as _ _ c.args.items.now c.in_ok-items.items c.args.bound.rel c.args.bound.value _ c.in_ok-number.number c.in_ok-items.ensures (same_number c.from.result small ∙ c.from.ensures ∙ to_z-of_z w32 c.args.bound.value fits)
    c.in_ok-number.ensures.takes
