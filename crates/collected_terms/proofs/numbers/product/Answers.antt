use Rattle.std.proofs.Common.{◌*ℤ◌, rules, FitsSigned, w64}
use Rattle.std.specs.Int.{w128}
use Rattle.std.proofs.lemmas.Int.{to_z-of_z}
use Rattle.collected_terms.proofs.numbers.product.Goals as goal

pub returns : goal.returns
returns c =
    let a : FitsSigned w64 c.args.a = c.ranges.a in
    let b : FitsSigned w64 c.args.b = c.ranges.b in
    let whole : FitsSigned w128 (c.args.a *ℤ c.args.b) = search rules in
    let wide_a : FitsSigned w128 c.args.a = search rules in
    let wide_b : FitsSigned w128 c.args.b = search rules in
    simp to_z-of_z at c.small.ensures
