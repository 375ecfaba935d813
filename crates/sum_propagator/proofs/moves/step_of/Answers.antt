use Rattle.std.proofs.Common.{rules, ◌-ℤ◌, FitsSigned, w32}
use Rattle.std.specs.Int.{w128}
use Rattle.std.proofs.lemmas.Int.{to_z-of_z}
use Rattle.sum_propagator.proofs.Moving.{minus}
use Rattle.sum_propagator.proofs.moves.step_of.Goals as goal

pub returns-clause-value : goal.returns-clause-value
returns-clause-value c =
    let fc : FitsSigned w128 c.args.c = search rules in
    let ff : FitsSigned w32 c.args.from = search rules in
    let ft : FitsSigned w32 c.args.to = search rules in
    let fa : FitsSigned w128 c.product-after.result = search rules in
    let fb : FitsSigned w128 c.product-before.result = search rules in
    let sa = c.product-after.ensures.small in
    let sb = c.product-before.ensures.small in
    let fd : FitsSigned w128 (c.product-after.result -ℤ c.product-before.result) = search (rules, sa, sb) in
    let a = simp to_z-of_z at c.product-after.ensures.value in
    let b = simp to_z-of_z at c.product-before.ensures.value in
    simp to_z-of_z (minus c.product-after.result c.product-before.result _ _ a b)
