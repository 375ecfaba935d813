use Rattle.std.proofs.Common.{rules, FitsSigned, w32}
use Rattle.std.specs.Int.{w128}
use Rattle.std.proofs.lemmas.Int.{to_z-of_z}
use Rattle.trail_bounds.specs.Items.{coefficient_of}
use Rattle.sum_propagator.proofs.Moving.{stepped_least, stepped_greatest}
use Rattle.sum_propagator.proofs.moves.with_item_moved.Goals as goal

pub returns-clause-least : goal.returns-clause-least
returns-clause-least c =
    let fc : FitsSigned w128 c.signed-c.result = search rules in
    let fs : FitsSigned w128 c.step_of.result = search rules in
    let ff : FitsSigned w32 c.args.one.from = search rules in
    let ft : FitsSigned w32 c.args.one.to = search rules in
    let v = simp to_z-of_z at c.step_of.ensures.value in
    let w = simp to_z-of_z at c.stepped.ensures.least in
    let m = simp to_z-of_z at c.is_of_least.ensures in
    stepped_least c.args.totals.least c.stepped.result.least c.step_of.result c.is_of_least.result c.signed-c.result (coefficient_of c.args.item) c.args.one.from c.args.one.to c.args.one.lower w m v c.signed-c.ensures.value

pub returns-clause-greatest : goal.returns-clause-greatest
returns-clause-greatest c =
    let fc : FitsSigned w128 c.signed-c.result = search rules in
    let fs : FitsSigned w128 c.step_of.result = search rules in
    let ff : FitsSigned w32 c.args.one.from = search rules in
    let ft : FitsSigned w32 c.args.one.to = search rules in
    let v = simp to_z-of_z at c.step_of.ensures.value in
    let w = simp to_z-of_z at c.stepped.ensures.greatest in
    let m = simp to_z-of_z at c.is_of_least.ensures in
    stepped_greatest c.args.totals.greatest c.stepped.result.greatest c.step_of.result c.is_of_least.result c.signed-c.result (coefficient_of c.args.item) c.args.one.from c.args.one.to c.args.one.lower w m v c.signed-c.ensures.value
