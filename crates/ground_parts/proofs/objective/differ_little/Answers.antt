use Rattle.std.proofs.Common.{◌&&◌, ◌-◌, ◌-ℤ◌, length, sym, ◌∙◌, ap}
use Rattle.ground_model.specs.Sound.{is_small, total_constant, first_places}
use Rattle.ground_parts.proofs.Counted.{sized_constants, objective_difference}
use Rattle.ground_parts.proofs.objective.differ_little.Goals as goal

pub constants_differ_little-requires-clause-smaller : goal.constants_differ_little-requires-clause-smaller
constants_differ_little-requires-clause-smaller c = sized_constants (length c.args.left.now - 1) c.args.smaller.now c.requires.smaller

pub constants_differ_little-requires-clause-larger : goal.constants_differ_little-requires-clause-larger
constants_differ_little-requires-clause-larger c = sized_constants (length c.args.left.now - 1) c.args.larger.now c.requires.larger

pub returns-then-coefficients_differ_little : goal.returns-then-coefficients_differ_little
returns-then-coefficients_differ_little c =
    let d =
    objective_difference (length c.args.left.now - 1) c.args.smaller.now c.args.larger.now c.add_places.new.sums c.add_places-2.new.sums
    c.requires.smaller c.requires.larger c.add_places.ensures.sums c.add_places-2.ensures.sums in
    c.constants_differ_little.ensures
    ∙ ap (λ t. t && is_small (total_constant (first_places c.args.smaller.now) -ℤ total_constant (first_places c.args.larger.now)))
    (sym c.if-coefficients_differ_little.true ∙ c.coefficients_differ_little.ensures)
    ∙ sym d

pub returns-else-coefficients_differ_little : goal.returns-else-coefficients_differ_little
returns-else-coefficients_differ_little c =
    let d =
    objective_difference (length c.args.left.now - 1) c.args.smaller.now c.args.larger.now c.add_places.new.sums c.add_places-2.new.sums
    c.requires.smaller c.requires.larger c.add_places.ensures.sums c.add_places-2.ensures.sums in
    c.if-coefficients_differ_little.false
    ∙ ap (λ t. t && is_small (total_constant (first_places c.args.smaller.now) -ℤ total_constant (first_places c.args.larger.now)))
    (sym c.if-coefficients_differ_little.false ∙ c.coefficients_differ_little.ensures)
    ∙ sym d
