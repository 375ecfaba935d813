use Rattle.std.proofs.Common.{◌+◌, ◌^◌, ◌&&◌, ◌-◌, ◌-ℤ◌, length, sym, ◌∙◌, ap, subst, arith}
use Rattle.ground_model.specs.Sound.{is_small, most, total_constant, first_places}
use Rattle.ground_parts.specs.inner.Totals.{AllHavePlaces}
use Rattle.ground_parts.proofs.SumSteps.{within_more}
use Rattle.ground_parts.proofs.Counted.{sized_have, sized_constants, zeroed, zeroed_linear, zero_within, relation_difference}
use Rattle.ground_parts.proofs.relation.differ_little.Goals as goal

pub coefficients_differ_little-little-requires-clause-right_room : goal.coefficients_differ_little-little-requires-clause-right_room
coefficients_differ_little-little-requires-clause-right_room c =
    within_more (0 + most) (2 ^ 40) c.add_linear.new.sums (omega arith) (c.add_linear.ensures.within 0 (zero_within c.args.right.now c.requires.right))

pub zero_places-requires : goal.zero_places-requires
zero_places-requires c =
    subst (λ n. AllHavePlaces n c.args.places.now) (sym c.add_places.auto.sums) (sized_have (length c.args.left.now) c.args.places.now c.requires.places)

pub constants_differ_little-requires-clause-places : goal.constants_differ_little-requires-clause-places
constants_differ_little-requires-clause-places c = sized_constants (length c.args.left.now - 1) c.args.places.now c.requires.places

pub returns-then-little-clause-small : goal.returns-then-little-clause-small
returns-then-little-clause-small c =
    let d =
    relation_difference (length c.args.left.now - 1) c.args.places.now c.args.linear.now c.add_places.new.sums c.add_linear.new.sums c.args.right.now
    c.requires.places c.requires.linear c.requires.right c.add_places.ensures.sums c.add_linear.ensures.sums in
    c.constants_differ_little.ensures
    ∙ ap (λ t. t && is_small (total_constant (first_places c.args.places.now) -ℤ c.args.linear.now.constant))
    (sym c.if-little.true ∙ c.coefficients_differ_little-little.ensures)
    ∙ sym d

pub returns-then-little-clause-left : goal.returns-then-little-clause-left
returns-then-little-clause-left c = zeroed c.args.places.now c.add_places.new.sums c.zero_places.new.sums c.add_places.ensures.sums c.zero_places.ensures

pub returns-then-little-clause-right : goal.returns-then-little-clause-right
returns-then-little-clause-right c =
    zeroed_linear c.args.linear.now c.args.right.now c.add_linear.new.sums c.zero_linear.new.sums c.requires.right c.add_linear.ensures.sums c.zero_linear.ensures

pub returns-else-little-clause-small : goal.returns-else-little-clause-small
returns-else-little-clause-small c =
    let d =
    relation_difference (length c.args.left.now - 1) c.args.places.now c.args.linear.now c.add_places.new.sums c.add_linear.new.sums c.args.right.now
    c.requires.places c.requires.linear c.requires.right c.add_places.ensures.sums c.add_linear.ensures.sums in
    c.if-little.false
    ∙ ap (λ t. t && is_small (total_constant (first_places c.args.places.now) -ℤ c.args.linear.now.constant))
    (sym c.if-little.false ∙ c.coefficients_differ_little-little.ensures)
    ∙ sym d

pub returns-else-little-clause-left : goal.returns-else-little-clause-left
returns-else-little-clause-left c = zeroed c.args.places.now c.add_places.new.sums c.zero_places.new.sums c.add_places.ensures.sums c.zero_places.ensures

pub returns-else-little-clause-right : goal.returns-else-little-clause-right
returns-else-little-clause-right c =
    zeroed_linear c.args.linear.now c.args.right.now c.add_linear.new.sums c.zero_linear.new.sums c.requires.right c.add_linear.ensures.sums c.zero_linear.ensures
