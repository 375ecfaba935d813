use Rattle.std.proofs.Common.{length, sym, ◌∙◌}
use Rattle.ground_model.proofs.SizeLemmas.{sized_tuples}
use Rattle.ground_parts.proofs.Counted.{linear_has, sized_have, sized_for}
use Rattle.ground_parts.proofs.relation.are_sound_sides.Goals as goal

pub have_few_with-requires-clause-linear : goal.have_few_with-requires-clause-linear
have_few_with-requires-clause-linear c =
    linear_has c.args.variables c.args.right.now (sym c.is_sound_linear.ensures ∙ c.if-not-is_sound_linear.false) (length c.are_sound_places.new.seen) (c.are_sound_places.auto.seen ∙ c.requires.size)

pub have_few_with-requires-clause-places : goal.have_few_with-requires-clause-places
have_few_with-requires-clause-places c =
    sized_have (length c.are_sound_places.new.seen) c.args.places.now
    (sized_for (length c.are_sound_places.new.seen) c.args.variables c.args.places.now (c.are_sound_places.auto.seen ∙ c.requires.size)
    (sized_tuples c.args.symbols c.args.variables c.args.places.now (sym c.in_ok-are_sound_places.ensures.sound ∙ c.if-not-branch.false)))
