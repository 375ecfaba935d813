use Rattle.std.proofs.Common.{◌∷◌, ◌&&◌, inl, length, refl, sym, ◌∙◌, ap}
use Rattle.ground_model.specs.Sound.{are_sound_places, is_sound_linear, has_few_variables, first_places}
use Rattle.ground_model.proofs.Bools.{and_elim}
use Rattle.ground_model.proofs.SizeLemmas.{sized_tuples, sized_linear}
use Rattle.ground_parts.proofs.Counted.{sized_for, sized_linear_for}
use Rattle.ground_parts.proofs.relation.is_sound_relation.Goals as goal

pub differ_little-requires-clause-places : goal.differ_little-requires-clause-places
differ_little-requires-clause-places c =
    let places = c.items-places.result.now in
    let right = c.args.relation.now.right in
    let p = and_elim (are_sound_places c.args.symbols c.args.variables places && is_sound_linear c.args.variables right) (has_few_variables c.args.variables (right ∷ first_places places))
    (sym c.in_ok-are_sound_sides.ensures.sound ∙ c.if-not-branch.false) in
    let q = and_elim (are_sound_places c.args.symbols c.args.variables places) (is_sound_linear c.args.variables right) p.0 in
    sized_for (length c.deref_mut-2.result.now) c.args.variables places (ap length c.deref_mut-2.ensures.value ∙ c.requires.left_size)
    (sized_tuples c.args.symbols c.args.variables places q.0)

pub differ_little-requires-clause-linear : goal.differ_little-requires-clause-linear
differ_little-requires-clause-linear c =
    let places = c.items-places.result.now in
    let right = c.args.relation.now.right in
    let p = and_elim (are_sound_places c.args.symbols c.args.variables places && is_sound_linear c.args.variables right) (has_few_variables c.args.variables (right ∷ first_places places))
    (sym c.in_ok-are_sound_sides.ensures.sound ∙ c.if-not-branch.false) in
    let q = and_elim (are_sound_places c.args.symbols c.args.variables places) (is_sound_linear c.args.variables right) p.0 in
    sized_linear_for (length c.deref_mut-2.result.now) c.args.variables right (ap length c.deref_mut-2.ensures.value ∙ c.requires.left_size)
    (sized_linear c.args.variables (right ∷ first_places places) right p.1 (inl refl) q.1)
