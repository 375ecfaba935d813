use Rattle.std.proofs.Common.{length, sym, ◌∙◌, ap}
use Rattle.ground_model.proofs.SizeLemmas.{sized_tuples}
use Rattle.ground_parts.proofs.Counted.{sized_for}
use Rattle.ground_parts.proofs.objective.is_sound_objective.Goals as goal

pub differ_little-requires-clause-smaller : goal.differ_little-requires-clause-smaller
differ_little-requires-clause-smaller c =
    sized_for (length c.deref_mut-3.result.now) c.args.variables c.args.smaller.now (ap length c.deref_mut-3.ensures.value ∙ c.requires.left_size)
    (sized_tuples c.args.symbols c.args.variables c.args.smaller.now (sym c.in_ok-are_sound_places.ensures.sound ∙ c.if-not-branch.false))

pub differ_little-requires-clause-larger : goal.differ_little-requires-clause-larger
differ_little-requires-clause-larger c =
    sized_for (length c.deref_mut-3.result.now) c.args.variables c.args.larger.now (ap length c.deref_mut-3.ensures.value ∙ c.requires.left_size)
    (sized_tuples c.args.symbols c.args.variables c.args.larger.now (sym c.in_ok-are_sound_places-2.ensures.sound ∙ c.if-not-branch-2.false))
