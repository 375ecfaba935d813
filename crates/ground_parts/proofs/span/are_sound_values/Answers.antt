use Rattle.std.proofs.Common.{sym, ◌∙◌}
use Rattle.ground_model.proofs.SizeLemmas.{sized_tuples}
use Rattle.ground_parts.proofs.Counted.{sized_numbers}
use Rattle.ground_parts.proofs.span.are_sound_values.Goals as goal

pub are_small_over-requires : goal.are_small_over-requires
are_small_over-requires c =
    sized_numbers c.args.variables c.args.places.now
    (sized_tuples c.args.symbols c.args.variables c.args.places.now (sym c.in_ok-are_sound_places.ensures.sound ∙ c.if-not-branch.false))
