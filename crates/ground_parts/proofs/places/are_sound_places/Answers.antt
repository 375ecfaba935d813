use Rattle.std.proofs.Common.{length, sym, ◌∙◌}
use Rattle.ground_parts.proofs.Counted.{sound_places_have}
use Rattle.ground_parts.proofs.places.are_sound_places.Goals as goal

pub have_few_variables-requires-clause-places : goal.have_few_variables-requires-clause-places
have_few_variables-requires-clause-places c =
    sound_places_have c.args.symbols c.args.variables c.args.places.now (sym c.are_each_sound.ensures ∙ c.if-not-are_each_sound.false) (length c.args.seen.now) c.requires.size
