use Rattle.trail_worlds.proofs.NameLemmas.{names_law}
use Rattle.trail_worlds.proofs.laws.input_nogoods_are_of_the_shape.Goals as goal

pub returns : goal.returns
returns c = names_law
