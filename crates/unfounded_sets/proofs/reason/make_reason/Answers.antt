use Rattle.std.proofs.Common.{◌∙◌}
use Rattle.unfounded_sets.proofs.ReasonLemmas.{lits_made}
use Rattle.unfounded_sets.proofs.reason.make_reason.Goals as goal

pub from_lits-requires : goal.from_lits-requires
from_lits-requires c = lits_made c.deref.result.now c.args.atom c.args.bodies.now c.requires.atom c.requires.bodies (c.deref.ensures.value ∙ c.in_ok-lits.ensures)
