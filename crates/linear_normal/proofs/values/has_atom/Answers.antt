use Rattle.std.proofs.Common.{◌∙◌}
use Rattle.linear_normal.proofs.AtomLemmas.{atom_searched}
use Rattle.linear_normal.proofs.values.has_atom.Goals as goal

pub returns : goal.returns
returns c = c.is_ok.ensures.value ∙ atom_searched c.args.atoms.now c.args.atom c.binary_search.result c.binary_search.ensures.position c.requires
