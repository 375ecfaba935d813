use Rattle.collected_atoms.proofs.SizeLemmas.{more_ids, counted_more}
use Rattle.collected_atoms.proofs.variables.are_many.Goals as goal

pub returns-in-Ok : goal.returns-in-Ok
returns-in-Ok c =
    counted_more _ c.len.result _ c.len.ensures (more_ids c.args.symbols.now c.args.ids.now c.in-Ok.sorted c.in-Ok.ensures.ascends c.in-Ok.ensures.members)
