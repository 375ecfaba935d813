use Rattle.linear_normal.proofs.SizedLemmas.{sized_by_numbering}
use Rattle.linear_normal.proofs.numbered.Numbered.holds.Goals as goal

pub lit_within-requires-clause-sized : goal.lit_within-requires-clause-sized
lit_within-requires-clause-sized c = sized_by_numbering c.args.self.now c.requires.numbering
