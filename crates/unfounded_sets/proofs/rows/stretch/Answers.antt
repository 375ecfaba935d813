use Rattle.std.proofs.Common.{◌∙◌, sym, ap, slice_index, slice_range}
use Rattle.unfounded_sets.proofs.RowLemmas.{row_at}
use Rattle.unfounded_sets.proofs.rows.stretch.Goals as goal

pub returns : goal.returns
returns c =
    ap (λ n. slice_range c.args.items.now n (slice_index c.args.ends.now c.args.place)) c.start_of-start.ensures.start
    ∙ sym (row_at 0 c.args.ends.now c.args.items.now c.args.place c.requires.place)
