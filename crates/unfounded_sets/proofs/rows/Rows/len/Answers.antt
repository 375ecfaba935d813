use Rattle.std.proofs.Common.{◌∙◌, ap, sym, length}
use Rattle.unfounded_sets.proofs.RowLemmas.{rows_length}
use Rattle.unfounded_sets.proofs.rows.Rows.len.Goals as goal

pub returns : goal.returns
returns c = c.len.ensures ∙ c.self.inside.ends.ok.0 ∙ sym (rows_length 0 c.self.inside.ends.items c.self.inside.items.items) ∙ ap length c.self.view_is
