use Rattle.std.proofs.Common.{◌∙◌, ◌<◌, sym, ap, subst, length}
use Rattle.unfounded_sets.proofs.RowLemmas.{rows_length}
use Rattle.unfounded_sets.proofs.rows.Rows.row.Goals as goal

pub stretch-requires-clause-place : goal.stretch-requires-clause-place
stretch-requires-clause-place c =
    subst (λ n. c.args.place < n) (sym (ap length c.self.view_is) ∙ rows_length 0 c.self.inside.ends.items c.self.inside.items.items ∙ sym (ap length c.deref.ensures.value)) c.requires
