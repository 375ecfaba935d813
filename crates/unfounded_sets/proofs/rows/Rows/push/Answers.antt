use Rattle.std.proofs.Common.{◌∙◌, ap, ◌++◌, ◌∷◌, [], arith, vec_len}
use Rattle.unfounded_sets.proofs.RowLemmas.{rows_pushed, ends_pushed}
use Rattle.unfounded_sets.proofs.rows.Rows.push.Goals as goal

pub invariant_of-self-in-Ok : goal.invariant_of-self-in-Ok
invariant_of-self-in-Ok c =
    ends_pushed c.self.inside.ends.items c.push.new.self.items (vec_len c.self.inside.items) c.len.result (vec_len c.extend_from_slice.new.self) c.self.invariant c.in-Ok.ensures.items c.len.ensures
    (omega (arith, c.in_ok-extend_from_slice.ensures.len))

pub returns-in-Ok-clause-ok : goal.returns-in-Ok-clause-ok
returns-in-Ok-clause-ok c =
    rows_pushed c.self.inside.ends.items c.push.new.self.items c.self.inside.items.items c.extend_from_slice.new.self.items c.args.row.now (vec_len c.self.inside.items) c.len.result c.self.invariant c.in-Ok.ensures.items
    c.in_ok-extend_from_slice.ensures.items (c.len.ensures ∙ c.in_ok-extend_from_slice.ensures.len) c.self.inside.items.ok.0
    ∙ ap (λ rows. rows ++ c.args.row.now ∷ []) c.self.view_is
