use Rattle.std.proofs.Common.{sym, subst, All, vec_items}
use Rattle.literals.specs.Lits.{IsLit}
use Rattle.completion.proofs.AtomLemmas.{rows_nogoods, rows_lits}
use Rattle.completion.proofs.atom.add_atoms.Goals as goal

pub add_rows-requires : goal.add_rows-requires
add_rows-requires c =
    subst (All (λ row. All IsLit (vec_items row))) (sym c.deref.ensures.value)
    (rows_lits vec_items c.in_ok-rows.rows.items c.args.supports.now c.args.atoms c.in_ok-rows.ensures c.requires.supports)

pub returns : goal.returns
returns c =
    rw (sym (rows_nogoods vec_items c.in_ok-rows.rows.items c.args.supports.now c.args.atoms c.in_ok-rows.ensures), sym c.deref.ensures.value) c.add_rows.ensures
