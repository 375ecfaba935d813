use Rattle.std.proofs.Common.{◌∙◌, ◌++◌, ◌∷◌, [], ap, false, get_or, take, vec_items, arith, add-one, Vec, Global}
use Rattle.std.proofs.Math.Seq.{take-suc}
use Rattle.literals.specs.declared.lit.Lit.{Lit}
use Rattle.literals.specs.declared.lit.Lit.TheVariants.{Body}
use Rattle.linear_normal.specs.declared.numbered.Support.{Support}
use Rattle.completion.specs.inner.Parts.{atom_lits}
use Rattle.completion.proofs.RowLemmas.{rows_length}
use Rattle.completion.proofs.AtomLemmas.{row_pushed}
use Rattle.completion.proofs.atom.atom_rows.Goals as goal

pub index_mut-requires : goal.index_mut-requires
index_mut-requires c =
    let d : Support = record { atom = 0; body = 0 } in
    let is = (c.requires.supports c.loop-support.support-index d c.loop-support-test.true).0 in
    let above = is.above in
    let known = is.known in
    let n = rows_length vec_items (atom_lits (take c.loop-support.support-index c.args.supports.now)) c.loop-support.rows.items 1 c.args.atoms c.loop-support.invariant in
    let m = c.loop-support.rows.ok.0 in
    omega (arith, above, known, n, m)

pub loop-support-preserved : goal.loop-support-preserved
loop-support-preserved c =
    let d : Support = record { atom = 0; body = 0 } in
    let s : Support = get_or c.args.supports.now c.loop-support.support-index d in
    let is = (c.requires.supports c.loop-support.support-index d c.loop-support-test.true).0 in
    rw (add-one, take-suc c.args.supports.now c.loop-support.support-index d c.loop-support-test.true)
    (row_pushed vec_items c.loop-support.rows.items (take c.loop-support.support-index c.args.supports.now) s c.args.atoms
    c.push.new.self c.index_mut.result.now c.loop-support.invariant is
    (c.in_ok-push.ensures.items ∙ ap (λ (old : Vec Lit Global). vec_items old ++ Body s.body false ∷ []) c.index_mut.ensures.value))
