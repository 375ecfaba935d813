use Rattle.std.proofs.Common.{◌∙◌, ◌++◌, ap, ap₂, get_or, take, vec_items, flat_map, arith, add-one}
use Rattle.std.proofs.Math.Seq.{take-suc}
use Rattle.linear_normal.specs.declared.numbered.Conjunction.{Conjunction}
use Rattle.linear_normal.specs.declared.numbered.Support.{Support}
use Rattle.completion.specs.inner.Waits.{positive_atom, waits_of}
use Rattle.completion.proofs.RowLemmas.{rows_length}
use Rattle.completion.proofs.WaitLemmas.{wait_added}
use Rattle.completion.proofs.tight.waits.Goals as goal

pub index_mut-requires : goal.index_mut-requires
index_mut-requires c =
    let d : Support = record { atom = 0; body = 0 } in
    let below = (c.requires c.loop-support.support-index d c.loop-support-test.true).0 in
    let n = rows_length vec_items (waits_of c.args.bodies.now (take c.loop-support.support-index c.args.supports.now)) c.loop-support.rows.items 0 c.args.count c.loop-support.invariant in
    let m = c.loop-support.rows.ok.0 in
    omega (arith, below, n, m)

pub loop-support-preserved : goal.loop-support-preserved
loop-support-preserved c =
    let d : Support = record { atom = 0; body = 0 } in
    let s : Support = get_or c.args.supports.now c.loop-support.support-index d in
    let is = c.requires c.loop-support.support-index d c.loop-support-test.true in
    let body : Conjunction = c.index-bodies-support.result in
    rw (add-one, take-suc c.args.supports.now c.loop-support.support-index d c.loop-support-test.true)
    (wait_added vec_items c.loop-support.rows.items c.args.bodies.now (take c.loop-support.support-index c.args.supports.now) s c.args.count
    c.add_positive.new.row c.index_mut.result.now body c.loop-support.invariant is.0 is.1
    (c.in_ok-add_positive.ensures
    ∙ ap₂ ◌++◌ (ap vec_items c.index_mut.ensures.value) (ap (flat_map positive_atom) (c.items.ensures ∙ ap (λ (b : Conjunction). b.lits) c.index-bodies-support.is))))
