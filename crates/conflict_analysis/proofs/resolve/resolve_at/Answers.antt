use Rattle.std.proofs.Common.{List, sym, ap, subst, ◌∙◌}
use Rattle.std.specs.List.{AllByRecursion}
use Rattle.literals.specs.declared.lit.Lit.{Lit}
use Rattle.trail.specs.Assignment.{Names}
use Rattle.literals.specs.Nogoods.{without}
use Rattle.conflict_analysis.specs.inner.Runs.{boards_with}
use Rattle.conflict_analysis.specs.Marked.{Board, IsMark, mark_at, high_count}
use Rattle.conflict_analysis.proofs.CountLaws.{entry_named}
use Rattle.conflict_analysis.proofs.ResolveLaws.{reason_at, ready_no_decision, ready_left, ready_least, ready_place, ready_pends, ready_run}
use Rattle.conflict_analysis.proofs.resolve.resolve_at.Goals as goal

pub start_for-requires : goal.start_for-requires
start_for-requires g c = ready_no_decision c.args.store.now.held c.args.trail.now g.first c.args.chain.now c.args.high c.args.hit.place c.args.hit.lit c.args.marks.now c.args.count c.entry-entry.result.now c.requires.0 c.requires.1.0 c.requires.1.1.0 c.requires.1.1.1 c.entry-entry.ensures

pub recount-left-requires-clause-least : goal.recount-left-requires-clause-least
recount-left-requires-clause-least g c = ready_least c.args.store.now.held c.args.trail.now g.first c.args.chain.now c.args.high c.args.hit.place c.args.hit.lit c.args.marks.now c.args.count c.is_high-was.result c.requires.0 c.requires.1.1.0 c.is_high-was.ensures

pub unset-requires : goal.unset-requires
unset-requires g c = ready_place c.args.store.now.held c.args.trail.now g.first c.args.chain.now c.args.high c.args.hit.place c.args.hit.lit c.args.marks.now c.args.count c.requires.0 c.requires.1.1.0

pub complement-out-requires : goal.complement-out-requires
complement-out-requires g c = (entry_named c.args.trail.now c.args.hit.place c.entry-entry.result.now c.requires.0 c.entry-entry.ensures).literal

pub put_all-requires-clause-named : goal.put_all-requires-clause-named
put_all-requires-clause-named g c =
    let r = reason_at c.args.store.now.held c.args.trail.now c.args.hit.place c.entry-entry.result.now c.requires.1.0 c.entry-entry.ensures (ready_no_decision c.args.store.now.held c.args.trail.now g.first c.args.chain.now c.args.high c.args.hit.place c.args.hit.lit c.args.marks.now c.args.count c.entry-entry.result.now c.requires.0 c.requires.1.0 c.requires.1.1.0 c.requires.1.1.1 c.entry-entry.ensures) in
    subst (λ (n : List Lit). AllByRecursion (Names c.args.trail.now.shape) n) (sym (c.reason_lits-lits.ensures.value r.0 r.1)) r.2.named

pub put_all-requires-clause-marks : goal.put_all-requires-clause-marks
put_all-requires-clause-marks g c = λ i.
    subst (λ (b : Board). IsMark c.args.trail.now (mark_at b i)) (sym c.unset.ensures)
    ((ready_pends c.args.store.now.held c.args.trail.now g.first c.args.chain.now c.args.high c.args.hit.place c.args.hit.lit c.args.marks.now c.args.count c.requires.0 c.requires.1.1.0).marks i)

pub put_all-requires-clause-counted : goal.put_all-requires-clause-counted
put_all-requires-clause-counted g c =
    ready_left c.args.store.now.held c.args.trail.now g.first c.args.chain.now c.args.high c.args.hit.place c.args.hit.lit c.args.marks.now c.args.count c.recount-left.result c.is_high-was.result c.requires.0 c.requires.1.1.0 c.is_high-was.ensures c.recount-left.ensures
    ∙ ap (λ (b : Board). high_count c.args.trail.now c.args.high b.marks) (sym c.unset.ensures)

pub returns : goal.returns
returns g c =
    let r = reason_at c.args.store.now.held c.args.trail.now c.args.hit.place c.entry-entry.result.now c.requires.1.0 c.entry-entry.ensures (ready_no_decision c.args.store.now.held c.args.trail.now g.first c.args.chain.now c.args.high c.args.hit.place c.args.hit.lit c.args.marks.now c.args.count c.entry-entry.result.now c.requires.0 c.requires.1.0 c.requires.1.1.0 c.requires.1.1.1 c.entry-entry.ensures) in
    ready_run c.args.store.now.held c.args.trail.now g.first c.args.chain.now c.push.new.self c.args.high c.args.hit.place c.args.hit.lit c.args.marks.now c.put_all.new.marks c.args.count c.in_ok-count.count c.entry-entry.result.now r.0 c.reason_lits-lits.result.now c.complement-out.result c.in_ok-used.used
    c.requires.0 c.requires.1.1.0 c.requires.1.1.1 c.entry-entry.ensures r.2 r.1 (c.reason_lits-lits.ensures.value r.0 r.1) c.reason_lits-lits.ensures.rises c.complement-out.ensures.value c.in_ok-used.ensures
    (c.in_ok-count.ensures.board ∙ ap (λ (b : Board). boards_with c.args.trail.now b (without c.reason_lits-lits.result.now c.complement-out.result)) c.unset.ensures)
    c.in_ok-count.ensures.counted c.in_ok-push.ensures.ok
