use Rattle.std.proofs.Common.{◌≡◌, ◌⊎◌, ℕ, List, [], sym, ap, subst, ◌∙◌}
use Rattle.std.specs.List.{All, AllByRecursion}
use Rattle.literals.specs.declared.lit.Lit.{Lit}
use Rattle.literals.specs.Lits.{IsLit}
use Rattle.literals.specs.Nogoods.{canonical}
use Rattle.trail.specs.Assignment.{Names}
use Rattle.conflict_analysis.specs.Levels.{IsAsserting}
use Rattle.conflict_analysis.specs.inner.Runs.{highest_but}
use Rattle.conflict_analysis.proofs.FinalLaws.{IsLearned, learned, left_of, kept_literals, run_literals}
use Rattle.conflict_analysis.proofs.analysis.analyse.Goals as goal

pub drain-requires : goal.drain-requires
drain-requires c =
    let e = c.in_ok-high.ensures.run in
    run_literals c.args.store.now.held c.args.trail.now c.args.start c.resolve_from.new.chain c.in_ok-high.high e.0 c.resolve_from.new.marks e.1 e.2

pub from_lits-requires : goal.from_lits-requires
from_lits-requires c =
    subst (λ (ls : List Lit). All IsLit ls) (sym c.items.ensures)
    (kept_literals _ c.drain.new.chain c.drain.new.marks c.in_ok-kept.kept
    (left_of c.args.store.now.held c.args.trail.now c.args.start c.resolve_from.new.chain c.drain.new.chain c.in_ok-high.high c.resolve_from.new.marks c.drain.new.marks c.in_ok-kept.kept c.in_ok-high.ensures.run c.in_ok-kept.ensures.left))

pub next_highest-level-requires : goal.next_highest-level-requires
next_highest-level-requires c =
    let l : IsLearned c.args.store.now.held c.args.trail.now c.args.start c.drain.new.chain c.in_ok-high.high c.in_ok-nogood.nogood =
    learned c.args.store.now.held c.args.trail.now c.args.start c.resolve_from.new.chain c.drain.new.chain c.in_ok-high.high c.resolve_from.new.marks c.drain.new.marks c.in_ok-kept.kept c.in_ok-nogood.nogood c.in_ok-high.ensures.run c.in_ok-kept.ensures.left c.in_ok-kept.ensures.clear (c.in_ok-nogood.ensures.value ∙ ap canonical c.items.ensures)
    in
    subst (λ (ls : List Lit). AllByRecursion (Names c.args.trail.now.shape) ls) (sym c.lits.ensures.value) l.named

pub returns-clause-used : goal.returns-clause-used
returns-clause-used c =
    (learned c.args.store.now.held c.args.trail.now c.args.start c.resolve_from.new.chain c.drain.new.chain c.in_ok-high.high c.resolve_from.new.marks c.drain.new.marks c.in_ok-kept.kept c.in_ok-nogood.nogood c.in_ok-high.ensures.run c.in_ok-kept.ensures.left c.in_ok-kept.ensures.clear (c.in_ok-nogood.ensures.value ∙ ap canonical c.items.ensures)).used

pub returns-clause-replays : goal.returns-clause-replays
returns-clause-replays c =
    (learned c.args.store.now.held c.args.trail.now c.args.start c.resolve_from.new.chain c.drain.new.chain c.in_ok-high.high c.resolve_from.new.marks c.drain.new.marks c.in_ok-kept.kept c.in_ok-nogood.nogood c.in_ok-high.ensures.run c.in_ok-kept.ensures.left c.in_ok-kept.ensures.clear (c.in_ok-nogood.ensures.value ∙ ap canonical c.items.ensures)).replays

pub returns-clause-once : goal.returns-clause-once
returns-clause-once c =
    (learned c.args.store.now.held c.args.trail.now c.args.start c.resolve_from.new.chain c.drain.new.chain c.in_ok-high.high c.resolve_from.new.marks c.drain.new.marks c.in_ok-kept.kept c.in_ok-nogood.nogood c.in_ok-high.ensures.run c.in_ok-kept.ensures.left c.in_ok-kept.ensures.clear (c.in_ok-nogood.ensures.value ∙ ap canonical c.items.ensures)).differ

pub returns-clause-named : goal.returns-clause-named
returns-clause-named c =
    (learned c.args.store.now.held c.args.trail.now c.args.start c.resolve_from.new.chain c.drain.new.chain c.in_ok-high.high c.resolve_from.new.marks c.drain.new.marks c.in_ok-kept.kept c.in_ok-nogood.nogood c.in_ok-high.ensures.run c.in_ok-kept.ensures.left c.in_ok-kept.ensures.clear (c.in_ok-nogood.ensures.value ∙ ap canonical c.items.ensures)).named

pub returns-clause-by_entries : goal.returns-clause-by_entries
returns-clause-by_entries c =
    (learned c.args.store.now.held c.args.trail.now c.args.start c.resolve_from.new.chain c.drain.new.chain c.in_ok-high.high c.resolve_from.new.marks c.drain.new.marks c.in_ok-kept.kept c.in_ok-nogood.nogood c.in_ok-high.ensures.run c.in_ok-kept.ensures.left c.in_ok-kept.ensures.clear (c.in_ok-nogood.ensures.value ∙ ap canonical c.items.ensures)).by_entries

pub returns-clause-all_true : goal.returns-clause-all_true
returns-clause-all_true c =
    (learned c.args.store.now.held c.args.trail.now c.args.start c.resolve_from.new.chain c.drain.new.chain c.in_ok-high.high c.resolve_from.new.marks c.drain.new.marks c.in_ok-kept.kept c.in_ok-nogood.nogood c.in_ok-high.ensures.run c.in_ok-kept.ensures.left c.in_ok-kept.ensures.clear (c.in_ok-nogood.ensures.value ∙ ap canonical c.items.ensures)).all_true

pub returns-clause-asserting : goal.returns-clause-asserting
returns-clause-asserting c =
    subst (λ (k : ℕ). (c.in_ok-nogood.nogood ≡ []) ⊎ IsAsserting c.args.trail.now c.in_ok-nogood.nogood k)
    (sym (c.next_highest-level.ensures ∙ ap (highest_but c.args.trail.now c.in_ok-high.high) c.lits.ensures.value))
    (learned c.args.store.now.held c.args.trail.now c.args.start c.resolve_from.new.chain c.drain.new.chain c.in_ok-high.high c.resolve_from.new.marks c.drain.new.marks c.in_ok-kept.kept c.in_ok-nogood.nogood c.in_ok-high.ensures.run c.in_ok-kept.ensures.left c.in_ok-kept.ensures.clear (c.in_ok-nogood.ensures.value ∙ ap canonical c.items.ensures)).asserts

pub returns-clause-empty : goal.returns-clause-empty
returns-clause-empty c = λ n there low.
    (learned c.args.store.now.held c.args.trail.now c.args.start c.resolve_from.new.chain c.drain.new.chain c.in_ok-high.high c.resolve_from.new.marks c.drain.new.marks c.in_ok-kept.kept c.in_ok-nogood.nogood c.in_ok-high.ensures.run c.in_ok-kept.ensures.left c.in_ok-kept.ensures.clear (c.in_ok-nogood.ensures.value ∙ ap canonical c.items.ensures)).empty
    (c.in_ok-high.ensures.high n there ∙ low)
