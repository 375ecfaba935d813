use Rattle.std.proofs.Common.{List, sym, subst}
use Rattle.nogood_store.specs.Holding.{Held}
use Rattle.nogood_store.specs.Propagation.{Answers, IsConflict}
use Rattle.nogood_store.specs.declared.propagate.Unit.{Unit as Ended}
use Rattle.nogood_store.proofs.Growing.{grown_shape}
use Rattle.conflict_analysis.specs.declared.learned.Start.TheVariants.{Held as FromHeld}
use Rattle.conflict_analysis.specs.Justified.{IsJustified}
use Rattle.conflict_analysis.specs.Chains.{IsConflicting}
use Rattle.conflict_analysis.proofs.JustifiedLaws.{justified_grows, conflict_starts}
use Rattle.search_tests.proofs.conflicts.learn.Goals as goal

pub analyse-requires-clause-justified : goal.analyse-requires-clause-justified
analyse-requires-clause-justified c =
    subst (λ (hs : List Held). IsJustified hs c.unit_propagate.new.trail) (sym c.in_ok-unit_propagate.ensures.held)
    (justified_grows c.args.store.now.held c.args.trail.now c.unit_propagate.new.trail c.requires.named c.requires.justified c.in_ok-unit_propagate.ensures.grows)

pub analyse-requires-clause-conflict : goal.analyse-requires-clause-conflict
analyse-requires-clause-conflict c =
    let found : IsConflict c.args.store.now.held c.unit_propagate.new.trail c.in-Conflict.id =
    subst (λ (u : Ended). Answers c.args.store.now.held c.unit_propagate.new.trail u) c.in-Conflict.is c.in_ok-unit_propagate.ensures.answer
    in
    subst (λ (hs : List Held). IsConflicting hs c.unit_propagate.new.trail (FromHeld c.in-Conflict.id)) (sym c.in_ok-unit_propagate.ensures.held)
    (conflict_starts c.args.store.now.held c.unit_propagate.new.trail c.in-Conflict.id
    (grown_shape c.args.store.now.held c.args.trail.now c.unit_propagate.new.trail c.in_ok-unit_propagate.ensures.grows c.requires.named) found)
