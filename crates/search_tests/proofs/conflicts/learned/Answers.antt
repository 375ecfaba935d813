use Rattle.std.proofs.Common.{List, ◌++◌, ap, sym, subst, ◌∙◌}
use Rattle.trail.specs.declared.shape.Shape.{Shape}
use Rattle.trail.specs.Assignment.{Assignment}
use Rattle.nogood_store.specs.Holding.{Held, Seen, Holding, seen_of}
use Rattle.nogood_store.specs.Propagation.{AllNamed}
use Rattle.conflict_analysis.proofs.JustifiedLaws.{numbered_named}
use Rattle.search_tests.proofs.conflicts.learned.Goals as goal

pub learn-requires-clause-named : goal.learn-requires-clause-named
learn-requires-clause-named c =
    subst (λ (s : Shape). AllNamed s c.in_ok-store.store.held) (sym (c.in_ok-decide_all.ensures.shape ∙ ap (λ (t : Assignment). t.shape) c.in_ok-trail.ensures))
    (subst (λ (hs : List Held). AllNamed c.args.shape hs) (sym (ap (λ (h : Holding). h.held) c.in_ok-store.ensures)) (numbered_named c.args.shape c.args.first.now c.args.second.now c.requires.first c.requires.second))

pub learn-requires-clause-looked : goal.learn-requires-clause-looked
learn-requires-clause-looked c =
    let none = ap (λ (h : Holding). h.looked) c.in_ok-store.ensures in
    (seen_of c.decide_all.new.trail.entries, ap (λ (first : List Seen). first ++ seen_of c.decide_all.new.trail.entries) (sym none))
