use Rattle.std.proofs.Common.{List, ℕ, subst}
use Rattle.std.specs.List.{AllByRecursion}
use Rattle.unfounded_sets.specs.inner.Outer.{of_parts}
use Rattle.unfounded_sets.specs.inner.Sources.{Stands}
use Rattle.unfounded_sets.proofs.SourceLemmas.{sources_free}
use Rattle.unfounded_sets.proofs.lost.is_free.Goals as goal

pub returns : goal.returns
returns c stand =
    sources_free (of_parts c.args.atoms c.args.bodies.now c.args.supports.now) c.args.trail.now c.requires.whole c.requires.fits c.requires.supported c.args.groups.now.level.items c.args.sources.now.rank.items
    c.args.groups.now.cyclic.items c.args.sources.now.source.items (c.requires.grouped c.if-not-groups.false) (c.requires.sourced c.if-not-sources.false)
    (subst (λ (source : List ℕ). AllByRecursion (Stands c.args.trail.now source) c.args.groups.now.cyclic.items) c.deref-2.ensures.value
    (subst (λ (cyclic : List ℕ). AllByRecursion (Stands c.args.trail.now c.deref-2.result.now) cyclic) c.deref.ensures.value (c.all_stand.ensures stand)))
