use Rattle.std.proofs.Common.{sym, subst, List}
use Rattle.linear_normal.specs.declared.numbered.Support.{Support}
use Rattle.unfounded_sets.specs.inner.Outer.{IsWhole}
use Rattle.unfounded_sets.specs.inner.Kept.{AreGrouped, AreSourced}
use Rattle.unfounded_sets.proofs.DependenceLemmas.{whole_program, made}
use Rattle.unfounded_sets.proofs.unfounded.Unfounded.new.Goals as goal

pub invariant_of-result : goal.invariant_of-result
invariant_of-result c = (
  subst IsWhole
      (sym (made c.args.ground.now c.args.numbered.now c.requires c.len-atoms.result c.in_ok-bodies.bodies c.in_ok-supports.supports c.items.result.now c.items-2.result.now
      c.len-atoms.ensures c.in_ok-bodies.ensures c.items.ensures c.in_ok-supports.ensures c.items-2.ensures))
      (whole_program c.args.ground.now c.args.ground.now.few_atoms),
  subst (λ (ss : List Support). AreGrouped c.in_ok-bodies.bodies ss c.in_ok-groups.groups) c.items-3.ensures c.in_ok-groups.ensures,
  subst (λ (ss : List Support). AreSourced c.in_ok-bodies.bodies ss c.in_ok-groups.groups c.in_ok-sources.sources) c.items-4.ensures c.in_ok-sources.ensures,
)
