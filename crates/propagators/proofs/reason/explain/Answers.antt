use Rattle.std.proofs.Common.{rules, ◌≡◌, [], ◌∷◌, ◌∙◌, ap, refl, true}
use Rattle.literals.specs.declared.lit.Lit.TheVariants.{Constraint}
use Rattle.literals.specs.declared.reason.Step.TheVariants.{Hole}
use Rattle.literals.specs.Nogoods.{canonical}
use Rattle.trail.specs.declared.shape.Shape.{Shape}
use Rattle.propagators.specs.inner.Gaps.{lit_over, lit_under}
use Rattle.propagators.proofs.ReasonLaws.{above_small, below_small, gathered, are_lits, explains}
use Rattle.propagators.proofs.reason.explain.Goals as goal

pub under-requires : goal.under-requires
under-requires c = above_small c.args.trail.now c.args.domain.now.variable c.args.domain.now.set.intervals c.args.gap c.requires.assignment c.requires.gap

pub over-requires : goal.over-requires
over-requires c = below_small c.args.trail.now c.args.domain.now.variable c.args.domain.now.set.intervals c.args.gap c.requires.assignment c.requires.gap

pub from_lits-requires : goal.from_lits-requires
from_lits-requires c =
    let first : c.push.new.self.items ≡ Constraint c.args.domain.now.number true ∷ [] = search rules in
    let lits : c.as_slice.result.now ≡ c.push_some-2.new.lits.items = search rules in
    are_lits c.args.trail.now c.args.domain.now.number c.args.domain.now.variable c.args.domain.now.set.intervals c.args.gap c.as_slice.result.now c.requires.assignment c.requires.fits c.requires.gap
    (lits ∙ gathered (Constraint c.args.domain.now.number true) c.push.new.self.items c.push_some.new.lits.items c.push_some-2.new.lits.items c.under.result (lit_under c.args.trail.now.shape.ends c.args.domain.now.variable c.args.gap.above) c.over.result (lit_over c.args.trail.now.shape.ends c.args.domain.now.variable c.args.gap.below)
    first c.in_ok-push_some.ensures c.in_ok-push_some-2.ensures
    (c.under.ensures ∙ ap (λ (s : Shape). lit_under s.ends c.args.domain.now.variable c.args.gap.above) c.shape.ensures.value)
    (c.over.ensures ∙ ap (λ (s : Shape). lit_over s.ends c.args.domain.now.variable c.args.gap.below) c.shape.ensures.value))

pub returns : goal.returns
returns c =
    let first : c.push.new.self.items ≡ Constraint c.args.domain.now.number true ∷ [] = search rules in
    let lits : c.as_slice.result.now ≡ c.push_some-2.new.lits.items = search rules in
    let v : c.in_ok-nogood.nogood ≡ canonical c.as_slice.result.now = search rules in
    explains c.args.trail.now c.args.domain.now.number c.args.domain.now.variable c.args.domain.now.set.intervals c.args.gap (record { nogood = c.in_ok-nogood.nogood; step = Hole c.args.domain.now.number }) c.requires.assignment c.requires.fits c.requires.gap
    (v ∙ ap canonical (lits ∙ gathered (Constraint c.args.domain.now.number true) c.push.new.self.items c.push_some.new.lits.items c.push_some-2.new.lits.items c.under.result (lit_under c.args.trail.now.shape.ends c.args.domain.now.variable c.args.gap.above) c.over.result (lit_over c.args.trail.now.shape.ends c.args.domain.now.variable c.args.gap.below)
    first c.in_ok-push_some.ensures c.in_ok-push_some-2.ensures
    (c.under.ensures ∙ ap (λ (s : Shape). lit_under s.ends c.args.domain.now.variable c.args.gap.above) c.shape.ensures.value)
    (c.over.ensures ∙ ap (λ (s : Shape). lit_over s.ends c.args.domain.now.variable c.args.gap.below) c.shape.ensures.value)))
    refl
