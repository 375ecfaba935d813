use Rattle.std.proofs.Common.{rules, ◌≤ℤ◌, ◌<ℤ◌, ◌∙◌, sym, subst, ℤ, true, false, FitsSigned, IsTrue, IfOk}
use Rattle.std.specs.Int.{w128}
use Rattle.std.proofs.lemmas.Int.{to_z-of_z}
use Rattle.trail_bounds.specs.OnTrail.{bounds_on}
use Rattle.sum_propagator.specs.Sides.{limit_of}
use Rattle.sum_propagator.proofs.Validity.{side-total}
use Rattle.literals.specs.declared.lit.Lit.TheVariants.{Constraint}
use Rattle.trail.specs.Growth.{Grows}
use Rattle.trail.proofs.AssignmentLaws.{true-truth}
use Rattle.propagator_core.specs.Shown.{IsShown}
use Rattle.propagator_core.specs.Quiet.{Answers}
use Rattle.sum_propagator.specs.declared.sum.Kind.{Kind}
use Rattle.sum_propagator.specs.Kinds.{meaning_of, IsOn}
use Rattle.sum_propagator.proofs.Resting.{done_open, side_as}
use Rattle.sum_propagator.proofs.sum_propagator.judge.Goals as goal

pub decided-requires-clause-total : goal.decided-requires-clause-total
decided-requires-clause-total c =
    let f : FitsSigned w128 c.total.result = search rules in
    simp to_z-of_z (c.total.ensures.value ∙ side-total c.in-Some.side (bounds_on c.args.trail.now) c.args.sum.now.items c.args.totals.least c.args.totals.greatest c.requires.least c.requires.greatest)

pub settle-requires-clause-total : goal.settle-requires-clause-total
settle-requires-clause-total c =
    let f : FitsSigned w128 c.total-in-Some-excluded.result = search rules in
    simp to_z-of_z (c.total-in-Some-excluded.ensures.value ∙ side-total c.in-Some-excluded.side (bounds_on c.args.trail.now) c.args.sum.now.items c.args.totals.least c.args.totals.greatest c.requires.least c.requires.greatest)

pub settle-requires-clause-beyond : goal.settle-requires-clause-beyond
settle-requires-clause-beyond c =
    let fm : FitsSigned w128 c.args.sum.now.most = search rules in
    let f : FitsSigned w128 c.total-in-Some-excluded.result = search rules in
    let h = simp to_z-of_z at c.in-Some-excluded.ensures.some in
    simp to_z-of_z (subst (λ (k : ℤ). limit_of c.in-Some-excluded.side c.args.sum.now.most <ℤ k) (sym c.total-in-Some-excluded.ensures.value) h)

pub returns-in-None-excluded-clause-answer : goal.returns-in-None-excluded-clause-answer
returns-in-None-excluded-clause-answer c =
    let fm : FitsSigned w128 c.args.sum.now.most = search rules in
    let h = simp to_z-of_z at c.in-None-excluded.ensures.none in
    done_open c.args.trail.now c.args.sum.now.number c.args.sum.now.items c.args.sum.now.most c.requires.assignment c.args.sum.now.are_items c.requires.fits (sym c.truth.ensures ∙ c.in-None.is)
    (subst (λ (k : ℤ). k ≤ℤ limit_of true c.args.sum.now.most) (side-total true (bounds_on c.args.trail.now) c.args.sum.now.items c.args.totals.least c.args.totals.greatest c.requires.least c.requires.greatest) h.0)
    (subst (λ (k : ℤ). k ≤ℤ limit_of false c.args.sum.now.most) (side-total false (bounds_on c.args.trail.now) c.args.sum.now.items c.args.totals.least c.args.totals.greatest c.requires.least c.requires.greatest) h.1)

pub decided-requires-clause-fits : goal.decided-requires-clause-fits
decided-requires-clause-fits c =
    subst (λ (k : Kind). IsTrue ((meaning_of k c.args.sum.now.number c.args.sum.now.items c.args.sum.now.most).fits c.args.trail.now.shape)) (sym c.requires.constraint) c.requires.fits

pub decided-requires-clause-on : goal.decided-requires-clause-on
decided-requires-clause-on c =
    subst (λ (k : Kind). IsOn c.args.trail.now k c.args.sum.now.number c.in-Some.side) (sym c.requires.constraint)
    (tt, (true-truth c.args.trail.now (Constraint c.args.sum.now.number c.in-Some.side) (side_as c.args.trail.now c.args.sum.now.number c.in-Some.side (sym c.truth.ensures ∙ c.in-Some.is)), tt))

pub returns-in-Some-clause-grows : goal.returns-in-Some-clause-grows
returns-in-Some-clause-grows c =
    subst (λ (k : Kind). Grows (IsShown (meaning_of k c.args.sum.now.number c.args.sum.now.items c.args.sum.now.most).valid) c.args.trail.now c.decided.new.trail) c.requires.constraint c.decided.ensures.grows

pub returns-in-Some-clause-answer : goal.returns-in-Some-clause-answer
returns-in-Some-clause-answer c =
    subst (λ (k : Kind). IfOk c.decided.result (λ outcome. Answers (meaning_of k c.args.sum.now.number c.args.sum.now.items c.args.sum.now.most) c.args.trail.now c.decided.new.trail outcome)) c.requires.constraint c.decided.ensures.answer
