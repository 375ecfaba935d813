use Rattle.std.proofs.Common.{rules, IsTrue, IfOk, subst, sym, refl, ◌∙◌, true, FitsSigned}
use Rattle.std.specs.Int.{w128}
use Rattle.std.proofs.lemmas.Int.{to_z-of_z}
use Rattle.trail.specs.Growth.{Grows}
use Rattle.trail_bounds.specs.OnTrail.{bounds_on}
use Rattle.trail_bounds.proofs.ItemSums.{side-true}
use Rattle.propagator_core.specs.Shown.{IsShown}
use Rattle.propagator_core.specs.Quiet.{IsQuiet, Answers}
use Rattle.sum_propagator.specs.declared.sum.Kind.{Kind}
use Rattle.sum_propagator.specs.Kinds.{meaning_of, IsOn}
use Rattle.sum_propagator.proofs.Resting.{done_unbounded}
use Rattle.sum_propagator.proofs.sum_propagator.answer.Goals as goal

pub judge-requires-clause-fits : goal.judge-requires-clause-fits
judge-requires-clause-fits c =
    subst (λ (k : Kind). IsTrue ((meaning_of k c.args.sum.now.number c.args.sum.now.items c.args.sum.now.most).fits c.args.trail.now.shape)) c.in-Constraint.is c.requires.fits

pub returns-in-Constraint-clause-grows : goal.returns-in-Constraint-clause-grows
returns-in-Constraint-clause-grows c =
    subst (λ (k : Kind). Grows (IsShown (meaning_of k c.args.sum.now.number c.args.sum.now.items c.args.sum.now.most).valid) c.args.trail.now c.judge.new.trail) (sym c.in-Constraint.is) c.judge.ensures.grows

pub returns-in-Constraint-clause-answer : goal.returns-in-Constraint-clause-answer
returns-in-Constraint-clause-answer c =
    subst (λ (k : Kind). IfOk c.judge.result (λ outcome. Answers (meaning_of k c.args.sum.now.number c.args.sum.now.items c.args.sum.now.most) c.args.trail.now c.judge.new.trail outcome)) (sym c.in-Constraint.is) c.judge.ensures.answer

pub returns-in-Unbounded-clause-answer : goal.returns-in-Unbounded-clause-answer
returns-in-Unbounded-clause-answer c =
    subst (λ (k : Kind). IsQuiet (meaning_of k c.args.sum.now.number c.args.sum.now.items c.args.sum.now.most) c.args.trail.now × IsTrue ((meaning_of k c.args.sum.now.number c.args.sum.now.items c.args.sum.now.most).rests c.args.trail.now)) (sym c.in-Unbounded.is)
    (done_unbounded c.args.trail.now c.args.sum.now.items c.requires.assignment
    (subst (λ (k : Kind). IsTrue ((meaning_of k c.args.sum.now.number c.args.sum.now.items c.args.sum.now.most).fits c.args.trail.now.shape)) c.in-Unbounded.is c.requires.fits))

pub decided-requires-clause-on : goal.decided-requires-clause-on
decided-requires-clause-on c = subst (λ (k : Kind). IsOn c.args.trail.now k c.args.sum.now.number true) (sym c.in-Bounded.is) (refl, tt)

pub decided-requires-clause-total : goal.decided-requires-clause-total
decided-requires-clause-total c =
    let f : FitsSigned w128 c.args.totals.least = search rules in
    simp to_z-of_z (c.requires.least ∙ sym (side-true (bounds_on c.args.trail.now) c.args.sum.now.items))
