use Rattle.std.proofs.Common.{not, ap, None, false}
use Rattle.literals.specs.declared.lit.Lit.TheVariants.{Constraint}
use Rattle.trail.specs.Assignment.{lower_on}
use Rattle.propagators.proofs.QuietLaws.{done}
use Rattle.propagators.proofs.StepLaws.{step_off, step_grows}
use Rattle.propagators.proofs.domain.decide.Goals as goal

pub returns-in-None-clause-answer : goal.returns-in-None-clause-answer
returns-in-None-clause-answer c =
    done c.args.domain.now.number c.args.domain.now.variable c.args.domain.now.set c.args.trail.now None c.requires.assignment c.requires.unknown (ap not c.in-None.ensures.none)

pub returns-in_ok-set-in-Some-clause-grows : goal.returns-in_ok-set-in-Some-clause-grows
returns-in_ok-set-in-Some-clause-grows c =
    step_grows c.args.trail.now c.set.new.self c.args.domain.now.number c.args.domain.now.variable c.args.domain.now.set (Constraint c.args.domain.now.number false) c.in_ok-reason-in-Some.reason c.in_ok-set-in-Some.field-0
    (step_off c.args.trail.now c.args.domain.now.number c.args.domain.now.variable c.args.domain.now.set (lower_on c.args.trail.now c.args.domain.now.variable) c.in-Some.gap c.in_ok-reason-in-Some.reason c.requires.fits c.requires.unknown c.in-Some.ensures.some (c.in-Some.ensures.under, c.in-Some.ensures.some.over) c.in_ok-reason-in-Some.ensures)
    c.in_ok-set-in-Some.ensures.ok
