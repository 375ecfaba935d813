use Rattle.propagators.proofs.StepLaws.{conflict_here, step_beside, step_grows, step_longer}
use Rattle.propagators.proofs.domain.narrow.Goals as goal

pub set-requires : goal.set-requires
set-requires c =
    (step_beside c.args.trail.now c.args.domain.now.number c.args.domain.now.variable c.args.domain.now.set c.args.gap c.in-Some.lit c.in_ok-reason.reason c.requires.assignment c.requires.fits c.requires.on c.requires.gap c.in-Some.ensures.some c.in_ok-reason.ensures).names

pub returns-in-None-clause-answer : goal.returns-in-None-clause-answer
returns-in-None-clause-answer c =
    conflict_here c.args.trail.now c.args.domain.now.number c.args.domain.now.variable c.args.domain.now.set c.requires.gap.at c.args.gap c.in_ok-reason.reason c.requires.on c.requires.gap.is c.in-None.ensures.none c.in_ok-reason.ensures

pub returns-in_ok-set-in-Some-clause-grows : goal.returns-in_ok-set-in-Some-clause-grows
returns-in_ok-set-in-Some-clause-grows c =
    step_grows c.args.trail.now c.set.new.self c.args.domain.now.number c.args.domain.now.variable c.args.domain.now.set c.in-Some.lit c.in_ok-reason.reason c.in_ok-set-in-Some.field-0
    (step_beside c.args.trail.now c.args.domain.now.number c.args.domain.now.variable c.args.domain.now.set c.args.gap c.in-Some.lit c.in_ok-reason.reason c.requires.assignment c.requires.fits c.requires.on c.requires.gap c.in-Some.ensures.some c.in_ok-reason.ensures)
    c.in_ok-set-in-Some.ensures.ok

pub returns-in_ok-set-in-Some-clause-answer : goal.returns-in_ok-set-in-Some-clause-answer
returns-in_ok-set-in-Some-clause-answer c =
    step_longer c.args.trail.now c.set.new.self c.args.domain.now.number c.args.domain.now.variable c.args.domain.now.set c.in-Some.lit c.in_ok-reason.reason c.in_ok-set-in-Some.field-0
    (step_beside c.args.trail.now c.args.domain.now.number c.args.domain.now.variable c.args.domain.now.set c.args.gap c.in-Some.lit c.in_ok-reason.reason c.requires.assignment c.requires.fits c.requires.on c.requires.gap c.in-Some.ensures.some c.in_ok-reason.ensures)
    c.in_ok-set-in-Some.ensures.ok
