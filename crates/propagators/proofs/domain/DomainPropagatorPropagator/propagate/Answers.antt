use Rattle.std.proofs.Common.{rules, ◌≡◌, true, false, Some, refl}
use Rattle.literals.specs.declared.lit.Lit.TheVariants.{Constraint}
use Rattle.trail.specs.Assignment.{truth_on}
use Rattle.propagator_core.specs.Shown.{IsShown}
use Rattle.propagators.specs.Domains.{valid_domain}
use Rattle.propagators.proofs.QuietLaws.{done, looked_all}
use Rattle.propagators.proofs.domain.DomainPropagatorPropagator.propagate.Goals as goal

pub returns-in-Some-true-clause-stands : goal.returns-in-Some-true-clause-stands
returns-in-Some-true-clause-stands c =
    looked_all (IsShown (valid_domain c.args.self.now.domain.number c.args.self.now.domain.variable c.args.self.now.domain.set)) c.args.trail.now c.keep_within.new.trail c.length-self.result _ (λ e es. tt) c.length-self.ensures.value c.keep_within.ensures.grows

pub returns-in-None-clause-stands : goal.returns-in-None-clause-stands
returns-in-None-clause-stands c =
    looked_all (IsShown (valid_domain c.args.self.now.domain.number c.args.self.now.domain.variable c.args.self.now.domain.set)) c.args.trail.now c.decide.new.trail c.length-self.result _ (λ e es. tt) c.length-self.ensures.value c.decide.ensures.grows

pub returns-in-Some-false-clause-answer : goal.returns-in-Some-false-clause-answer
returns-in-Some-false-clause-answer c =
    let e : truth_on c.args.trail.now (Constraint c.args.self.now.domain.number true) ≡ Some false = search rules in
    done c.args.self.now.domain.number c.args.self.now.domain.variable c.args.self.now.domain.set c.args.trail.now (Some false) c.length-self.ensures.assignment e refl
