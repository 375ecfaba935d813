use Rattle.std.proofs.Common.{◌≡◌, ◌∙◌, ◌≤◌, ◌<◌, sym, ap, subst, arith, ℤ}
use Rattle.literals.specs.declared.lit.Lit.TheVariants.{AtLeast}
use Rattle.trail.specs.Assignment.{Places}
use Rattle.trail.specs.declared.entry.Why.TheVariants.{Decision}
use Rattle.trail.specs.declared.shape.Shape.{Shape}
use Rattle.trail.proofs.GrowthLaws.{grows_shape}
use Rattle.propagator_core.specs.Meaning.{Meaning}
use Rattle.propagator_core.specs.Shown.{IsShown}
use Rattle.sum_trial.proofs.MoreLaws.{fits_on}
use Rattle.sum_trial.proofs.TrialLaws.{names_raise, raise_number, raise_set, raise_call, raised_more}
use Rattle.sum_trial.proofs.wide.raise.Goals as goal

pub loop-before-preserved : goal.loop-before-preserved
loop-before-preserved g c =
    let P = g.P.Propagator in
    let inv = c.loop-before.invariant in
    let few : c.loop-before.before < 1000000 = (let most = c.requires.few in omega arith) in
    let placed = subst (λ (z : ℤ). Places c.loop-before.trail (AtLeast 1 z) Decision c.in_ok-set.field-0 c.set.new.self) (raise_number c.loop-before.before few) c.in_ok-set.ensures.ok in
    let e : c.propagate.new.trail.shape ≡ c.loop-before.trail.shape = grows_shape (IsShown (P.meaning c.loop-before.sum).valid) c.set.new.self c.propagate.new.trail c.propagate.ensures.grows ∙ c.set.ensures.shape in
    record {
      fits = fits_on (P.meaning c.loop-before.sum) (P.meaning c.propagate.new.self) c.loop-before.trail.shape c.propagate.new.trail.shape c.propagate.ensures.meaning e inv.fits;
      stands = c.propagate.ensures.stands;
      named = subst (λ (s : Shape). 1 ≤ s.variables) (sym e) inv.named;
      meaning = c.propagate.ensures.meaning ∙ inv.meaning;
      grows =
          raise_call c.args.times (P.meaning c.args.sum.now).valid (P.meaning c.loop-before.sum).valid c.args.trail.now c.set.new.self c.propagate.new.trail (ap (λ (m : Meaning). m.valid) inv.meaning)
          (raise_set c.args.times c.loop-before.before (P.meaning c.args.sum.now).valid c.args.trail.now c.loop-before.trail c.set.new.self c.in_ok-set.field-0 c.loop-before-test.true
          (names_raise c.loop-before.trail.shape c.loop-before.before inv.named few) inv.grows placed)
          c.propagate.ensures.grows;
      raised =
          raised_more c.loop-before.before (P.meaning c.loop-before.sum).valid c.loop-before.trail c.set.new.self c.propagate.new.trail c.in_ok-set.field-0
          (names_raise c.loop-before.trail.shape c.loop-before.before inv.named few) inv.raised placed c.propagate.ensures.grows;
    }

pub returns-in_err-propagate-clause-grows : goal.returns-in_err-propagate-clause-grows
returns-in_err-propagate-clause-grows g c =
    let P = g.P.Propagator in
    let inv = c.loop-before.invariant in
    let few : c.loop-before.before < 1000000 = (let most = c.requires.few in omega arith) in
    let placed = subst (λ (z : ℤ). Places c.loop-before.trail (AtLeast 1 z) Decision c.in_ok-set.field-0 c.set.new.self) (raise_number c.loop-before.before few) c.in_ok-set.ensures.ok in
    raise_call c.args.times (P.meaning c.args.sum.now).valid (P.meaning c.loop-before.sum).valid c.args.trail.now c.set.new.self c.propagate.new.trail (ap (λ (m : Meaning). m.valid) inv.meaning)
    (raise_set c.args.times c.loop-before.before (P.meaning c.args.sum.now).valid c.args.trail.now c.loop-before.trail c.set.new.self c.in_ok-set.field-0 c.loop-before-test.true
    (names_raise c.loop-before.trail.shape c.loop-before.before inv.named few) inv.grows placed)
    c.propagate.ensures.grows
