use Rattle.std.proofs.Common.{ap, ◌∙◌, map}
use Rattle.sum_propagator.specs.Kinds.{meaning_of}
use Rattle.sum_propagator.specs.declared.sum_propagator.SumPropagator.{SumPropagator}
use Rattle.sum_trial.proofs.TrialLaws.{chained}
use Rattle.sum_trial.proofs.chain.narrow_chain.Goals as goal

pub returns : goal.returns
returns c =
    let f = λ (p : SumPropagator). meaning_of p.sum.kind p.sum.number p.sum.items p.sum.most in
    let both =
    chained c.args.count c.length.result c.in_ok-trail.trail c.propagate_all.new.trail (map f c.deref_mut.result.now) c.in_ok-propagate_all.field-0
    (ap (map f) c.deref_mut.ensures.value ∙ c.in_ok-all.ensures.meanings)
    c.in_ok-trail.ensures.entries c.propagate_all.ensures.grows c.in_ok-propagate_all.ensures.conflict c.in_ok-propagate_all.ensures.quiet c.length.ensures.value in
    record { at_least = both.1; chained = both.0 }
