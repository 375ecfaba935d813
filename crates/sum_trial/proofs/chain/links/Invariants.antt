use Rattle.std.proofs.Common.{◌≡◌, length, map}
use Rattle.propagator_core.specs.Several.{AllFit, AllStand}
use Rattle.sum_propagator.specs.Sums.{StandsAt}
use Rattle.sum_propagator.specs.Kinds.{meaning_of}
use Rattle.sum_propagator.specs.declared.sum_propagator.SumPropagator.{SumPropagator}
use Rattle.sum_trial.specs.Trials.{chain_meanings}
use Rattle.sum_trial.proofs.chain.links.Given as goal

abbrev pub invariant-loop-before : goal.invariant-loop-before
invariant-loop-before l = record {
  meanings : map (λ (p : SumPropagator). meaning_of p.sum.kind p.sum.number p.sum.items p.sum.most) l.all.items ≡ chain_meanings l.before;
  count : length l.all.items ≡ l.before;
  fit : AllFit (map (λ (p : SumPropagator). meaning_of p.sum.kind p.sum.number p.sum.items p.sum.most) l.all.items) l.trail.shape;
  stand : AllStand (λ (p : SumPropagator). StandsAt p.sum.items p.totals p.widest) (λ (p : SumPropagator). p.seen) l.all.items l.trail;
}
