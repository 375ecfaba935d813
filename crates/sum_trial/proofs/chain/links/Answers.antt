use Rattle.sum_propagator.specs.Kinds.{meaning_of}
use Rattle.sum_propagator.specs.declared.sum_propagator.SumPropagator.{SumPropagator}
use Rattle.sum_trial.proofs.TrialLaws.{chain_more, count_more}
use Rattle.sum_trial.proofs.chain.links.Goals as goal

pub loop-before-preserved : goal.loop-before-preserved
loop-before-preserved c =
    let inv = c.loop-before.invariant in
    record {
      meanings = chain_more (λ (p : SumPropagator). meaning_of p.sum.kind p.sum.number p.sum.items p.sum.most) c.loop-before.all.items c.add.new.all.items c.in_ok-link.field-0 c.loop-before.before inv.meanings c.in_ok-link.ensures.meaning c.in_ok-add.ensures.items;
      count = count_more c.loop-before.all.items c.add.new.all.items c.in_ok-link.field-0 c.loop-before.before inv.count c.in_ok-add.ensures.items;
      fit = c.in_ok-add.ensures.fit;
      stand = c.in_ok-add.ensures.stand;
    }
