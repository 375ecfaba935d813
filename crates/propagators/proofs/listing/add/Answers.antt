use Rattle.std.proofs.lemmas.Result.{on_ok_weaker}
use Rattle.propagators.specs.contracts.any.AnyPropagator.TheImpl.{ghosts as of_any}
use Rattle.propagators.specs.declared.any.Any.{Any}
use Rattle.propagator_core.specs.Standing.{StandsFor}
use Rattle.propagators.proofs.ListingLaws.{all_more}
use Rattle.propagators.proofs.listing.add.Goals as goal

pub returns-in_ok-one-in-AtMost-clause-stand : goal.returns-in_ok-one-in-AtMost-clause-stand
returns-in_ok-one-in-AtMost-clause-stand c =
    on_ok_weaker c.push.result (λ e t. all_more (λ (p : Any). StandsFor (of_any.stands p) (of_any.looked p) t) c.args.all.now c.push.new.self c.in_ok-one-in-AtMost.one e (c.requires.stand t) (c.in_ok-one-in-AtMost.ensures.stands t)) c.push.ensures.ok

pub returns-in_ok-one-in-Domain-clause-stand : goal.returns-in_ok-one-in-Domain-clause-stand
returns-in_ok-one-in-Domain-clause-stand c =
    on_ok_weaker c.push-in-Domain.result (λ e t. all_more (λ (p : Any). StandsFor (of_any.stands p) (of_any.looked p) t) c.args.all.now c.push-in-Domain.new.self c.in_ok-one-in-Domain.one e (c.requires.stand t) (c.in_ok-one-in-Domain.ensures.stands t)) c.push-in-Domain.ensures.ok
