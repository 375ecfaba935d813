use Rattle.std.specs.Prelude.{◌≡◌, ◌+◌, ◌++◌, map, drop}
use Rattle.trail.specs.Assignment.{Assignment}
use Rattle.propagator_core.specs.Several.{AllStand}
use Rattle.propagators.specs.contracts.any.AnyPropagator.TheImpl.{ghosts as of_any}
use Rattle.propagators.specs.Meanings.{meanings_from}
use Rattle.propagators.proofs.listing.propagators_of.Given as goal

abbrev pub invariant-loop-at : goal.invariant-loop-at
invariant-loop-at l = record {
  meanings : map of_any.meaning l.all ++ meanings_from (l.at + 1) (drop l.at l.numbered.constraints) ≡ meanings_from 1 l.numbered.constraints;
  stand : (t : Assignment) → AllStand of_any.stands of_any.looked l.all t;
}
