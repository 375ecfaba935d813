use Rattle.std.proofs.Common.{◌≡◌, length, map}
use Rattle.propagator_core.specs.Several.{AllStand}
use Rattle.propagation.specs.Waking.{KeepsRest}
use Rattle.propagation.proofs.calls.call_awake.Given as goal

abbrev pub invariant-calls : goal.invariant-calls
invariant-calls g l =
    let P = g.P.Propagator in
    record {
      meanings : map P.meaning l.propagators ≡ map P.meaning l.fn.propagators;
      stand : AllStand P.stands P.looked l.propagators l.trail;
      count : l.awake.count ≡ l.fn.awake.count;
      same : l.trail ≡ l.fn.trail;
      keeps : KeepsRest l.wakes (map P.meaning l.fn.propagators) l.fn.awake.places l.awake.places l.fn.trail l.trail;
    }

abbrev pub decreases-calls : goal.decreases-calls
decreases-calls g l = length l.awake.places
