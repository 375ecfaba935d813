use Rattle.std.proofs.Common.{◌≡◌, ◌-◌, ◌^◌, length, map}
use Rattle.trail.specs.Growth.{Grows}
use Rattle.nogood_store.specs.Holding.{IsFront, seen_of}
use Rattle.propagator_core.specs.Several.{AllStand}
use Rattle.propagation.specs.Waking.{OthersRest}
use Rattle.founded_propagation.specs.Founding.{IsCausedWith}
use Rattle.founded_propagation.proofs.founded.settle_founded.Given as goal

abbrev pub invariant-settle : goal.invariant-settle
invariant-settle g l =
    let P = g.P.Propagator in
    record {
      grows : Grows (IsCausedWith l.fn.store.held (map P.meaning l.fn.propagators) l.fn.loops) l.fn.trail l.trail;
      loops : l.loops ≡ l.fn.loops;
      meanings : map P.meaning l.propagators ≡ map P.meaning l.fn.propagators;
      stand : AllStand P.stands P.looked l.propagators l.trail;
      count : l.awake.count ≡ l.fn.awake.count;
      held : l.store.held ≡ l.fn.store.held;
      looked : IsFront l.store.looked (seen_of l.trail.entries);
      others : OthersRest l.awake.places (map P.meaning l.fn.propagators) l.trail;
    }

abbrev pub decreases-settle : goal.decreases-settle
decreases-settle g l = 2 ^ 64 - length l.trail.entries
