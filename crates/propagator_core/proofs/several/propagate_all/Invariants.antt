use Rattle.std.proofs.Common.{◌≡◌, ◌+◌, ◌-◌, ◌*◌, ◌^◌, ◌≤◌, length, map}
use Rattle.trail.specs.Growth.{Grows}
use Rattle.propagator_core.specs.Shown.{IsShown}
use Rattle.propagator_core.specs.Several.{AllStand, some_valid}
use Rattle.propagator_core.specs.Turns.{FirstDone}
use Rattle.propagator_core.proofs.several.propagate_all.Given as goal

abbrev pub invariant-turns : goal.invariant-turns
invariant-turns g l =
    let P = g.P.Propagator in
    let ms = map P.meaning l.fn.all in
    record {
      at : l.at ≤ length l.all;
      meanings : map P.meaning l.all ≡ ms;
      stand : AllStand P.stands P.looked l.all l.trail;
      grows : Grows (IsShown (some_valid ms)) l.fn.trail l.trail;
      done : FirstDone ms l.at l.trail;
    }

abbrev pub decreases-turns : goal.decreases-turns
decreases-turns g l = (2 ^ 64 - length l.trail.entries) * (length l.fn.all + 1) + (length l.all - l.at)
