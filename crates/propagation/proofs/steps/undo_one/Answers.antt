use Rattle.std.proofs.Common.{arith}
use Rattle.propagation.proofs.StepLaws.{near_stands}
use Rattle.propagation.proofs.steps.undo_one.Goals as goal

pub returns-then-seen-length-clause-stand : goal.returns-then-seen-length-clause-stand
returns-then-seen-length-clause-stand g c =
    let P = g.P.Propagator in
    let s = c.seen.ensures in
    let n = c.length.ensures.value in
    let t = c.if-seen-length.true in
    near_stands (P.stands c.args.propagator.now) (P.looked c.args.propagator.now) c.requires.stand.0 c.args.trail.now c.requires.stand.1 c.requires.stand.2
    c.requires.stand.4 (omega (arith, s, n, t)) c.requires.stand.3
