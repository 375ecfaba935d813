use Rattle.std.proofs.Common.{map, ◌∙◌}
use Rattle.propagation.proofs.SettleLaws.{runs_gone, same_gone}
use Rattle.propagation.proofs.calls.call_awake.Goals as goal

pub returns-then-length-from-clause-runs : goal.returns-then-length-from-clause-runs
returns-then-length-from-clause-runs g c =
    let f = g.P.Propagator.meaning in
    runs_gone c.args.wakes.now (map f c.args.propagators.now) (map f c.calls.propagators) c.args.awake.now.places c.calls.awake.places c.call_first.new.awake.places c.args.trail.now c.calls.trail c.call_first.new.trail c.length-from.result c.length.result
    c.in-Ok-Gone.field-0 c.calls.invariant.meanings c.calls.invariant.same c.calls.invariant.keeps c.in-Ok-Gone.field-0-is c.in-Ok-Gone.ensures.step c.length-from.ensures.value c.length.ensures.value c.if-length-from.true c.length.type_inv

pub calls-preserved : goal.calls-preserved
calls-preserved g c =
    let f = g.P.Propagator.meaning in
    let gone =
    same_gone c.args.wakes.now (map f c.args.propagators.now) (map f c.calls.propagators) c.args.awake.now.places c.calls.awake.places c.call_first.new.awake.places c.args.trail.now c.calls.trail c.call_first.new.trail c.length-from.result c.length.result
    c.in-Ok-Gone.field-0 c.calls.invariant.meanings c.calls.invariant.same c.calls.invariant.keeps c.in-Ok-Gone.field-0-is c.in-Ok-Gone.ensures.step c.length-from.ensures.value c.length.ensures.value c.if-length-from.false in
    record {
      meanings = c.call_first.ensures.meanings ∙ c.calls.invariant.meanings;
      stand = c.call_first.ensures.stand;
      count = c.call_first.ensures.count ∙ c.calls.invariant.count;
      same = gone.0;
      keeps = gone.1;
    }
