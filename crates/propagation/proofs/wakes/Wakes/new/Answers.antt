use Rattle.std.proofs.Common.{map, length}
use Rattle.propagation.proofs.RowLaws.{none_wakes, none_steady, first_wakes, first_steady, all_wakes, all_steady}
use Rattle.propagation.proofs.wakes.Wakes.new.Goals as goal

pub loop-place-init : goal.loop-place-init
loop-place-init g c =
    let ms = map g.P.Propagator.meaning c.args.propagators.now in
    record {
      rows = c.in_ok-wakes.ensures (length c.args.propagators.now);
      wakes = none_wakes c.in_ok-wakes.wakes ms;
      steady = none_steady ms;
    }

pub loop-place-preserved : goal.loop-place-preserved
loop-place-preserved g c =
    let f = g.P.Propagator.meaning in
    let ps = c.args.propagators.now in
    let i = c.loop-place.place in
    let p = c.index-propagators-place.result in
    let lt = c.loop-place-test.true in
    record {
      rows = c.in_ok-note_all.ensures.rows c.args.shape (length ps) lt c.loop-place.invariant.rows;
      wakes = first_wakes f ps c.loop-place.wakes c.note_all.new.wakes i p lt c.index-propagators-place.is c.in_ok-note_all.ensures.kept c.loop-place.invariant.wakes c.in_ok-note_all.ensures.there;
      steady = first_steady f ps i p lt c.index-propagators-place.is c.loop-place.invariant.steady c.in_ok-note_all.ensures.steady;
    }

pub returns-clause-wakes : goal.returns-clause-wakes
returns-clause-wakes g c = all_wakes g.P.Propagator.meaning c.args.propagators.now c.loop-place.place c.loop-place.wakes c.loop-place-test.false c.loop-place.invariant.wakes

pub returns-clause-steady : goal.returns-clause-steady
returns-clause-steady g c = all_steady g.P.Propagator.meaning c.args.propagators.now c.loop-place.place c.loop-place-test.false c.loop-place.invariant.steady
