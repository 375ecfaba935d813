use Rattle.std.proofs.Math.Seq.{map-set_same}
use Rattle.std.proofs.Common.{map}
use Rattle.propagator_core.specs.Shown.{IsShown}
use Rattle.propagator_core.specs.Several.{some_valid}
use Rattle.propagator_core.proofs.SeveralLaws.{fit_at, grows_at, stand_at}
use Rattle.propagation.proofs.calls.call.Goals as goal

pub propagate-requires-clause-fits : goal.propagate-requires-clause-fits
propagate-requires-clause-fits g c = fit_at g.P.Propagator.meaning c.args.propagators.now c.args.place c.index-propagators-place.result c.args.trail.now.shape c.requires.fit c.requires.place

pub returns-clause-meanings : goal.returns-clause-meanings
returns-clause-meanings g c = map-set_same g.P.Propagator.meaning c.args.propagators.now c.args.place c.propagate.new.self c.index-propagators-place.result c.propagate.ensures.meaning

pub returns-clause-grows : goal.returns-clause-grows
returns-clause-grows g c = grows_at g.P.Propagator.meaning c.args.propagators.now c.args.place c.index-propagators-place.result c.args.trail.now c.propagate.new.trail c.requires.place c.propagate.ensures.grows

pub returns-clause-stand : goal.returns-clause-stand
returns-clause-stand g c =
    let P = g.P.Propagator in
    stand_at (IsShown (some_valid (map P.meaning c.args.propagators.now))) P.stands P.looked c.args.propagators.now c.args.place c.propagate.new.self c.args.trail.now c.propagate.new.trail c.requires.place (returns-clause-grows g c) c.requires.stand c.propagate.ensures.stands
