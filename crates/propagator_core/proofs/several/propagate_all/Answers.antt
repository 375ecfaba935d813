use Rattle.std.proofs.Common.{map, ◌∙◌, rules}
use Rattle.propagator_core.specs.Shown.{IsShown}
use Rattle.propagator_core.specs.Several.{some_valid}
use Rattle.propagator_core.proofs.SeveralLaws.{fit_on, grows_turn, one_more_done, none_done, count_of}
use Rattle.propagator_core.proofs.several.propagate_all.Goals as goal

pub take_turn-requires-clause-fit : goal.take_turn-requires-clause-fit
take_turn-requires-clause-fit g c =
    let f = g.P.Propagator.meaning in
    let ms = map f c.args.all.now in
    fit_on (IsShown (some_valid ms)) ms (map f c.turns.all) c.args.trail.now c.turns.trail c.turns.invariant.grows c.turns.invariant.meanings c.requires.fit

pub returns-in-Err-clause-grows : goal.returns-in-Err-clause-grows
returns-in-Err-clause-grows g c =
    let f = g.P.Propagator.meaning in
    grows_turn (map f c.args.all.now) (map f c.turns.all) c.args.trail.now c.turns.trail c.take_turn.new.trail c.turns.invariant.grows c.turns.invariant.meanings c.take_turn.ensures.grows

pub returns-in-Ok-Conflict-clause-grows : goal.returns-in-Ok-Conflict-clause-grows
returns-in-Ok-Conflict-clause-grows g c =
    let f = g.P.Propagator.meaning in
    grows_turn (map f c.args.all.now) (map f c.turns.all) c.args.trail.now c.turns.trail c.take_turn.new.trail c.turns.invariant.grows c.turns.invariant.meanings c.take_turn.ensures.grows

pub turns-preserved-in-Ok-Grown : goal.turns-preserved-in-Ok-Grown
turns-preserved-in-Ok-Grown g c =
    let f = g.P.Propagator.meaning in
    let ms = map f c.args.all.now in
    record {
      at = search rules;
      meanings = c.take_turn.ensures.meanings ∙ c.turns.invariant.meanings;
      stand = c.take_turn.ensures.stand;
      grows = grows_turn ms (map f c.turns.all) c.args.trail.now c.turns.trail c.take_turn.new.trail c.turns.invariant.grows c.turns.invariant.meanings c.take_turn.ensures.grows;
      done = none_done ms c.take_turn.new.trail;
    }

pub turns-preserved : goal.turns-preserved
turns-preserved g c =
    let f = g.P.Propagator.meaning in
    let ms = map f c.args.all.now in
    record {
      at = let now = count_of f c.turns.all c.take_turn.new.all c.take_turn.ensures.meanings in search (rules, now);
      meanings = c.take_turn.ensures.meanings ∙ c.turns.invariant.meanings;
      stand = c.take_turn.ensures.stand;
      grows = grows_turn ms (map f c.turns.all) c.args.trail.now c.turns.trail c.take_turn.new.trail c.turns.invariant.grows c.turns.invariant.meanings c.take_turn.ensures.grows;
      done = one_more_done ms (map f c.turns.all) c.turns.at c.turns.trail c.take_turn.new.trail c.turns.invariant.meanings c.turns.invariant.done (search rules);
    }
