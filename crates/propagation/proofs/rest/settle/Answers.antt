use Rattle.std.proofs.Common.{map, ◌∙◌}
use Rattle.nogood_store.specs.Propagation.{IsForced}
use Rattle.propagator_core.specs.Shown.{IsShown}
use Rattle.propagator_core.specs.Several.{some_valid}
use Rattle.propagator_core.proofs.SeveralLaws.{fit_on}
use Rattle.propagation.specs.Causes.{IsCaused}
use Rattle.propagation.proofs.SettleLaws.{rows_on, named_on, looked_on, all_stand_on, forced_caused, shown_caused, finds_calm, gone_longer, gone_others}
use Rattle.propagation.proofs.rest.settle.Goals as goal

pub propagate_units-requires-clause-rows : goal.propagate_units-requires-clause-rows
propagate_units-requires-clause-rows g c =
    let ms = map g.P.Propagator.meaning c.args.propagators.now in
    rows_on (IsCaused c.args.store.now.held ms) c.args.wakes.now c.args.trail.now c.settle.trail c.args.awake.now.count c.settle.awake.count c.settle.invariant.grows c.settle.invariant.count c.requires.rows

pub propagate_units-requires-clause-named : goal.propagate_units-requires-clause-named
propagate_units-requires-clause-named g c =
    let ms = map g.P.Propagator.meaning c.args.propagators.now in
    named_on (IsCaused c.args.store.now.held ms) c.args.store.now.held c.settle.store.held c.args.trail.now c.settle.trail c.settle.invariant.grows c.settle.invariant.held c.requires.named

pub returns-in-Err-clause-grows : goal.returns-in-Err-clause-grows
returns-in-Err-clause-grows g c =
    let ms = map g.P.Propagator.meaning c.args.propagators.now in
    forced_caused c.args.store.now.held c.settle.store.held ms c.args.trail.now c.settle.trail c.propagate_units.new.trail c.settle.invariant.grows c.settle.invariant.held c.propagate_units.ensures.grows

pub returns-in-Err-clause-stand : goal.returns-in-Err-clause-stand
returns-in-Err-clause-stand g c =
    let P = g.P.Propagator in
    all_stand_on (IsForced c.settle.store.held) P.stands P.looked c.settle.propagators c.settle.trail c.propagate_units.new.trail c.propagate_units.ensures.grows c.settle.invariant.stand

pub returns-in-Ok-Some-clause-grows : goal.returns-in-Ok-Some-clause-grows
returns-in-Ok-Some-clause-grows g c =
    let ms = map g.P.Propagator.meaning c.args.propagators.now in
    forced_caused c.args.store.now.held c.settle.store.held ms c.args.trail.now c.settle.trail c.propagate_units.new.trail c.settle.invariant.grows c.settle.invariant.held c.propagate_units.ensures.grows

pub returns-in-Ok-Some-clause-stand : goal.returns-in-Ok-Some-clause-stand
returns-in-Ok-Some-clause-stand g c =
    let P = g.P.Propagator in
    all_stand_on (IsForced c.settle.store.held) P.stands P.looked c.settle.propagators c.settle.trail c.propagate_units.new.trail c.propagate_units.ensures.grows c.settle.invariant.stand

pub call_awake-requires-clause-rows : goal.call_awake-requires-clause-rows
call_awake-requires-clause-rows g c =
    let ms = map g.P.Propagator.meaning c.args.propagators.now in
    let grown = forced_caused c.args.store.now.held c.settle.store.held ms c.args.trail.now c.settle.trail c.propagate_units.new.trail c.settle.invariant.grows c.settle.invariant.held c.propagate_units.ensures.grows in
    rows_on (IsCaused c.args.store.now.held ms) c.args.wakes.now c.args.trail.now c.propagate_units.new.trail c.args.awake.now.count c.propagate_units.new.awake.count grown (c.propagate_units.ensures.count ∙ c.settle.invariant.count) c.requires.rows

pub call_awake-requires-clause-fit : goal.call_awake-requires-clause-fit
call_awake-requires-clause-fit g c =
    let f = g.P.Propagator.meaning in
    let ms = map f c.args.propagators.now in
    let grown = forced_caused c.args.store.now.held c.settle.store.held ms c.args.trail.now c.settle.trail c.propagate_units.new.trail c.settle.invariant.grows c.settle.invariant.held c.propagate_units.ensures.grows in
    fit_on (IsCaused c.args.store.now.held ms) ms (map f c.settle.propagators) c.args.trail.now c.propagate_units.new.trail grown c.settle.invariant.meanings c.requires.fit

pub call_awake-requires-clause-stand : goal.call_awake-requires-clause-stand
call_awake-requires-clause-stand g c =
    let P = g.P.Propagator in
    all_stand_on (IsForced c.settle.store.held) P.stands P.looked c.settle.propagators c.settle.trail c.propagate_units.new.trail c.propagate_units.ensures.grows c.settle.invariant.stand

pub returns-in-Err-call_awake-clause-grows : goal.returns-in-Err-call_awake-clause-grows
returns-in-Err-call_awake-clause-grows g c =
    let f = g.P.Propagator.meaning in
    let ms = map f c.args.propagators.now in
    let grown = forced_caused c.args.store.now.held c.settle.store.held ms c.args.trail.now c.settle.trail c.propagate_units.new.trail c.settle.invariant.grows c.settle.invariant.held c.propagate_units.ensures.grows in
    shown_caused c.args.store.now.held ms (map f c.settle.propagators) c.args.trail.now c.propagate_units.new.trail c.call_awake.new.trail grown c.settle.invariant.meanings c.call_awake.ensures.grows

pub returns-in-Err-call_awake-clause-looked : goal.returns-in-Err-call_awake-clause-looked
returns-in-Err-call_awake-clause-looked g c =
    let f = g.P.Propagator.meaning in
    looked_on (IsShown (some_valid (map f c.settle.propagators))) c.propagate_units.new.store.looked c.propagate_units.new.trail c.call_awake.new.trail c.call_awake.ensures.grows c.propagate_units.ensures.looked

pub returns-in-Ok-Done-clause-grows : goal.returns-in-Ok-Done-clause-grows
returns-in-Ok-Done-clause-grows g c =
    let f = g.P.Propagator.meaning in
    let ms = map f c.args.propagators.now in
    let grown = forced_caused c.args.store.now.held c.settle.store.held ms c.args.trail.now c.settle.trail c.propagate_units.new.trail c.settle.invariant.grows c.settle.invariant.held c.propagate_units.ensures.grows in
    shown_caused c.args.store.now.held ms (map f c.settle.propagators) c.args.trail.now c.propagate_units.new.trail c.call_awake.new.trail grown c.settle.invariant.meanings c.call_awake.ensures.grows

pub returns-in-Ok-Done-clause-found : goal.returns-in-Ok-Done-clause-found
returns-in-Ok-Done-clause-found g c =
    let f = g.P.Propagator.meaning in
    let ms = map f c.args.propagators.now in
    finds_calm c.args.store.now.held c.settle.store.held ms (map f c.settle.propagators) c.args.wakes.now c.settle.trail c.propagate_units.new.trail c.call_awake.new.trail c.settle.awake.places c.propagate_units.new.awake.places c.call_awake.new.awake.places
    c.in-Ok-Done.field-0 c.in-Ok-None.field-0 c.settle.invariant.held c.settle.invariant.meanings c.requires.wakes c.requires.steady c.settle.invariant.others c.in-Ok-None.field-0-is c.in-Ok-None.ensures.none c.in-Ok-None.ensures.others c.in-Ok-Done.field-0-is c.in-Ok-Done.ensures.runs

pub returns-in-Ok-Stuck-clause-grows : goal.returns-in-Ok-Stuck-clause-grows
returns-in-Ok-Stuck-clause-grows g c =
    let f = g.P.Propagator.meaning in
    let ms = map f c.args.propagators.now in
    let grown = forced_caused c.args.store.now.held c.settle.store.held ms c.args.trail.now c.settle.trail c.propagate_units.new.trail c.settle.invariant.grows c.settle.invariant.held c.propagate_units.ensures.grows in
    shown_caused c.args.store.now.held ms (map f c.settle.propagators) c.args.trail.now c.propagate_units.new.trail c.call_awake.new.trail grown c.settle.invariant.meanings c.call_awake.ensures.grows

pub returns-in-Ok-Stuck-clause-looked : goal.returns-in-Ok-Stuck-clause-looked
returns-in-Ok-Stuck-clause-looked g c =
    let f = g.P.Propagator.meaning in
    looked_on (IsShown (some_valid (map f c.settle.propagators))) c.propagate_units.new.store.looked c.propagate_units.new.trail c.call_awake.new.trail c.call_awake.ensures.grows c.propagate_units.ensures.looked

pub settle-smaller : goal.settle-smaller
settle-smaller g c =
    let f = g.P.Propagator.meaning in
    gone_longer (IsForced c.settle.store.held) (map f c.settle.propagators) c.args.wakes.now c.settle.trail c.propagate_units.new.trail c.call_awake.new.trail c.propagate_units.new.awake.places c.call_awake.new.awake.places c.in-Ok-Gone.field-0 c.propagate_units.ensures.grows c.in-Ok-Gone.field-0-is c.in-Ok-Gone.ensures.runs

pub settle-preserved : goal.settle-preserved
settle-preserved g c =
    let f = g.P.Propagator.meaning in
    let ms = map f c.args.propagators.now in
    let grown = forced_caused c.args.store.now.held c.settle.store.held ms c.args.trail.now c.settle.trail c.propagate_units.new.trail c.settle.invariant.grows c.settle.invariant.held c.propagate_units.ensures.grows in
    record {
      grows = shown_caused c.args.store.now.held ms (map f c.settle.propagators) c.args.trail.now c.propagate_units.new.trail c.call_awake.new.trail grown c.settle.invariant.meanings c.call_awake.ensures.grows;
      meanings = c.call_awake.ensures.meanings ∙ c.settle.invariant.meanings;
      stand = c.call_awake.ensures.stand;
      count = c.call_awake.ensures.count ∙ c.propagate_units.ensures.count ∙ c.settle.invariant.count;
      held = c.propagate_units.ensures.held ∙ c.settle.invariant.held;
      looked = looked_on (IsShown (some_valid (map f c.settle.propagators))) c.propagate_units.new.store.looked c.propagate_units.new.trail c.call_awake.new.trail c.call_awake.ensures.grows c.propagate_units.ensures.looked;
      others = gone_others ms (map f c.settle.propagators) c.args.wakes.now c.settle.trail c.propagate_units.new.trail c.call_awake.new.trail c.settle.awake.places c.propagate_units.new.awake.places c.call_awake.new.awake.places c.in-Ok-Gone.field-0 c.in-Ok-None.field-0
          c.settle.invariant.meanings c.requires.wakes c.requires.steady c.settle.invariant.others c.in-Ok-None.field-0-is c.in-Ok-None.ensures.others c.in-Ok-Gone.field-0-is c.in-Ok-Gone.ensures.runs;
    }
