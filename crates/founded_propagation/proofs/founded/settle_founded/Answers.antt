use Rattle.std.proofs.Common.{map, ◌∙◌, arith}
use Rattle.propagator_core.specs.Shown.{IsShown}
use Rattle.propagator_core.proofs.SeveralLaws.{fit_on}
use Rattle.propagation.specs.Causes.{IsCaused}
use Rattle.founded_propagation.specs.Founding.{IsCausedWith}
use Rattle.founded_propagation.specs.inner.Closing.{by_loop}
use Rattle.propagation.proofs.SettleLaws.{rows_on, named_on, looked_on, all_stand_on}
use Rattle.founded_propagation.proofs.FoundedLaws.{settled_grows, looped_grows, fits_on, wakes_on, supported_on, grown_others, grown_longer}
use Rattle.founded_propagation.proofs.founded.settle_founded.Goals as goal

pub settle-requires-clause-named : goal.settle-requires-clause-named
settle-requires-clause-named g c =
    let ms = map g.P.Propagator.meaning c.args.propagators.now in
    named_on (IsCausedWith c.args.store.now.held ms c.args.loops.now) c.args.store.now.held c.settle.store.held c.args.trail.now c.settle.trail c.settle.invariant.grows c.settle.invariant.held c.requires.named

pub settle-requires-clause-rows : goal.settle-requires-clause-rows
settle-requires-clause-rows g c =
    let ms = map g.P.Propagator.meaning c.args.propagators.now in
    rows_on (IsCausedWith c.args.store.now.held ms c.args.loops.now) c.args.wakes.now c.args.trail.now c.settle.trail c.args.awake.now.count c.settle.awake.count c.settle.invariant.grows c.settle.invariant.count c.requires.rows

pub settle-requires-clause-wakes : goal.settle-requires-clause-wakes
settle-requires-clause-wakes g c =
    let ms = map g.P.Propagator.meaning c.args.propagators.now in
    let ns = map g.P.Propagator.meaning c.settle.propagators in
    wakes_on c.args.wakes.now ms ns c.settle.invariant.meanings c.requires.wakes

pub settle-requires-clause-fit : goal.settle-requires-clause-fit
settle-requires-clause-fit g c =
    let ms = map g.P.Propagator.meaning c.args.propagators.now in
    let ns = map g.P.Propagator.meaning c.settle.propagators in
    fit_on (IsCausedWith c.args.store.now.held ms c.args.loops.now) ms ns c.args.trail.now c.settle.trail c.settle.invariant.grows c.settle.invariant.meanings c.requires.fit

pub returns-in-Err-clause-grows : goal.returns-in-Err-clause-grows
returns-in-Err-clause-grows g c =
    let ms = map g.P.Propagator.meaning c.args.propagators.now in
    let ns = map g.P.Propagator.meaning c.settle.propagators in
    let grown = settled_grows c.args.store.now.held c.settle.store.held ms ns c.args.loops.now c.args.trail.now c.settle.trail c.settle-in-settle.new.trail c.settle.invariant.grows c.settle.invariant.held c.settle.invariant.meanings c.settle-in-settle.ensures.grows in
    grown

pub returns-in-Ok-Conflict-clause-grows : goal.returns-in-Ok-Conflict-clause-grows
returns-in-Ok-Conflict-clause-grows g c =
    let ms = map g.P.Propagator.meaning c.args.propagators.now in
    let ns = map g.P.Propagator.meaning c.settle.propagators in
    let grown = settled_grows c.args.store.now.held c.settle.store.held ms ns c.args.loops.now c.args.trail.now c.settle.trail c.settle-in-settle.new.trail c.settle.invariant.grows c.settle.invariant.held c.settle.invariant.meanings c.settle-in-settle.ensures.grows in
    grown

pub close_loop-requires-clause-fits : goal.close_loop-requires-clause-fits
close_loop-requires-clause-fits g c =
    let ms = map g.P.Propagator.meaning c.args.propagators.now in
    let ns = map g.P.Propagator.meaning c.settle.propagators in
    let grown = settled_grows c.args.store.now.held c.settle.store.held ms ns c.args.loops.now c.args.trail.now c.settle.trail c.settle-in-settle.new.trail c.settle.invariant.grows c.settle.invariant.held c.settle.invariant.meanings c.settle-in-settle.ensures.grows in
    fits_on (IsCausedWith c.args.store.now.held ms c.args.loops.now) c.args.loops.now c.settle.loops c.args.trail.now c.settle-in-settle.new.trail grown c.settle.invariant.loops c.requires.fits

pub close_loop-requires-clause-supported : goal.close_loop-requires-clause-supported
close_loop-requires-clause-supported g c =
    let ms = map g.P.Propagator.meaning c.args.propagators.now in
    let ns = map g.P.Propagator.meaning c.settle.propagators in
    let grown = settled_grows c.args.store.now.held c.settle.store.held ms ns c.args.loops.now c.args.trail.now c.settle.trail c.settle-in-settle.new.trail c.settle.invariant.grows c.settle.invariant.held c.settle.invariant.meanings c.settle-in-settle.ensures.grows in
    supported_on (IsCausedWith c.args.store.now.held ms c.args.loops.now) c.args.store.now.held c.settle.store.held c.args.loops.now c.settle.loops ns c.args.trail.now c.settle-in-settle.new.trail c.settle-in-settle.new.awake.places c.in-Ok-Calm.field-0 grown c.settle.invariant.held c.settle.invariant.loops c.requires.fits c.requires.supports c.in-Ok-Calm.field-0-is c.in-Ok-Calm.ensures.found

pub returns-in-Err-close_loop-clause-grows : goal.returns-in-Err-close_loop-clause-grows
returns-in-Err-close_loop-clause-grows g c =
    let ms = map g.P.Propagator.meaning c.args.propagators.now in
    let ns = map g.P.Propagator.meaning c.settle.propagators in
    let grown = settled_grows c.args.store.now.held c.settle.store.held ms ns c.args.loops.now c.args.trail.now c.settle.trail c.settle-in-settle.new.trail c.settle.invariant.grows c.settle.invariant.held c.settle.invariant.meanings c.settle-in-settle.ensures.grows in
    looped_grows c.args.store.now.held ms c.args.loops.now c.settle.loops c.args.trail.now c.settle-in-settle.new.trail c.close_loop.new.trail grown c.settle.invariant.loops c.close_loop.ensures.grows

pub returns-in-Err-close_loop-clause-stand : goal.returns-in-Err-close_loop-clause-stand
returns-in-Err-close_loop-clause-stand g c =
    let P = g.P.Propagator in
    all_stand_on (IsShown (by_loop c.settle.loops)) P.stands P.looked c.settle-in-settle.new.propagators c.settle-in-settle.new.trail c.close_loop.new.trail c.close_loop.ensures.grows c.settle-in-settle.ensures.stand

pub returns-in-Err-close_loop-clause-looked : goal.returns-in-Err-close_loop-clause-looked
returns-in-Err-close_loop-clause-looked g c =
    looked_on (IsShown (by_loop c.settle.loops)) c.settle-in-settle.new.store.looked c.settle-in-settle.new.trail c.close_loop.new.trail c.close_loop.ensures.grows c.settle-in-settle.ensures.looked

pub returns-in-Ok-Free-clause-grows : goal.returns-in-Ok-Free-clause-grows
returns-in-Ok-Free-clause-grows g c =
    let ms = map g.P.Propagator.meaning c.args.propagators.now in
    let ns = map g.P.Propagator.meaning c.settle.propagators in
    let grown = settled_grows c.args.store.now.held c.settle.store.held ms ns c.args.loops.now c.args.trail.now c.settle.trail c.settle-in-settle.new.trail c.settle.invariant.grows c.settle.invariant.held c.settle.invariant.meanings c.settle-in-settle.ensures.grows in
    looped_grows c.args.store.now.held ms c.args.loops.now c.settle.loops c.args.trail.now c.settle-in-settle.new.trail c.close_loop.new.trail grown c.settle.invariant.loops c.close_loop.ensures.grows

pub returns-in-Ok-Stuck-clause-grows : goal.returns-in-Ok-Stuck-clause-grows
returns-in-Ok-Stuck-clause-grows g c =
    let ms = map g.P.Propagator.meaning c.args.propagators.now in
    let ns = map g.P.Propagator.meaning c.settle.propagators in
    let grown = settled_grows c.args.store.now.held c.settle.store.held ms ns c.args.loops.now c.args.trail.now c.settle.trail c.settle-in-settle.new.trail c.settle.invariant.grows c.settle.invariant.held c.settle.invariant.meanings c.settle-in-settle.ensures.grows in
    looped_grows c.args.store.now.held ms c.args.loops.now c.settle.loops c.args.trail.now c.settle-in-settle.new.trail c.close_loop.new.trail grown c.settle.invariant.loops c.close_loop.ensures.grows

pub returns-in-Ok-Stuck-clause-stand : goal.returns-in-Ok-Stuck-clause-stand
returns-in-Ok-Stuck-clause-stand g c =
    let P = g.P.Propagator in
    all_stand_on (IsShown (by_loop c.settle.loops)) P.stands P.looked c.settle-in-settle.new.propagators c.settle-in-settle.new.trail c.close_loop.new.trail c.close_loop.ensures.grows c.settle-in-settle.ensures.stand

pub returns-in-Ok-Stuck-clause-looked : goal.returns-in-Ok-Stuck-clause-looked
returns-in-Ok-Stuck-clause-looked g c =
    looked_on (IsShown (by_loop c.settle.loops)) c.settle-in-settle.new.store.looked c.settle-in-settle.new.trail c.close_loop.new.trail c.close_loop.ensures.grows c.settle-in-settle.ensures.looked

pub prove-unreachable-requires : goal.prove-unreachable-requires
prove-unreachable-requires g c =
    let ns = map g.P.Propagator.meaning c.settle.propagators in
    let longer = grown_longer (IsCaused c.settle.store.held ns) c.settle.loops c.settle.trail c.settle-in-settle.new.trail c.close_loop.new.trail c.in-Ok-Grown.field-0 c.settle-in-settle.ensures.grows c.in-Ok-Grown.field-0-is c.in-Ok-Grown.ensures.closes in
    let low = c.length-before.ensures.value in
    let high = c.length-after.ensures.value in
    let never = c.if-prove.true in
    omega (arith, longer, low, high, never)

pub settle-preserved : goal.settle-preserved
settle-preserved g c =
    let ms = map g.P.Propagator.meaning c.args.propagators.now in
    let ns = map g.P.Propagator.meaning c.settle.propagators in
    let grown = settled_grows c.args.store.now.held c.settle.store.held ms ns c.args.loops.now c.args.trail.now c.settle.trail c.settle-in-settle.new.trail c.settle.invariant.grows c.settle.invariant.held c.settle.invariant.meanings c.settle-in-settle.ensures.grows in
    let P = g.P.Propagator in
    record {
      grows = looped_grows c.args.store.now.held ms c.args.loops.now c.settle.loops c.args.trail.now c.settle-in-settle.new.trail c.close_loop.new.trail grown c.settle.invariant.loops c.close_loop.ensures.grows;
      loops = c.close_loop.ensures.same ∙ c.settle.invariant.loops;
      meanings = c.settle-in-settle.ensures.meanings ∙ c.settle.invariant.meanings;
      stand = all_stand_on (IsShown (by_loop c.settle.loops)) P.stands P.looked c.settle-in-settle.new.propagators c.settle-in-settle.new.trail c.close_loop.new.trail c.close_loop.ensures.grows c.settle-in-settle.ensures.stand;
      count = c.settle-in-settle.ensures.count ∙ c.settle.invariant.count;
      held = c.settle-in-settle.ensures.held ∙ c.settle.invariant.held;
      looked = looked_on (IsShown (by_loop c.settle.loops)) c.settle-in-settle.new.store.looked c.settle-in-settle.new.trail c.close_loop.new.trail c.close_loop.ensures.grows c.settle-in-settle.ensures.looked;
      others = grown_others c.settle.store.held ms ns c.settle.loops c.args.wakes.now c.settle-in-settle.new.trail c.close_loop.new.trail c.settle-in-settle.new.awake.places c.in-Ok-Calm.field-0 c.in-Ok-Grown.field-0 c.settle.invariant.meanings c.requires.wakes c.requires.steady c.in-Ok-Calm.field-0-is c.in-Ok-Calm.ensures.found c.in-Ok-Grown.field-0-is c.in-Ok-Grown.ensures.closes;
    }
