use Rattle.std.proofs.Common.{◌+◌, arith, sym, subst, ◌∙◌}
use Rattle.search_core.specs.inner.Rooms.{StaysOn, Turns, ComesWhen, state_in}
use Rattle.search_core.proofs.SeekLaws.{led_on, turned_goes, turned_stops, limit_stops, answer_below, next_below}
use Rattle.search_core.proofs.seek.seek.Goals as goal

pub returns-in-Err-clause-program : goal.returns-in-Err-clause-program
returns-in-Err-clause-program g c = c.turn.ensures.program ∙ c.seek.invariant.program

pub returns-in-Err-clause-stop : goal.returns-in-Err-clause-stop
returns-in-Err-clause-stop g c s h =
    turned_stops c.args.limit c.args.room.now c.seek.room c.turn.new.room c.args.conflicts.now c.seek.conflicts c.in-Err.stop s c.seek.invariant.program c.seek.invariant.led c.seek.invariant.goes_on.is_room.search.told.unclaimed
    c.in-Err.ensures.full h

pub returns-in-Ok-Some-clause-goes : goal.returns-in-Ok-Some-clause-goes
returns-in-Ok-Some-clause-goes g c =
    turned_goes c.args.room.now c.seek.room c.turn.new.room c.args.conflicts.now c.seek.conflicts c.in-Ok-Some.event c.seek.invariant.program c.seek.invariant.led
    (subst (Turns c.seek.room c.turn.new.room) c.in-Ok-Some.field-0-is c.in-Ok-Some.ensures.turns)

pub returns-in-Ok-Some-clause-below : goal.returns-in-Ok-Some-clause-below
returns-in-Ok-Some-clause-below g c answer h =
    answer_below c.in-Ok-Some.event answer c.seek.room.closed c.seek.conflicts c.args.limit
    (subst (λ found. ComesWhen found c.seek.room.closed) c.in-Ok-Some.field-0-is c.in-Ok-Some.ensures.comes) c.seek.invariant.below h

pub returns-then-is_at_limit-clause-stop : goal.returns-then-is_at_limit-clause-stop
returns-then-is_at_limit-clause-stop g c s h =
    let P = g.P.Propagator in
    let at = c.is_at_limit.ensures.over c.if-is_at_limit.true in
    let on = subst (StaysOn P.meaning P.stands P.looked c.turn.new.room) c.in-Ok-None.field-0-is c.in-Ok-None.ensures.stays_on in
    limit_stops c.args.limit c.args.room.now c.turn.new.room c.args.conflicts.now (c.seek.conflicts + 1) s
    (led_on c.args.room.now.ground c.seek.room.ground (state_in c.args.room.now) (state_in c.seek.room) (state_in c.turn.new.room) c.args.conflicts.now c.seek.conflicts c.seek.invariant.led c.seek.invariant.program
    (subst (Turns c.seek.room c.turn.new.room) c.in-Ok-None.field-0-is c.in-Ok-None.ensures.turns))
    on.is_room.search.told.unclaimed at.0 (sym on.is_room.closed ∙ at.1) h

pub seek-preserved : goal.seek-preserved
seek-preserved g c =
    let P = g.P.Propagator in
    record {
      program = c.turn.ensures.program ∙ c.seek.invariant.program;
      goes_on = subst (StaysOn P.meaning P.stands P.looked c.turn.new.room) c.in-Ok-None.field-0-is c.in-Ok-None.ensures.stays_on;
      led = led_on c.args.room.now.ground c.seek.room.ground (state_in c.args.room.now) (state_in c.seek.room) (state_in c.turn.new.room) c.args.conflicts.now c.seek.conflicts c.seek.invariant.led c.seek.invariant.program
          (subst (Turns c.seek.room c.turn.new.room) c.in-Ok-None.field-0-is c.in-Ok-None.ensures.turns);
      within = let under = c.seek.invariant.below (subst (λ found. ComesWhen found c.seek.room.closed) c.in-Ok-None.field-0-is c.in-Ok-None.ensures.comes) in omega (arith, under);
      below = λ closed. next_below c.seek.conflicts c.args.limit (c.seek.invariant.below (subst (λ found. ComesWhen found c.seek.room.closed) c.in-Ok-None.field-0-is c.in-Ok-None.ensures.comes))
          (c.is_at_limit.ensures.under c.if-is_at_limit.false closed);
    }
