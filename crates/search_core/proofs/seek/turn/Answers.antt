use Rattle.std.proofs.Common.{ap, sym, ◌∙◌}
use Rattle.learning.specs.Known.{Known}
use Rattle.search_core.specs.declared.event.Stop.TheVariants as stop
use Rattle.search_core.specs.inner.Rooms.{state_in}
use Rattle.search_core.proofs.SeekLaws.{err_as}
use Rattle.search_laws.proofs.LineLaws.{lead_none}
use Rattle.search_core.proofs.seek.turn.Goals as goal

pub returns-in-Err-give-clause-full : goal.returns-in-Err-give-clause-full
returns-in-Err-give-clause-full g c e =
    let r = c.args.room.now in
    record {
      state = state_in r;
      lead = lead_none r.ground (state_in r);
      full = ap (λ (k : Known). k.next) (sym c.in-Ok-Total.ensures.keeps.notes) ∙ c.in-Err-give.ensures.full (err_as c.in-Err-give.stop stop.Limit e);
    }
