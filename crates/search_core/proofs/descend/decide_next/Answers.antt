use Rattle.std.proofs.Common.{map, sym, ◌∙◌}
use Rattle.std.proofs.lemmas.List.{length-map}
use Rattle.search_core.proofs.SearchLaws.{search_decided, stand_decided, decided_longer, rest_calm, rows_for}
use Rattle.search_core.proofs.descend.decide_next.Goals as goal

pub decide-requires-clause-rows : goal.decide-requires-clause-rows
decide-requires-clause-rows g c =
    let P = g.P.Propagator in
    let r = c.args.room.now in
    rows_for r.ground (map P.meaning r.propagators.items) r.wakes r.trail.shape r.awake.count c.requires.room.search.explained.shape
    (c.requires.room.count ∙ sym (length-map r.propagators.items P.meaning)) c.requires.room.search.is_set

pub returns-clause-room : goal.returns-clause-room
returns-clause-room g c =
    let P = g.P.Propagator in
    let r = c.args.room.now in
    let lit = c.in-Some.ensures.some in
    record {
      search =
          search_decided r.ground r.notes r.store r.trail c.decide.new.trail (map P.meaning r.propagators.items) r.wakes c.in-Some.lit c.requires.room.search c.trails_are_assignments.ensures.assignment c.requires.calm.0 lit.named lit.undecided
          c.in_ok-decide.ensures.trail;
      stand = stand_decided P.stands P.looked r.propagators.items r.trail c.decide.new.trail c.in-Some.lit lit.named lit.undecided c.in_ok-decide.ensures.trail c.requires.room.stand;
      count = c.decide.ensures.count ∙ c.requires.room.count;
      closed = c.requires.room.closed;
      loops = c.requires.room.loops;
    }

pub returns-clause-went : goal.returns-clause-went
returns-clause-went g c =
    let P = g.P.Propagator in
    let r = c.args.room.now in
    let ms = map P.meaning r.propagators.items in
    let set = c.requires.room.search.is_set in (
      c.in_ok-decide.ensures.others ms set.wakes set.steady (rest_calm r.store.held ms r.awake.places r.trail c.requires.calm.0),
      decided_longer r.trail c.decide.new.trail c.in-Some.lit c.in_ok-decide.ensures.trail,
      c.trails_are_assignments.ensures.few,
    )
