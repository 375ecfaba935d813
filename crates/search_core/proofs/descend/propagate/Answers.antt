use Rattle.std.proofs.Common.{map, length, ap, sym, subst, ◌∙◌, arith}
use Rattle.std.proofs.lemmas.List.{with_items_is}
use Rattle.trail.specs.Growth.{Grows}
use Rattle.trail.proofs.GrowthLaws.{grows_length}
use Rattle.derivation_meaning.specs.State.{holds_empty}
use Rattle.propagator_core.proofs.SeveralLaws.{count_of}
use Rattle.propagation.specs.Waking.{AreWakes}
use Rattle.founded_propagation.specs.Founding.{IsCausedWith}
use Rattle.learning.specs.Known.{state_of}
use Rattle.search_core.proofs.SearchLaws.{search_grown, fits_program, supports_program}
use Rattle.search_core.proofs.RoomLaws.{same_search, same_stand}
use Rattle.search_core.proofs.descend.propagate.Goals as goal

pub settle_founded-requires-clause-wakes : goal.settle_founded-requires-clause-wakes
settle_founded-requires-clause-wakes g c =
    let P = g.P.Propagator in
    subst (λ xs. AreWakes c.args.room.now.wakes (map P.meaning xs)) (sym c.deref_mut.ensures.value) c.requires.room.search.is_set.wakes

pub settle_founded-requires-clause-fits : goal.settle_founded-requires-clause-fits
settle_founded-requires-clause-fits g c =
    let r = c.args.room.now in
    fits_program r.ground r.loops r.trail.shape c.requires.room.loops c.requires.room.search.explained.shape

pub settle_founded-requires-clause-supports : goal.settle_founded-requires-clause-supports
settle_founded-requires-clause-supports g c =
    let r = c.args.room.now in
    supports_program r.ground r.loops r.store.held c.requires.room.loops c.requires.room.search.held.inputs

pub returns-clause-room : goal.returns-clause-room
returns-clause-room g c =
    let P = g.P.Propagator in
    let r = c.args.room.now in
    let xs = c.settle_founded.new.propagators in
    let same = ap (map P.meaning) c.deref_mut.ensures.value in
    let means = c.settle_founded.ensures.meanings ∙ same in
    let items = with_items_is r.propagators xs (c.settle_founded.auto.propagators ∙ c.deref_mut.ensures.len) in
    record {
      search =
          same_search P.meaning r.ground r.notes c.settle_founded.new.store c.settle_founded.new.trail r.wakes xs _ items
          (search_grown r.ground r.notes r.store c.settle_founded.new.store r.trail c.settle_founded.new.trail (map P.meaning r.propagators.items) (map P.meaning xs) r.wakes r.loops c.requires.room.search c.requires.room.loops
          (subst (λ ms. Grows (IsCausedWith r.store.held ms r.loops) r.trail c.settle_founded.new.trail) same c.settle_founded.ensures.grows) c.settle_founded.ensures.held means c.settle_founded.ensures.looked);
      stand = same_stand P.stands P.looked xs _ c.settle_founded.new.trail items c.settle_founded.ensures.stand;
      count = c.settle_founded.ensures.count ∙ c.requires.room.count ∙ sym (count_of P.meaning r.propagators.items xs means) ∙ ap length (sym items);
      closed = c.requires.room.closed ∙ ap (λ hs. holds_empty (state_of hs r.notes)) (sym c.settle_founded.ensures.held);
      loops = c.settle_founded.ensures.loops ∙ c.requires.room.loops;
    }

pub returns-clause-longer : goal.returns-clause-longer
returns-clause-longer g c =
    let P = g.P.Propagator in
    let r = c.args.room.now in
    let long = grows_length (IsCausedWith r.store.held (map P.meaning c.deref_mut.result.now) r.loops) r.trail c.settle_founded.new.trail c.settle_founded.ensures.grows in
    omega (arith, long)
