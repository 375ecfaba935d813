use Rattle.std.proofs.Common.{map, length, refl, ap, sym, subst, ◌∙◌}
use Rattle.std.proofs.lemmas.List.{with_items_is}
use Rattle.nogood_store.specs.Holding.{IsFront, seen_of, AreBelow}
use Rattle.propagator_core.proofs.SeveralLaws.{count_of}
use Rattle.search_laws.proofs.HoldLaws.{empty_test, below_up}
use Rattle.search_core.proofs.TurnLaws.{back_low, next_learned, search_learned, rest_learned}
use Rattle.search_core.proofs.RoomLaws.{same_search, same_stand, same_rest, held_then, closed_then, some_then}
use Rattle.search_core.proofs.overcome.hold.Goals as goal

pub go_back-requires-clause-level : goal.go_back-requires-clause-level
go_back-requires-clause-level g c = back_low c.args.room.now.trail c.args.lesson.learned c.args.level c.trails_are_assignments.ensures.assignment c.requires.asserting c.requires.lowest c.requires.level

pub add-requires : goal.add-requires
add-requires g c =
    let r = c.args.room.now in
    let learned = c.args.lesson.learned in
    subst (AreBelow c.args.lesson.id) (sym c.go_back.ensures.held)
    (below_up r.store.held r.notes.next c.args.lesson.id (next_learned r.ground r.notes r.store.held learned c.args.lesson.id c.requires.lesson) c.requires.room.search.held.numbered.below)

pub returns-clause-goes_on : goal.returns-clause-goes_on
returns-clause-goes_on g c =
    let P = g.P.Propagator in
    let r = c.args.room.now in
    let s = c.requires.room.search in
    let is = c.trails_are_assignments.ensures.assignment in
    let ms = map P.meaning r.propagators.items in
    let xs = c.go_back.new.propagators in
    let t = c.go_back.new.trail in
    let learned = c.args.lesson.learned in
    let means = c.go_back.ensures.meanings ∙ ap (map P.meaning) c.deref_mut.ensures.value in
    let items = with_items_is r.propagators xs (c.go_back.auto.propagators ∙ c.deref_mut.ensures.len) in
    let more = held_then r.store.held c.go_back.new.store.held c.add.new.self.held c.args.lesson.id learned.nogood learned.nogood c.in_ok-add.ensures.ok c.go_back.ensures.held refl in
    let looked = subst (λ seen. IsFront seen (seen_of t.entries)) (sym c.add.ensures.looked) c.go_back.ensures.looked in
    let empty = empty_test c.is_empty-room.result c.lits.result.now learned.nogood c.is_empty-room.ensures c.lits.ensures.value in
    record {
      is_room = record {
        search =
            same_search P.meaning r.ground c.take.new.self c.add.new.self t r.wakes xs _ items
            (search_learned r.ground r.notes c.take.new.self r.store c.add.new.self r.trail t ms (map P.meaning xs) r.wakes learned c.args.lesson.id c.args.level s is c.requires.lesson c.requires.named c.requires.asserting c.requires.lowest
            c.requires.level c.go_back.ensures.trail more means looked c.take.ensures);
        stand = same_stand P.stands P.looked xs _ t items c.go_back.ensures.stand;
        count = c.go_back.ensures.count ∙ c.requires.room.count ∙ sym (count_of P.meaning r.propagators.items xs means) ∙ ap length (sym items);
        closed = closed_then r.store.held c.add.new.self.held r.notes c.take.new.self c.args.lesson.id learned.nogood r.closed c.is_empty-room.result c.requires.room.closed c.requires.open more empty;
        loops = c.requires.room.loops;
      };
      rested = λ open_now.
          same_rest P.meaning c.go_back.new.awake.places xs _ t items
          (rest_learned r.ground r.notes r.store r.trail t ms (map P.meaning xs) r.wakes c.go_back.new.awake.places learned c.args.level s is c.requires.asserting (some_then c.is_empty-room.result learned.nogood empty open_now) c.requires.level
          c.go_back.ensures.trail means);
    }
