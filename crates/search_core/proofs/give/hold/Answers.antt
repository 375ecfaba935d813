use Rattle.std.proofs.Common.{map, length, ap, sym, subst, ◌∙◌}
use Rattle.std.proofs.lemmas.List.{with_items_is}
use Rattle.ground_model.specs.Answers.{IsAnswerOf}
use Rattle.nogood_store.specs.Holding.{IsFront, seen_of}
use Rattle.derivation_meaning.specs.Lines.{answer_nogood}
use Rattle.propagator_core.proofs.SeveralLaws.{count_of}
use Rattle.search_laws.proofs.EventLaws.{answer_named}
use Rattle.search_laws.proofs.HoldLaws.{empty_test}
use Rattle.search_core.proofs.TurnLaws.{answer_is, gives, gives_as, search_given, rest_given}
use Rattle.search_core.proofs.RoomLaws.{same_search, same_stand, same_rest, held_then, closed_then}
use Rattle.search_core.proofs.give.hold.Goals as goal

pub returns-clause-goes_on : goal.returns-clause-goes_on
returns-clause-goes_on g c =
    let P = g.P.Propagator in
    let r = c.args.room.now in
    let s = c.requires.room.search in
    let is = c.trails_are_assignments.ensures.assignment in
    let total = c.requires.bottom.0 in
    let calm = c.requires.bottom.1 in
    let founded = c.requires.bottom.2 r.ground c.requires.room.loops in
    let ms = map P.meaning r.propagators.items in
    let xs = c.go_back.new.propagators in
    let t = c.go_back.new.trail in
    let said = c.requires.answer in
    let means = c.go_back.ensures.meanings ∙ ap (map P.meaning) c.deref_mut.ensures.value in
    let items = with_items_is r.propagators xs (c.go_back.auto.propagators ∙ c.deref_mut.ensures.len) in
    let model = subst (IsAnswerOf r.ground) (sym said) (answer_is r.ground r.notes r.store r.trail ms r.wakes s is total calm founded) in
    let more = held_then r.store.held c.go_back.new.store.held c.add.new.self.held c.args.id c.args.nogood (answer_nogood r.ground c.args.answer) c.in_ok-add.ensures.ok c.go_back.ensures.held c.requires.nogood in
    let looked = subst (λ seen. IsFront seen (seen_of t.entries)) (sym c.add.ensures.looked) c.go_back.ensures.looked in
    record {
      is_room = record {
        search =
            same_search P.meaning r.ground c.give.new.self c.add.new.self t r.wakes xs _ items
            (search_given r.ground r.notes c.give.new.self r.store c.add.new.self r.trail t ms (map P.meaning xs) r.wakes c.args.id c.args.answer s is total calm founded c.requires.next said (answer_named r.ground c.args.answer model)
            c.go_back.ensures.trail more means looked c.in_ok-give.ensures.ok);
        stand = same_stand P.stands P.looked xs _ t items c.go_back.ensures.stand;
        count = c.go_back.ensures.count ∙ c.requires.room.count ∙ sym (count_of P.meaning r.propagators.items xs means) ∙ ap length (sym items);
        closed = closed_then r.store.held c.add.new.self.held r.notes c.give.new.self c.args.id (answer_nogood r.ground c.args.answer) r.closed c.is_empty-room.result c.requires.room.closed c.requires.open more
            (empty_test c.is_empty-room.result c.lits.result.now (answer_nogood r.ground c.args.answer) c.is_empty-room.ensures (c.lits.ensures.value ∙ c.requires.nogood));
        loops = c.requires.room.loops;
      };
      rested = λ open_now. same_rest P.meaning c.go_back.new.awake.places xs _ t items (rest_given r.store.held ms (map P.meaning xs) c.go_back.new.awake.places r.trail t is s.is_set.steady calm s.calm c.go_back.ensures.trail means);
    }

pub returns-clause-gives : goal.returns-clause-gives
returns-clause-gives g c =
    let P = g.P.Propagator in
    let r = c.args.room.now in
    let more = held_then r.store.held c.go_back.new.store.held c.add.new.self.held c.args.id c.args.nogood (answer_nogood r.ground c.args.answer) c.in_ok-add.ensures.ok c.go_back.ensures.held c.requires.nogood in
    gives_as r.ground r.notes c.give.new.self r.store.held c.add.new.self.held c.args.id c.args.answer more c.in_ok-give.ensures.ok
    (gives r.ground r.notes r.store r.trail (map P.meaning r.propagators.items) r.wakes c.args.id c.args.answer c.requires.room.search c.trails_are_assignments.ensures.assignment c.requires.bottom.0 c.requires.bottom.1 (c.requires.bottom.2 r.ground c.requires.room.loops) c.requires.next c.requires.answer)
