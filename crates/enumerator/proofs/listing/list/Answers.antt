use Rattle.std.proofs.Common.{refl}
use Rattle.enumerator.specs.Endings.{asked}
use Rattle.enumerator.specs.inner.Listing.{IsAsked}
use Rattle.enumerator.proofs.ListLaws.{not_both}
use Rattle.enumerator.proofs.listing.list.Goals as goal

pub finish-requires : goal.finish-requires
finish-requires g c =
    let is : IsAsked (asked c.args.search.now.program c.args.number c.args.limit) c.args.number c.args.limit = record { number_is = refl; limit_is = refl; kind = c.requires.kind } in
    record { own = (c.in-Ended.ensures.turns (asked c.args.search.now.program c.args.number c.args.limit) c.args.number (g.O.Sink.tells c.args.out.now) is c.loop-answers-test.true c.loop-answers.invariant.going).0 }

pub returns-in-Ended-clause-ended : goal.returns-in-Ended-clause-ended
returns-in-Ended-clause-ended g c = λ own.
    let is : IsAsked (asked c.args.search.now.program c.args.number c.args.limit) c.args.number c.args.limit = record { number_is = refl; limit_is = refl; kind = c.requires.kind } in
    c.finish.ensures.ended (asked c.args.search.now.program c.args.number c.args.limit) c.go_on.new.search.conflicts (g.O.Sink.tells c.args.out.now) own
    (c.in-Ended.ensures.turns (asked c.args.search.now.program c.args.number c.args.limit) c.args.number (g.O.Sink.tells c.args.out.now) is c.loop-answers-test.true c.loop-answers.invariant.going).1

pub returns-in-Ended-clause-broken : goal.returns-in-Ended-clause-broken
returns-in-Ended-clause-broken g c = λ broken.
    let is : IsAsked (asked c.args.search.now.program c.args.number c.args.limit) c.args.number c.args.limit = record { number_is = refl; limit_is = refl; kind = c.requires.kind } in
    c.finish.ensures.broken (asked c.args.search.now.program c.args.number c.args.limit) c.go_on.new.search.conflicts (g.O.Sink.tells c.args.out.now) broken
    (c.in-Ended.ensures.turns (asked c.args.search.now.program c.args.number c.args.limit) c.args.number (g.O.Sink.tells c.args.out.now) is c.loop-answers-test.true c.loop-answers.invariant.going).1

pub returns-in-Broke-clause-ended : goal.returns-in-Broke-clause-ended
returns-in-Broke-clause-ended g c = λ own.
    let is : IsAsked (asked c.args.search.now.program c.args.number c.args.limit) c.args.number c.args.limit = record { number_is = refl; limit_is = refl; kind = c.requires.kind } in
    absurd
    (not_both c.in-Broke.ending own (c.in-Broke.ensures.turns (asked c.args.search.now.program c.args.number c.args.limit) c.args.number (g.O.Sink.tells c.args.out.now) is c.loop-answers-test.true c.loop-answers.invariant.going).0)

pub returns-in-Broke-clause-broken : goal.returns-in-Broke-clause-broken
returns-in-Broke-clause-broken g c = λ broken.
    let is : IsAsked (asked c.args.search.now.program c.args.number c.args.limit) c.args.number c.args.limit = record { number_is = refl; limit_is = refl; kind = c.requires.kind } in
    (c.in-Broke.ensures.turns (asked c.args.search.now.program c.args.number c.args.limit) c.args.number (g.O.Sink.tells c.args.out.now) is c.loop-answers-test.true c.loop-answers.invariant.going).1
