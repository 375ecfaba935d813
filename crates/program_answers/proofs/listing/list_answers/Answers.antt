use Rattle.program_answers.proofs.NewSearch.{is-new, ends-of, breaks-of}
use Rattle.program_answers.proofs.listing.list_answers.Goals as goal

pub list-summary-requires-clause-new : goal.list-summary-requires-clause-new
list-summary-requires-clause-new g c = is-new c.in_ok-search.search c.args.ground c.in_ok-search.ensures.search

pub returns-clause-ended : goal.returns-clause-ended
returns-clause-ended g c = λ own.
    ends-of c.in_ok-search.search c.args.ground c.args.number c.args.limit c.list-summary.result.answers c.list-summary.new.search.conflicts c.conflicts.result
    c.list-summary.result.ending (g.O.Sink.tells c.args.out.now) (g.O.Sink.tells c.list-summary.new.out) c.in_ok-search.ensures.search c.conflicts.ensures
    (c.list-summary.ensures.ended own)

pub returns-clause-broken : goal.returns-clause-broken
returns-clause-broken g c = λ broken.
    breaks-of c.in_ok-search.search c.args.ground c.args.number c.args.limit c.list-summary.result.answers c.list-summary.new.search.conflicts c.conflicts.result
    (g.O.Sink.tells c.args.out.now) (g.O.Sink.tells c.list-summary.new.out) c.in_ok-search.ensures.search c.conflicts.ensures
    (c.list-summary.ensures.broken broken)
