use Rattle.std.proofs.Common.{List, ℕ, subst}
use Rattle.std.specs.Io.KnownBytes.{Appends}
use Rattle.outside_io.specs.Told.{AppendsFront}
use Rattle.enumerator.proofs.ListLaws.{due_ends, due_cut}
use Rattle.enumerator.proofs.listing.finish.Goals as goal

pub returns-in-Ok-clause-ended : goal.returns-in-Ok-clause-ended
returns-in-Ok-clause-ended g c = λ task conflicts before own due.
    due_ends task c.args.ending c.args.answers conflicts before (g.O.Sink.tells c.args.out.now) (g.O.Sink.tells c.write_all.new.sink) due
    (subst (λ (piece : List ℕ). Appends (g.O.Sink.tells c.args.out.now).written (g.O.Sink.tells c.write_all.new.sink).written piece) c.line_of.ensures c.in-Ok.ensures.whole)

pub returns-in-Err-clause-broken : goal.returns-in-Err-clause-broken
returns-in-Err-clause-broken g c = λ task conflicts before broken due.
    due_cut task c.args.ending c.args.answers conflicts before (g.O.Sink.tells c.args.out.now) (g.O.Sink.tells c.write_all.new.sink) due
    (subst (λ (piece : List ℕ). AppendsFront (g.O.Sink.tells c.args.out.now).written (g.O.Sink.tells c.write_all.new.sink).written piece) c.line_of.ensures c.in-Err.ensures.front)
