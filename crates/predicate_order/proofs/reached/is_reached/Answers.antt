use Rattle.std.proofs.Common.{true≢false, sym}
use Rattle.predicate_order.proofs.Finding.{judged_at, unknown_reached}
use Rattle.predicate_order.proofs.reached.is_reached.Goals as goal

pub returns-in-Some : goal.returns-in-Some
returns-in-Some c = λ ways j.
    judged_at c.args.table.now.keys c.args.flags.now ways c.in-Some.place c.args.predicate.now c.is_flagged.result c.in-Some.ensures.index c.is_flagged.ensures j

pub returns-in-None : goal.returns-in-None
returns-in-None c = λ ways j. (
  (λ e. absurd (true≢false (sym e))),
  (λ r. absurd (unknown_reached c.args.table.now.keys c.args.flags.now ways c.args.predicate.now c.in-None.ensures.found j r)),
)
