use Rattle.std.proofs.Common.{sym, subst}
use Rattle.conflict_analysis.specs.Marked.{Board}
use Rattle.conflict_analysis.specs.inner.Runs.{Drains}
use Rattle.conflict_analysis.proofs.DrainLaws.{drain_step, mark_literal, taken_literals}
use Rattle.conflict_analysis.proofs.drain.drain.Goals as goal

pub sort_out-requires : goal.sort_out-requires
sort_out-requires c = mark_literal c.drain.marks c.take.new.self c.in-Some.mark c.in-Some.ensures c.drain.invariant.literals

pub drain-preserved : goal.drain-preserved
drain-preserved c = record {
  left = λ of d. drain_step of c.drain.chain c.sort_out.new.chain c.drain.marks c.take.new.self c.drain.kept c.sort_out.new.kept c.in-Some.mark c.in-Some.ensures (c.drain.invariant.left of d) c.in_ok-sort_out-in-Some.ensures;
  literals = taken_literals c.drain.marks c.take.new.self c.in-Some.mark c.in-Some.ensures c.drain.invariant.literals;
}

pub returns-in-None-clause-left : goal.returns-in-None-clause-left
returns-in-None-clause-left c = λ of d. subst (λ (b : Board). Drains of c.drain.chain b c.drain.kept) (sym c.in-None.ensures.1) (c.drain.invariant.left of d)
