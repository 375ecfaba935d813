use Rattle.predicate_order.proofs.Programs.{reads_more}
use Rattle.predicate_order.proofs.program.add_all.Goals as goal

pub loop-reads-preserved : goal.loop-reads-preserved
loop-reads-preserved c = λ before z.
    reads_more before c.loop-reads.yielded c.in-Some.reads c.loop-reads.ways c.push.new.self (c.loop-reads.invariant before z) c.in_ok-push.ensures
