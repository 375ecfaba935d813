use Rattle.predicate_order.specs.Judged.{IsTurning}
use Rattle.predicate_order.proofs.Turns.{none_more, found_one, not_told}
use Rattle.predicate_order.proofs.reached.any_turns.Goals as goal

pub returns-then-branch-clause-answer : goal.returns-then-branch-clause-answer
returns-then-branch-clause-answer c = λ named z.
    found_one (IsTurning named) c.args.all.now c.loop-reads.reads-index c.reads-item.result c.reads-item.is c.loop-reads-test.true
    ((c.in_ok-turns.ensures.answer named (c.loop-reads.invariant.kept named z)).0 c.if-branch.true)

pub loop-reads-preserved : goal.loop-reads-preserved
loop-reads-preserved c = record {
  kept = λ named z. c.turns.ensures.kept named (c.loop-reads.invariant.kept named z);
  none = λ named z.
      none_more (IsTurning named) c.args.all.now c.loop-reads.reads-index c.reads-item.result c.reads-item.is c.loop-reads-test.true
      (c.loop-reads.invariant.none named z)
      (not_told c.in_ok-turns.field-0 (IsTurning named c.reads-item.result)
      (c.in_ok-turns.ensures.answer named (c.loop-reads.invariant.kept named z)) c.if-branch.false);
}
