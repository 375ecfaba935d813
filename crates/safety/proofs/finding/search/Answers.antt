use Rattle.std.proofs.Common.{◌∙◌}
use Rattle.rewriting.specs.Rewritten.{rewritten_statement}
use Rattle.rewriting.specs.Order.{order_of_statement, sights_of_statement}
use Rattle.predicate_order.specs.Ways.{step_ways}
use Rattle.safety_meaning.specs.Program.{rules_of}
use Rattle.safety.proofs.Searching.{map_at, map_is, failed_first, next_fine, next_within}
use Rattle.safety.proofs.finding.search.Goals as goal

pub returns-in-Failed : goal.returns-in-Failed
returns-in-Failed c = λ bare all judged walked twins e f g.
    let i = c.loop-index.index in
    let s = map_at rewritten_statement all c.args.statements.now i c.index-statements-index.result e c.index-statements-index.is c.loop-index-test.true in
    let o = map_is order_of_statement all c.args.orders.now i s.0 c.index-orders-index.result f s.1 c.index-orders-index.is in
    let v = map_is sights_of_statement all c.args.sights.now i s.0 c.index-sights-index.result g s.1 c.index-sights-index.is in
    failed_first all i c.loop-index.place s.0 c.in_ok-step.step c.in-Failed.found s.1 c.in-Failed.is
    (c.loop-index.invariant.fine bare all judged walked twins e f g)
    (c.in_ok-step.ensures.step bare (rules_of all) s.0 judged (c.loop-index.invariant.kept (step_ways bare) walked) twins s.2
    (c.items.ensures ∙ o) (c.items-in-loop-index.ensures ∙ v))

pub loop-index-preserved : goal.loop-index-preserved
loop-index-preserved c = record {
  within = next_within c.loop-index.place c.in-Next.next c.loop-index.index c.in_ok-step.step c.in-Next.is c.loop-index.invariant.within c.in_ok-step.ensures.next;
  kept = λ named z. c.judge_statement.ensures.kept named (c.loop-index.invariant.kept named z);
  fine = λ bare all judged walked twins e f g.
      let i = c.loop-index.index in
      let s = map_at rewritten_statement all c.args.statements.now i c.index-statements-index.result e c.index-statements-index.is c.loop-index-test.true in
      let o = map_is order_of_statement all c.args.orders.now i s.0 c.index-orders-index.result f s.1 c.index-orders-index.is in
      let v = map_is sights_of_statement all c.args.sights.now i s.0 c.index-sights-index.result g s.1 c.index-sights-index.is in
      next_fine all i c.loop-index.place c.in-Next.next s.0 c.in_ok-step.step s.1 c.in-Next.is
      (c.loop-index.invariant.fine bare all judged walked twins e f g)
      (c.in_ok-step.ensures.step bare (rules_of all) s.0 judged (c.loop-index.invariant.kept (step_ways bare) walked) twins s.2
      (c.items.ensures ∙ o) (c.items-in-loop-index.ensures ∙ v));
}
