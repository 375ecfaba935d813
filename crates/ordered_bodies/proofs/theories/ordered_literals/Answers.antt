use Rattle.std.proofs.Common.{map}
use Rattle.ordered_bodies.specs.inner.Parts.{AreOrderableIn, IsOrderedLiteral}
use Rattle.program_meaning.specs.Read.{literal_read}
use Rattle.ordered_bodies.proofs.Backward.{backward_more, backward_end, all_left}
use Rattle.ordered_bodies.proofs.theories.ordered_literals.Goals as goal

pub ordered_literal-requires : goal.ordered_literal-requires
ordered_literal-requires c = (all_left (AreOrderableIn c.args.order.now c.args.given.now) literal_read c.loop-literal.left c.pop.new.self c.in-Some.literal c.in-Some.ensures c.loop-literal.invariant.rest).1

pub loop-literal-preserved : goal.loop-literal-preserved
loop-literal-preserved c = record {
  rest = (all_left (AreOrderableIn c.args.order.now c.args.given.now) literal_read c.loop-literal.left c.pop.new.self c.in-Some.literal c.in-Some.ensures c.loop-literal.invariant.rest).0;
  goes = λ rule are. backward_more (IsOrderedLiteral rule) literal_read literal_read (map literal_read c.args.left) c.loop-literal.left c.pop.new.self c.loop-literal.done c.push.new.self c.in-Some.literal c.in_ok-literal.literal
      c.in-Some.ensures c.in_ok-push.ensures.ok (c.in_ok-literal.ensures rule are) (c.loop-literal.invariant.goes rule are);
}

pub returns : goal.returns
returns c = λ rule are. backward_end (IsOrderedLiteral rule) literal_read literal_read (map literal_read c.args.left) c.loop-literal.left c.loop-literal.done c.reverse.new.self c.in_default.ensures.0 c.reverse.ensures (c.loop-literal.invariant.goes rule are)
