use Rattle.std.proofs.Common.{◌∙◌, map}
use Rattle.safety_meaning.specs.Ordered.{IsOrderedElement}
use Rattle.rule_variables.specs.Reading.{element_read}
use Rattle.program_meaning.specs.Read.{ReadElement}
use Rattle.ordered_bodies.specs.inner.Orderable.{IsOrderable}
use Rattle.ordered_bodies.proofs.Backward.{backward_more, backward_end, all_left}
use Rattle.ordered_bodies.proofs.theories.ordered_elements.Goals as goal

pub ordered_element-requires : goal.ordered_element-requires
ordered_element-requires c = (all_left (λ (element : ReadElement). IsOrderable c.args.order.now c.args.given.now element.condition) element_read c.loop-element.left c.pop.new.self c.in-Some.element c.in-Some.ensures c.loop-element.invariant.rest).1

pub loop-element-preserved : goal.loop-element-preserved
loop-element-preserved c = record {
  rest = (all_left (λ (element : ReadElement). IsOrderable c.args.order.now c.args.given.now element.condition) element_read c.loop-element.left c.pop.new.self c.in-Some.element c.in-Some.ensures c.loop-element.invariant.rest).0;
  goes = λ rule are. backward_more (IsOrderedElement rule) element_read element_read (map element_read c.args.left) c.loop-element.left c.pop.new.self c.loop-element.done c.push.new.self c.in-Some.element c.in_ok-element.element
      c.in-Some.ensures c.in_ok-push.ensures.ok (c.in_ok-element.ensures rule are) (c.loop-element.invariant.goes rule are);
}

pub returns : goal.returns
returns c = λ rule are. backward_end (IsOrderedElement rule) element_read element_read (map element_read c.args.left) c.loop-element.left c.loop-element.done c.from_vec.result c.in_default.ensures.0 (c.from_vec.ensures ∙ c.into_vec.ensures ∙ c.reverse.ensures) (c.loop-element.invariant.goes rule are)
