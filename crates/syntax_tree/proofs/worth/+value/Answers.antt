use Rattle.std.proofs.Common.{arith, ◌≡◌, [], ◌∙◌, ap, sym, subst, refl, rules}
use Rattle.syntax_tree.specs.Outcome.{IsKnown, outcome_of}
use Rattle.syntax_tree.specs.Value.{value_of}
use Rattle.syntax_tree.proofs.Holding.{variable-bound, bound_at-known}
use Rattle.syntax_tree.proofs.Turns.{no_arguments, at_variable, function_name, function_args, tuple_args, sum_parts, product_parts, arguments_turn, parts_turn}
use Rattle.symbols.proofs.TableLemmas.{IsFront-trans}
use Rattle.syntax_tree.specs.declared.term.Term.TheViews.{size-Term, sized-Function, sized-Tuple, sized-Sum, sized-Product}
use Rattle.syntax_tree.proofs.worth.+value.Goals as goal

pub nested-finished_function-requires-clause-named : goal.nested-finished_function-requires-clause-named
nested-finished_function-requires-clause-named t c = λ e. let empty : c.args.args.now ≡ [] = no_arguments _ c.args.args.now (sym c.in-Ok.ensures.value ∙ e) in search (rules, c.requires)

pub value_of-returns-in-Variable-clause-value : goal.value_of-returns-in-Variable-clause-value
value_of-returns-in-Variable-clause-value t c =
    c.worth_of.ensures.value c.args.symbols.now ∙ ap (outcome_of c.args.symbols.now) c.bound.ensures
    ∙ variable-bound c.args.symbols.now c.args.binding.now.values c.in-Variable.number ∙ sym (at_variable _ c.in-Variable.number) ∙ ap (value_of _) (sym c.in-Variable.is)

pub value_of-returns-in-Variable-clause-known : goal.value_of-returns-in-Variable-clause-known
value_of-returns-in-Variable-clause-known t c =
    c.worth_of.ensures.known _ (subst (IsKnown _) (sym c.bound.ensures) (bound_at-known _ c.args.binding.now.values c.in-Variable.number c.requires.binding))

pub value_of-returns-in-Ok-clause-known : goal.value_of-returns-in-Ok-clause-known
value_of-returns-in-Ok-clause-known t c = c.negated.ensures.known _

pub arguments-returns-in_err-so_far-clause-once : goal.arguments-returns-in_err-so_far-clause-once
arguments-returns-in_err-so_far-clause-once t c = λ h. c.with_argument.ensures.once (c.in_ok-next.ensures.once (c.loop-arg.invariant.once h))

pub from_left-returns-clause-known : goal.from_left-returns-clause-known
from_left-returns-clause-known t c = c.finished.ensures.known _ c.loop-part.invariant.known

pub arguments-loop-arg-preserved : goal.arguments-loop-arg-preserved
arguments-loop-arg-preserved t c = record {
  value = arguments_turn c.args.symbols.now c.loop-arg.symbols c.value_of.new.symbols c.with_argument.new.symbols c.args.binding.now.values c.args.args.now c.loop-arg.arg-index c.arg-item.result
      c.loop-arg.so_far c.in_ok-so_far.so_far c.in_ok-next.next c.arg-item.is c.loop-arg-test.true c.loop-arg.invariant.kept c.in_ok-next.ensures.kept c.requires.binding c.loop-arg.invariant.known
      c.loop-arg.invariant.value c.in_ok-next.ensures.value c.in_ok-so_far.ensures.value;
  known = c.in_ok-so_far.ensures.known;
  kept = IsFront-trans _ _ _ c.loop-arg.invariant.kept (IsFront-trans _ _ _ c.in_ok-next.ensures.kept c.in_ok-so_far.ensures.kept);
  once = λ h. c.in_ok-so_far.ensures.once (c.in_ok-next.ensures.once (c.loop-arg.invariant.once h));
}

pub from_left-loop-part-preserved : goal.from_left-loop-part-preserved
from_left-loop-part-preserved t c = record {
  value = parts_turn c.args.symbols.now c.loop-part.symbols c.value_of.new.symbols c.args.binding.now.values c.args.parts.now c.loop-part.part-index c.part-item.result
      c.loop-part.so_far c.joined.result c.in_ok-next.next c.part-item.is c.loop-part-test.true c.loop-part.invariant.kept c.in_ok-next.ensures.kept c.requires.binding c.loop-part.invariant.known
      c.loop-part.invariant.value c.in_ok-next.ensures.value c.joined.ensures.value;
  known = c.joined.ensures.known;
  kept = IsFront-trans _ _ _ c.loop-part.invariant.kept c.in_ok-next.ensures.kept;
  once = λ h. c.in_ok-next.ensures.once (c.loop-part.invariant.once h);
}

pub value_of-function-requires : goal.value_of-function-requires
value_of-function-requires t c = (
  grind (arith, sized-Function c.in-Function.name c.in-Function.args, ap size-Term c.in-Function.is),
  (
    function_name c.args.term.now c.in-Function.name _ c.in-Function.args c.requires.term c.in-Function.is c.items-in-Function.ensures,
    (function_args c.args.term.now c.in-Function.name c.in-Function.args _ c.requires.term c.in-Function.is c.as_slice.ensures, c.requires.binding),
  ),
)

pub value_of-nested-requires : goal.value_of-nested-requires
value_of-nested-requires t c =
    (grind (arith, sized-Tuple c.in-Tuple.args, ap size-Term c.in-Tuple.is), ((λ e. refl), (tuple_args c.args.term.now c.in-Tuple.args _ c.requires.term c.in-Tuple.is c.as_slice-in-Tuple.ensures, c.requires.binding)))

pub value_of-from_left-requires : goal.value_of-from_left-requires
value_of-from_left-requires t c = (grind (arith, sized-Sum c.in-Sum.parts, ap size-Term c.in-Sum.is), (sum_parts c.args.term.now c.in-Sum.parts _ c.requires.term c.in-Sum.is c.as_slice-in-Sum.ensures, c.requires.binding))

pub value_of-from_left-requires-in-Product : goal.value_of-from_left-requires-in-Product
value_of-from_left-requires-in-Product t c = (search (rules, sized-Product c.in-Product.parts, ap size-Term c.in-Product.is), (product_parts c.args.term.now c.in-Product.parts _ c.requires.term c.in-Product.is c.as_slice-in-Product.ensures, c.requires.binding))
