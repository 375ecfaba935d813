use Rattle.std.proofs.Common.{◌≡◌, ◌∙◌, [], map, arith, sym, ap, subst, rules, IfOk, FitsSigned, to_z, of_z}
use Rattle.std.specs.Int.{w32}
use Rattle.std.proofs.lemmas.Int.{to_z-of_z}
use Rattle.symbols.specs.Symbol.{Number}
use Rattle.symbols.proofs.TableLemmas.{IsFront-trans}
use Rattle.syntax_tree.specs.Outcome.{bound_in, IsUndefined}
use Rattle.syntax_tree.specs.Value.{variable, named, nested}
use Rattle.syntax_tree.specs.declared.term.Term.TheViews.{size-Term, sized-Sum, sized-Product}
use Rattle.syntax_tree.proofs.Turns.{sum_parts, product_parts}
use Rattle.syntax_tree.proofs.Holding.{ok_along, bound-front}
use Rattle.program_meaning.specs.Collected.{symbol_collected, interval_collected, collected}
use Rattle.program_meaning.proofs.Layers
use Rattle.collected_terms.specs.Found.{IsTermOf}
use Rattle.collected_terms.proofs.Growing.{so_far_front, so_far_known, by_its_value, joined_part, parts_turn}
use Rattle.collected_terms.proofs.collecting.+collect.Goals as goal

pub collect_term-from_left-requires : goal.collect_term-from_left-requires
collect_term-from_left-requires t c =
    (grind (arith, sized-Sum c.in-Sum.parts, ap size-Term c.in-Sum.is), (sum_parts c.args.term.now c.in-Sum.parts _ c.requires.term c.in-Sum.is c.as_slice.ensures, c.requires.binding))

pub collect_term-from_left-requires-in-Product : goal.collect_term-from_left-requires-in-Product
collect_term-from_left-requires-in-Product t c =
    (grind (arith, sized-Product c.in-Product.parts, ap size-Term c.in-Product.is), (product_parts c.args.term.now c.in-Product.parts _ c.requires.term c.in-Product.is c.as_slice-in-Product.ensures, c.requires.binding))

pub collect_term-returns-in-Number-clause-found : goal.collect_term-returns-in-Number-clause-found
collect_term-returns-in-Number-clause-found t c =
    let n = c.in-Number.n in
    let bound = bound_in c.args.symbols.now c.args.binding.now.values in
    let fits : FitsSigned w32 n = search rules in
    let same : to_z w32 (of_z w32 n) ≡ n = simp to_z-of_z in
    subst (λ s. IsTermOf c.args.symbols.now c.number.result s) (ap (λ m. symbol_collected (Number m)) same ∙ sym (Layers.collected-Number bound n) ∙ ap (collected bound) (sym c.in-Number.is))
    (c.number.ensures.found c.args.symbols.now)

pub collect_term-returns-in-Number-clause-known : goal.collect_term-returns-in-Number-clause-known
collect_term-returns-in-Number-clause-known t c = c.number.ensures.known c.args.symbols.now

pub collect_term-returns-in-Variable-clause-found : goal.collect_term-returns-in-Variable-clause-found
collect_term-returns-in-Variable-clause-found t c =
    let bound = bound_in c.args.symbols.now c.args.binding.now.values in
    subst (λ z. IfOk c.by_worth.result (λ found. IsTermOf c.by_worth.new.symbols found z))
    (by_its_value bound c.args.term.now (variable bound c.in-Variable.field-0) (ap (collected bound) c.in-Variable.is ∙ Layers.collected-Variable bound c.in-Variable.field-0)) c.by_worth.ensures.found

pub collect_term-returns-in-Anonymous-clause-found : goal.collect_term-returns-in-Anonymous-clause-found
collect_term-returns-in-Anonymous-clause-found t c =
    let bound = bound_in c.args.symbols.now c.args.binding.now.values in
    subst (λ z. IfOk c.by_worth-in-Anonymous.result (λ found. IsTermOf c.by_worth-in-Anonymous.new.symbols found z))
    (by_its_value bound c.args.term.now (IsUndefined) (ap (collected bound) c.in-Anonymous.is ∙ Layers.collected-Anonymous bound)) c.by_worth-in-Anonymous.ensures.found

pub collect_term-returns-in-Function-clause-found : goal.collect_term-returns-in-Function-clause-found
collect_term-returns-in-Function-clause-found t c =
    let bound = bound_in c.args.symbols.now c.args.binding.now.values in
    subst (λ z. IfOk c.by_worth-in-Function.result (λ found. IsTermOf c.by_worth-in-Function.new.symbols found z))
    (by_its_value bound c.args.term.now (named c.in-Function.field-0 (map (λ arg. arg.value) (map (collected bound) c.in-Function.field-1))) (ap (collected bound) c.in-Function.is ∙ Layers.collected-Function bound c.in-Function.field-0 c.in-Function.field-1)) c.by_worth-in-Function.ensures.found

pub collect_term-returns-in-Tuple-clause-found : goal.collect_term-returns-in-Tuple-clause-found
collect_term-returns-in-Tuple-clause-found t c =
    let bound = bound_in c.args.symbols.now c.args.binding.now.values in
    subst (λ z. IfOk c.by_worth-in-Tuple.result (λ found. IsTermOf c.by_worth-in-Tuple.new.symbols found z))
    (by_its_value bound c.args.term.now (nested [] (map (λ arg. arg.value) (map (collected bound) c.in-Tuple.field-0))) (ap (collected bound) c.in-Tuple.is ∙ Layers.collected-Tuple bound c.in-Tuple.field-0)) c.by_worth-in-Tuple.ensures.found

pub with_part-join-requires-clause-so_far : goal.with_part-join-requires-clause-so_far
with_part-join-requires-clause-so_far t c = so_far_known c.args.symbols.now c.collect_term.new.symbols c.in-Ok.ensures.kept c.args.so_far c.requires.so_far

pub with_part-returns-in-Ok-clause-found : goal.with_part-returns-in-Ok-clause-found
with_part-returns-in-Ok-clause-found t c =
    ok_along c.join.result _ _ c.join.ensures.found
    (λ found h total before. joined_part (bound_in c.args.symbols.now c.args.binding.now.values) c.args.part.now total c.collect_term.new.symbols found
    (h total (collected (bound_in c.args.symbols.now c.args.binding.now.values) c.args.part.now.term)
    (so_far_front c.args.symbols.now c.collect_term.new.symbols c.in-Ok.ensures.kept c.args.so_far total c.requires.so_far before) c.in-Ok.ensures.found))

pub from_left-loop-part-preserved : goal.from_left-loop-part-preserved
from_left-loop-part-preserved t c = record {
  total = parts_turn c.args.symbols.now c.loop-part.symbols c.with_part.new.symbols c.args.binding.now.values c.args.parts.now c.loop-part.part-index c.part-item.result
      c.loop-part.so_far c.in_ok-with_part.field-0 c.part-item.is c.loop-part-test.true c.loop-part.invariant.kept c.requires.binding c.loop-part.invariant.total
      c.in_ok-with_part.ensures.found;
  known = c.in_ok-with_part.ensures.known;
  kept = IsFront-trans _ _ _ c.loop-part.invariant.kept c.in_ok-with_part.ensures.kept;
}

pub from_left-returns-clause-known : goal.from_left-returns-clause-known
from_left-returns-clause-known t c = ok_along c.finished.result _ _ c.finished.ensures.known (λ found h. h c.loop-part.symbols c.loop-part.invariant.known)

pub collect_term-returns-clause-found : goal.collect_term-returns-clause-found
collect_term-returns-clause-found t c =
    let old = c.args.symbols.now in
    let mid = c.collect_term.new.symbols in
    let new = c.collect_term-in-Ok.new.symbols in
    let values = c.args.binding.now.values in
    let left = c.get-in-Interval.result.now in
    let right = c.get-in-Ok.result.now in
    let e : interval_collected (collected (bound_in old values) left) (collected (bound_in mid values) right) ≡ collected (bound_in old values) c.args.term.now =
    (λ i. interval_collected (collected (bound_in old values) (c.get-in-Interval.ensures i)) (collected (bound-front old mid values c.in-Ok.ensures.kept c.requires.binding i) (c.get-in-Ok.ensures i)))
    ∙ sym (Layers.collected-Interval (bound_in old values) c.in-Interval.left c.in-Interval.right) ∙ ap (collected (bound_in old values)) (sym c.in-Interval.is) in
    subst (λ z. IsTermOf new c.spanned.result z) e
    (c.spanned.ensures.found mid new (collected (bound_in old values) left) (collected (bound_in mid values) right) c.in-Ok.ensures.found c.in-Ok-collect_term.ensures.found)

pub collect_term-returns-clause-known : goal.collect_term-returns-clause-known
collect_term-returns-clause-known t c = c.spanned.ensures.known c.collect_term-in-Ok.new.symbols
