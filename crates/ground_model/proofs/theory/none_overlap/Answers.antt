use Rattle.std.proofs.Common.{◌+◌, ℤ, get_or, List, sym, ◌∙◌, subst, arith}
use Rattle.std.specs.List.{AllByRecursion}
use Rattle.std.specs.List.Sorted.{IsPermutation}
use Rattle.ground_model.specs.Spans.{are_apart_spans, IsSizedSpan, AreAscending}
use Rattle.ground_model.proofs.PairLemmas.{pairs_permuted}
use Rattle.ground_model.proofs.SweepLemmas.{ascending_from, starts_in_order, apart_both, sized_sorted}
use Rattle.ground_model.proofs.theory.none_overlap.Goals as goal

pub follow_each_other-requires-clause-ascending : goal.follow_each_other-requires-clause-ascending
follow_each_other-requires-clause-ascending c =
    subst AreAscending (sym c.deref.ensures.value)
    (ascending_from c.sort_unstable.new.self.items (λ k d below. starts_in_order (get_or c.sort_unstable.new.self.items (k + 1) d) (get_or c.sort_unstable.new.self.items k d) (c.sort_unstable.ensures.sorted k d (omega arith) below)))

pub follow_each_other-requires-clause-sized : goal.follow_each_other-requires-clause-sized
follow_each_other-requires-clause-sized c =
    subst (AllByRecursion IsSizedSpan) (sym c.deref.ensures.value) (sized_sorted c.args.spans.items c.sort_unstable.new.self.items c.sort_unstable.ensures.permutation c.requires)

pub returns : goal.returns
returns c =
    let moved : IsPermutation c.args.spans.items c.deref.result.now =
    subst (λ (spans : List (ℤ × ℤ)). IsPermutation c.args.spans.items spans) (sym c.deref.ensures.value) c.sort_unstable.ensures.permutation in
    c.follow_each_other.ensures ∙ sym (pairs_permuted are_apart_spans apart_both c.args.spans.items c.deref.result.now moved)
