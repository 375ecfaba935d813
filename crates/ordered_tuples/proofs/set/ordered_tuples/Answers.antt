use Rattle.std.proofs.Common.{◌∙◌, subst, rules}
use Rattle.std.specs.List.Sorted.{IsSortedBy, IsPermutation}
use Rattle.std.specs.Ordering.{is_eq, is_lt}
use Rattle.std.proofs.lemmas.Fn.{always_returns_same, dedup_same}
use Rattle.std.proofs.lemmas.List.Sorted.{ranks_by}
use Rattle.program_meaning.proofs.TupleSets.{tuple_order, tuples_total, set_ordered}
use Rattle.ordered_tuples.proofs.Sets.{among_all}
use Rattle.ordered_tuples.proofs.set.ordered_tuples.Goals as goal

pub returns-clause-places : goal.returns-clause-places
returns-clause-places c =
    let symbols = c.args.symbols.now in
    let sorted : IsSortedBy (λ x y. is_lt (tuple_order symbols x y)) c.sort_unstable_by.new.self.items =
    c.sort_unstable_by.ensures.sorted (λ x y. is_lt (tuple_order symbols x y)) (ranks_by (tuples_total symbols) (λ x. x))
    (always_returns_same _ _ _ (λ a r f called. search rules)) in
    let moved = subst (λ xs. IsPermutation xs c.sort_unstable_by.new.self.items) c.into_vec-places.ensures c.sort_unstable_by.ensures.permutation in
    set_ordered symbols c.args.all c.sort_unstable_by.new.self.items c.from_vec.result moved sorted
    (c.from_vec.ensures ∙ dedup_same _ (λ x y. is_eq (tuple_order symbols x y)) _ (λ x y b f' x' y' k. search rules) _ _ c.dedup_by.ensures.filtered)

pub returns-clause-among : goal.returns-clause-among
returns-clause-among c =
    let symbols = c.args.symbols.now in
    let moved = subst (λ xs. IsPermutation xs c.sort_unstable_by.new.self.items) c.into_vec-places.ensures c.sort_unstable_by.ensures.permutation in
    among_all (λ x y. is_eq (tuple_order symbols x y)) c.args.all c.sort_unstable_by.new.self.items c.from_vec.result moved
    (c.from_vec.ensures ∙ dedup_same _ (λ x y. is_eq (tuple_order symbols x y)) _ (λ x y b f' x' y' k. search rules) _ _ c.dedup_by.ensures.filtered)
