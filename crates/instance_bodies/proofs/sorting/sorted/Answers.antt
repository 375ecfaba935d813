use Rattle.std.proofs.Common.{◌∙◌, subst, rules}
use Rattle.std.specs.List.Sorted.{IsSortedBy, IsPermutation}
use Rattle.std.specs.Ordering.{is_lt}
use Rattle.std.proofs.lemmas.Fn.{always_returns_same}
use Rattle.std.proofs.lemmas.List.Filters.{dedup_is}
use Rattle.std.proofs.lemmas.List.Sorted.{ranks_by}
use Rattle.instance_bodies.specs.inner.Ordering.{literal_order}
use Rattle.instance_bodies.proofs.SortLemmas.{same_literal, literal_total, sorted_ascends, sorted_members, sorted_known}
use Rattle.instance_bodies.proofs.sorting.sorted.Goals as goal

pub returns-clause-ascends : goal.returns-clause-ascends
returns-clause-ascends c =
    let symbols = c.args.symbols.now in
    let ordered : IsSortedBy (λ x y. is_lt (literal_order symbols x y)) c.sort_unstable_by.new.self.items =
    c.sort_unstable_by.ensures.sorted (λ x y. is_lt (literal_order symbols x y)) (ranks_by (literal_total symbols) (λ x. x))
    (always_returns_same _ _ _ (λ a r f called. search rules)) in
    sorted_ascends symbols c.args.found c.sort_unstable_by.new.self.items c.from_vec.result
    (subst (λ xs. IsPermutation xs c.sort_unstable_by.new.self.items) c.into_vec-sorted.ensures c.sort_unstable_by.ensures.permutation)
    (c.from_vec.ensures ∙ dedup_is same_literal _ _ c.dedup.ensures.filtered)
    c.symbols_are_distinct.ensures c.requires ordered

pub returns-clause-members : goal.returns-clause-members
returns-clause-members c =
    sorted_members c.args.symbols.now c.args.found c.sort_unstable_by.new.self.items c.from_vec.result
    (subst (λ xs. IsPermutation xs c.sort_unstable_by.new.self.items) c.into_vec-sorted.ensures c.sort_unstable_by.ensures.permutation)
    (c.from_vec.ensures ∙ dedup_is same_literal _ _ c.dedup.ensures.filtered)

pub returns-clause-known : goal.returns-clause-known
returns-clause-known c =
    sorted_known c.args.symbols.now c.args.found c.sort_unstable_by.new.self.items c.from_vec.result
    (subst (λ xs. IsPermutation xs c.sort_unstable_by.new.self.items) c.into_vec-sorted.ensures c.sort_unstable_by.ensures.permutation)
    (c.from_vec.ensures ∙ dedup_is same_literal _ _ c.dedup.ensures.filtered) c.requires
