use Rattle.std.proofs.Common.{sym, subst, rules}
use Rattle.std.specs.List.Sorted.{IsSortedBy, IsPermutation}
use Rattle.std.specs.Ordering.{is_lt}
use Rattle.std.specs.Cmp.Lexicographic.{slice_cmp}
use Rattle.std.proofs.lemmas.Fn.{always_returns_same}
use Rattle.std.proofs.lemmas.List.Sorted.{ranks_by}
use Rattle.sorted_rows.specs.Orders.{value_order}
use Rattle.sorted_rows.proofs.RowOrders.{rows_total, sorted_ascends}
use Rattle.sorted_rows.proofs.sorting.sort_rows.Goals as goal

pub returns-clause-sorted : goal.returns-clause-sorted
returns-clause-sorted c =
    let symbols = c.args.symbols.now in
    let sorted : IsSortedBy (λ x y. is_lt (slice_cmp (value_order symbols) x.values y.values)) c.sort_unstable_by.new.self.items =
    c.sort_unstable_by.ensures.sorted (λ x y. is_lt (slice_cmp (value_order symbols) x.values y.values)) (ranks_by (rows_total symbols) (λ row. row.values))
    (always_returns_same _ _ _ (λ a r f called. search rules)) in
    sorted_ascends symbols c.args.rows c.from_vec.result
    (subst (λ xs. IsPermutation xs c.from_vec.result) c.into_vec-sorted.ensures (subst (λ ys. IsPermutation c.into_vec-sorted.result.items ys) (sym c.from_vec.ensures) c.sort_unstable_by.ensures.permutation))
    (subst (IsSortedBy (λ x y. is_lt (slice_cmp (value_order symbols) x.values y.values))) (sym c.from_vec.ensures) sorted)
