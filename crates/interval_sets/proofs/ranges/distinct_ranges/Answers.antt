use Rattle.std.proofs.Common.{◌∙◌, rules}
use Rattle.std.specs.List.Sorted.{IsSortedBy}
use Rattle.std.specs.Ordering.{is_eq, is_lt}
use Rattle.std.proofs.lemmas.Fn.{always_returns_same, dedup_same}
use Rattle.std.proofs.lemmas.List.Sorted.{ranks_by}
use Rattle.interval_sets.specs.Ranges.{range_cmp}
use Rattle.interval_sets.proofs.SetLemmas.{ranges_total, ranges_level, set_in_order}
use Rattle.interval_sets.proofs.ranges.distinct_ranges.Goals as goal

pub returns : goal.returns
returns c =
    let sorted : IsSortedBy (λ x y. is_lt (range_cmp x y)) c.sort_unstable_by.new.self.items =
    c.sort_unstable_by.ensures.sorted (λ x y. is_lt (range_cmp x y)) (ranks_by ranges_total (λ x. x))
    (always_returns_same _ _ _ (λ a r f called. search rules)) in
    set_in_order range_cmp ranges_total ranges_level c.args.all.items c.sort_unstable_by.new.self.items c.from_vec.result c.sort_unstable_by.ensures.permutation sorted
    (c.from_vec.ensures ∙ dedup_same _ (λ x y. is_eq (range_cmp x y)) _ (λ x y b f' x' y' k. search rules) _ _ c.dedup_by.ensures.filtered)
