use Rattle.std.proofs.Common.{◌∙◌, rules}
use Rattle.std.specs.List.Sorted.{IsSortedBy}
use Rattle.std.specs.Ordering.{is_eq, is_lt}
use Rattle.std.proofs.lemmas.Fn.{always_returns_same, dedup_same}
use Rattle.std.proofs.lemmas.List.Sorted.{ranks_by}
use Rattle.program_meaning.proofs.TupleSets.{tuple_order, tuples_total, set_ordered}
use Rattle.collected_atoms.proofs.SizeLemmas.{kept_known}
use Rattle.collected_atoms.proofs.tuples.distinct_places.Goals as goal

pub returns-clause-places : goal.returns-clause-places
returns-clause-places c =
    let symbols = c.args.symbols.now in
    let sorted : IsSortedBy (λ x y. is_lt (tuple_order symbols x y)) c.sort_unstable_by.new.self.items =
    c.sort_unstable_by.ensures.sorted (λ x y. is_lt (tuple_order symbols x y)) (ranks_by (tuples_total symbols) (λ x. x))
    (always_returns_same _ _ _ (λ a r f called. search rules)) in
    set_ordered symbols c.args.all.items c.sort_unstable_by.new.self.items c.from_vec.result c.sort_unstable_by.ensures.permutation sorted
    (c.from_vec.ensures ∙ dedup_same _ (λ x y. is_eq (tuple_order symbols x y)) _ (λ x y b f' x' y' k. search rules) _ _ c.dedup_by.ensures.filtered)

pub returns-clause-known : goal.returns-clause-known
returns-clause-known c = λ known.
    let symbols = c.args.symbols.now in
    kept_known symbols (λ x y. is_eq (tuple_order symbols x y)) c.args.all.items c.sort_unstable_by.new.self.items c.from_vec.result c.sort_unstable_by.ensures.permutation
    (c.from_vec.ensures ∙ dedup_same _ (λ x y. is_eq (tuple_order symbols x y)) _ (λ x y b f' x' y' k. search rules) _ _ c.dedup_by.ensures.filtered) known
