use Rattle.std.proofs.Common.{◌∙◌, sym, ap}
use Rattle.std.specs.Cmp.Lexicographic.{slice_cmp}
use Rattle.std.specs.Ordering.{ordering_then}
use Rattle.program_meaning.specs.Said.{pair_order, behind_pairs}
use Rattle.program_meaning.proofs.TupleSets.{by_parts, then_apart}
use Rattle.program_meaning.proofs.tuple_order.compare_tuples.Goals as goal

pub returns-in-Equal : goal.returns-in-Equal
returns-in-Equal c =
    let symbols = c.args.symbols.now in
    let level = (λ i. slice_cmp (pair_order symbols) (sym c.items.ensures i) (sym c.items-2.ensures i)) ∙ sym c.in-Equal.ensures in
    c.compare_behind_pairs.ensures
    ∙ ap (λ o. ordering_then o (behind_pairs symbols c.args.left.now c.args.right.now)) (sym level)
    ∙ by_parts symbols c.args.left.now c.args.right.now

pub returns-in_default : goal.returns-in_default
returns-in_default c =
    let symbols = c.args.symbols.now in
    let first = c.compare_pairs.ensures ∙ (λ i. slice_cmp (pair_order symbols) (c.items.ensures i) (c.items-2.ensures i)) in
    first
    ∙ sym (then_apart (slice_cmp (pair_order symbols) c.args.left.now.linear.pairs c.args.right.now.linear.pairs) (behind_pairs symbols c.args.left.now c.args.right.now)
    (λ e. c.in_default.not-Equal (first ∙ e)))
    ∙ by_parts symbols c.args.left.now c.args.right.now
