use Rattle.std.proofs.Common.{◌≡◌, ◌++◌, ◌≤◌, ◌<◌, OnOk, ap, sym, subst, ◌∙◌, codes, arith}
use Rattle.syntax_tree.specs.declared.term_text.Joining.TheVariants.{Sum}
use Rattle.syntax_tree.specs.Printed.{looseness, written, within, term_text, op_text}
use Rattle.syntax_tree.proofs.WriteLemmas.{row_end, terms_row, parts_row, on_ok, within_bare, within_brackets, three_written, interval_text}
use Rattle.syntax_tree.proofs.term_text.+write_term.Goals as goal

pub write_arguments-returns : goal.write_arguments-returns
write_arguments-returns t c =
    row_end (λ x. codes ",") (term_text c.args.names.now) c.args.args.now c.loop-index.index c.loop-index.out _ (omega arith) c.loop-index.invariant
    ∙ ap (λ l. c.args.out.now ++ l) (terms_row c.args.names.now c.args.args.now)

pub write_parts-returns : goal.write_parts-returns
write_parts-returns t c =
    row_end (λ x. op_text x.op) (λ x. within c.args.limit (written c.args.names.now x.term)) c.args.parts.now c.loop-index.index c.loop-index.out _ (omega arith) c.loop-index.invariant
    ∙ ap (λ l. c.args.out.now ++ l) (parts_row c.args.names.now c.args.limit c.args.parts.now)

pub write_within-returns-then-looseness : goal.write_within-returns-then-looseness
write_within-returns-then-looseness t c =
    let tight : looseness (written c.args.names.now c.args.term.now).joining ≤ looseness c.args.limit =
    omega (arith, c.looseness.ensures ∙ ap looseness (c.joining_of.ensures c.args.names.now), c.looseness-2.ensures, c.if-looseness.true) in
    on_ok c.write_term.result c.write_term.ensures (λ h. h ∙ ap (λ l. c.args.out.now ++ l) (sym (within_bare c.args.limit (written c.args.names.now c.args.term.now) tight)))

pub write_within-returns : goal.write_within-returns
write_within-returns t c =
    let loose : looseness c.args.limit < looseness (written c.args.names.now c.args.term.now).joining =
    omega (arith, c.looseness.ensures ∙ ap looseness (c.joining_of.ensures c.args.names.now), c.looseness-2.ensures, c.if-looseness.false) in
    on_ok c.append-2.result c.append-2.ensures.ok
    (λ h. three_written _ _ _ _ _ _ _ c.in_ok-append.ensures.ok c.in_ok-write_term.ensures h
    ∙ ap (λ l. c.args.out.now ++ l) (sym (within_brackets c.args.limit (written c.args.names.now c.args.term.now) loose)))

pub write_term-returns-in_ok-append-in-Interval : goal.write_term-returns-in_ok-append-in-Interval
write_term-returns-in_ok-append-in-Interval t c =
    on_ok c.write_within-in-Interval.result c.write_within-in-Interval.ensures
    (λ h. three_written _ _ _ _ _ _ _ (c.in_ok-write_within-in-Interval.ensures ∙ ap (λ x. c.args.out.now ++ within Sum (written c.args.names.now x)) c.get-in-Interval.ensures)
    c.in_ok-append-in-Interval.ensures.ok (h ∙ ap (λ x. c.append-in-Interval.new.self ++ within Sum (written c.args.names.now x)) c.get-in-Interval-2.ensures)
    ∙ ap (λ l. c.args.out.now ++ l) (sym (interval_text c.args.names.now c.args.term.now c.in-Interval.left c.in-Interval.right c.in-Interval.is)))
