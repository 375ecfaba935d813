use Rattle.std.proofs.Common.{◌≡◌, ◌++◌, ap, ◌∙◌, codes, arith}
use Rattle.syntax_tree.specs.Printed.{literal_text, element_text}
use Rattle.syntax_tree.proofs.WriteLemmas.{row_end, parted_row}
use Rattle.syntax_tree.proofs.literal_text.+write_literal.Goals as goal

pub write_elements-returns : goal.write_elements-returns
write_elements-returns t c =
    row_end (λ x. codes ";") (element_text c.args.names.now) c.args.elements.now c.loop-index.index c.loop-index.out _ (omega arith) c.loop-index.invariant
    ∙ ap (λ l. c.args.out.now ++ l) (parted_row (codes ";") (element_text c.args.names.now) c.args.elements.now)

pub write_literals-returns : goal.write_literals-returns
write_literals-returns t c =
    row_end (λ x. codes ", ") (literal_text c.args.names.now) c.args.literals.now c.loop-index.index c.loop-index.out _ (omega arith) c.loop-index.invariant
    ∙ ap (λ l. c.args.out.now ++ l) (parted_row (codes ", ") (literal_text c.args.names.now) c.args.literals.now)
