use Rattle.std.proofs.Common.{◌≡◌, ◌++◌, ap, ◌∙◌, codes, arith}
use Rattle.syntax_tree.specs.Printed.{chosen_text}
use Rattle.syntax_tree.proofs.WriteLemmas.{row_end, parted_row}
use Rattle.syntax_tree.proofs.statement_text.write_chosen.Goals as goal

pub returns : goal.returns
returns c =
    row_end (λ x. codes "; ") (chosen_text c.args.names.now) c.args.elements.now c.loop-index.index c.loop-index.out _ (omega arith) c.loop-index.invariant
    ∙ ap (λ l. c.args.out.now ++ l) (parted_row (codes "; ") (chosen_text c.args.names.now) c.args.elements.now)
