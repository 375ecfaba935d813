use Rattle.std.proofs.Common.{◌≡◌, ◌++◌, drop, codes}
use Rattle.syntax_tree.specs.Printed.{chosen_text}
use Rattle.syntax_tree.proofs.WriteLemmas.{row_from}
use Rattle.syntax_tree.proofs.statement_text.write_chosen.Given as goal

abbrev pub invariant-loop-index : goal.invariant-loop-index
invariant-loop-index l =
    l.out ++ row_from (λ x. codes "; ") (chosen_text l.names) l.index (drop l.index l.elements) ≡ l.initial.out ++ row_from (λ x. codes "; ") (chosen_text l.names) 0 l.elements
