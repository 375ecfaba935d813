use Rattle.std.proofs.Common.{◌≡◌, ◌++◌, drop, codes}
use Rattle.syntax_tree.specs.Printed.{literal_text, element_text}
use Rattle.syntax_tree.proofs.WriteLemmas.{row_from}
use Rattle.syntax_tree.proofs.literal_text.+write_literal.Given as goal

abbrev pub invariant-write_elements-loop-index : goal.invariant-write_elements-loop-index
invariant-write_elements-loop-index l =
    l.out ++ row_from (λ x. codes ";") (element_text l.names) l.index (drop l.index l.elements) ≡ l.initial.out ++ row_from (λ x. codes ";") (element_text l.names) 0 l.elements

abbrev pub invariant-write_literals-loop-index : goal.invariant-write_literals-loop-index
invariant-write_literals-loop-index l =
    l.out ++ row_from (λ x. codes ", ") (literal_text l.names) l.index (drop l.index l.literals) ≡ l.initial.out ++ row_from (λ x. codes ", ") (literal_text l.names) 0 l.literals
