use Rattle.std.proofs.Common.{◌≡◌, ◌++◌, drop, codes}
use Rattle.syntax_tree.specs.Printed.{written, within, term_text, op_text}
use Rattle.syntax_tree.proofs.WriteLemmas.{row_from}
use Rattle.syntax_tree.proofs.term_text.+write_term.Given as goal

abbrev pub invariant-write_arguments-loop-index : goal.invariant-write_arguments-loop-index
invariant-write_arguments-loop-index l =
    l.out ++ row_from (λ x. codes ",") (term_text l.names) l.index (drop l.index l.args) ≡ l.initial.out ++ row_from (λ x. codes ",") (term_text l.names) 0 l.args

abbrev pub invariant-write_parts-loop-index : goal.invariant-write_parts-loop-index
invariant-write_parts-loop-index l =
    l.out ++ row_from (λ x. op_text x.op) (λ x. within l.limit (written l.names x.term)) l.index (drop l.index l.parts)
    ≡ l.initial.out ++ row_from (λ x. op_text x.op) (λ x. within l.limit (written l.names x.term)) 0 l.parts
