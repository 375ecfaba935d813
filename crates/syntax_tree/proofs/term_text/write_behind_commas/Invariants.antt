use Rattle.std.proofs.Common.{◌≡◌, ◌++◌, drop, map, codes}
use Rattle.syntax_tree.specs.Printed.{each_behind, term_text}
use Rattle.syntax_tree.proofs.term_text.write_behind_commas.Given as goal

abbrev pub invariant-loop-term : goal.invariant-loop-term
invariant-loop-term l = l.out ++ each_behind (codes ",") (map (term_text l.names) (drop l.term-index l.terms)) ≡ l.initial.out ++ each_behind (codes ",") (map (term_text l.names) l.terms)
