use Rattle.std.proofs.Common.{◌≡◌, map, take}
use Rattle.symbols.specs.Table.{symbol_at}
use Rattle.asp_parser.specs.Replacement as spec
use Rattle.asp_parser.proofs.constant_term.+term_of.Given as goal

abbrev pub decreases-term_of : goal.decreases-term_of
decreases-term_of l = l.id

abbrev pub invariant-loop-arg : goal.invariant-loop-arg
invariant-loop-arg l = l.terms ≡ map (λ arg. spec.term_of (symbol_at l.symbols arg)) (take l.arg-index l.args)
