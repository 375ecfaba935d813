use Rattle.std.proofs.Common.{◌∙◌}
use Rattle.syntax_tree.proofs.Holding.{ok_along}
use Rattle.asp_parser.proofs.TableLemmas.{function_term}
use Rattle.asp_parser.proofs.constant_term.+term_of.Goals as goal

pub returns-after-loop-arg : goal.returns-after-loop-arg
returns-after-loop-arg t c =
    ok_along c.applied.result _ _ c.applied.ensures
    (λ term h. h ∙ function_term c.args.symbols.now _ c.in-Function.name.now c.in-Function.args.now c.loop-arg.terms c.loop-arg.arg-index c.in-Function.ensures.shown.0 c.loop-arg.invariant c.loop-arg-test.false)
