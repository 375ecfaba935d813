use Rattle.std.proofs.Common.{◌∙◌}
use Rattle.syntax_tree.proofs.Holding.{ok_along}
use Rattle.syntax_tree.proofs.Turns.{ids_value}
use Rattle.syntax_tree.proofs.worth.finished_function.Goals as goal

pub returns-in-Ids-clause-value : goal.returns-in-Ids-clause-value
returns-in-Ids-clause-value c =
    ok_along c.applied.result _ _ c.applied.ensures.value
    (λ w h. h ∙ ids_value c.args.symbols.now c.args.name.now c.args.args c.in-Ids.ids c.items.result.now c.in-Ids.is c.items.ensures)
