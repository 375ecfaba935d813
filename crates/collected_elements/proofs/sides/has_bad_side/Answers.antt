use Rattle.std.proofs.Common.{◌∙◌, ◌||◌, ap}
use Rattle.syntax_tree.specs.Outcome.{bound_in}
use Rattle.syntax_tree.proofs.Holding.{ok_along}
use Rattle.syntax_tree.proofs.Turns.{sum_parts}
use Rattle.program_meaning.specs.Collected.{collected}
use Rattle.collected_elements.proofs.SideLemmas.{bad_sides}
use Rattle.collected_elements.proofs.sides.has_bad_side.Goals as goal

pub has_bad_part-requires-clause-parts : goal.has_bad_part-requires-clause-parts
has_bad_part-requires-clause-parts c = sum_parts c.args.term.now c.in-Sum.parts c.as_slice.result.now c.requires.term c.in-Sum.is c.as_slice.ensures

pub returns-in-Sum-clause-bad : goal.returns-in-Sum-clause-bad
returns-in-Sum-clause-bad c =
    let bound = bound_in c.args.symbols.now c.args.binding.now.values in
    ok_along c.has_bad_part.result _ _ c.has_bad_part.ensures.bad
    (λ bad e. ap (λ b. (collected bound c.args.term.now).not_linear || b) e ∙ bad_sides bound c.args.term.now c.in-Sum.parts c.as_slice.result.now c.in-Sum.is c.as_slice.ensures)
