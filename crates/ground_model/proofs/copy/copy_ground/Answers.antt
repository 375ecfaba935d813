use Rattle.std.proofs.Common.{refl, ◌∙◌}
use Rattle.ground_model.proofs.SameProgram.{same_program}
use Rattle.ground_model.proofs.copy.copy_ground.Goals as goal

pub returns : goal.returns
returns c =
    same_program _ c.args.program.now refl (c.in_ok-atoms.ensures ∙ c.items-4.ensures) (c.in_ok-variables.ensures ∙ c.items-5.ensures)
    (c.in_ok-rules.ensures ∙ c.items.ensures) refl (c.in_ok-smaller.ensures ∙ c.items-2.ensures) (c.in_ok-larger.ensures ∙ c.items-3.ensures)
    (c.in_ok-shown_atoms.ensures ∙ c.items-6.ensures) (c.in_ok-shown_variables.ensures ∙ c.items-7.ensures) c.in_ok-symbols.ensures.same
