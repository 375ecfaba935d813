use Rattle.std.proofs.Common.{◌++◌, ◌∙◌, ap, refl}
use Rattle.program_meaning.specs.Read.{choice_read}
use Rattle.variable_safety.specs.inner.Occurring.{choice_variables}
use Rattle.variable_safety.specs.inner.Binding.{plain_literals}
use Rattle.variable_safety.proofs.Notes.{loose_at}
use Rattle.variable_safety.proofs.noting.note_choice.Goals as goal

pub returns : goal.returns
returns c =
    loose_at c.args.given.now.listed c.args.given.now.listed (choice_variables (choice_read c.args.element.now)) c.items.result.now
    (choice_read c.args.element.now).condition (plain_literals c.items-2.result.now) c.args.found.now c.note_loose.new.found refl
    (c.items.ensures ∙ c.in_ok-in_choice.ensures ∙ ap (λ v. v ++ choice_variables (choice_read c.args.element.now)) c.new-variables.ensures)
    (ap plain_literals c.items-2.ensures) c.in_ok-note_loose.ensures
