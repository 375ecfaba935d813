use Rattle.std.proofs.Common.{◌++◌, ◌∙◌, ap, sym, refl}
use Rattle.variable_safety.specs.inner.Occurring.{element_read, element_variables}
use Rattle.variable_safety.specs.inner.Binding.{plain_literals}
use Rattle.variable_safety.proofs.Notes.{loose_at}
use Rattle.variable_safety.proofs.Reading.{element_condition}
use Rattle.variable_safety.proofs.noting.note_element.Goals as goal

pub returns : goal.returns
returns c =
    loose_at c.args.given.now.listed c.args.given.now.listed (element_variables (element_read c.args.element.now)) c.items.result.now
    (element_read c.args.element.now).condition (plain_literals c.as_slice.result.now) c.args.found.now c.note_loose.new.found refl
    (c.items.ensures ∙ c.in_ok-in_element.ensures ∙ ap (λ v. v ++ element_variables (element_read c.args.element.now)) c.new-variables.ensures)
    (ap plain_literals c.as_slice.ensures ∙ sym (element_condition c.args.element.now)) c.in_ok-note_loose.ensures
