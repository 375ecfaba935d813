use Rattle.std.proofs.Common.{map, sym, subst}
use Rattle.program_meaning.specs.Read.{choice_read, head_read}
use Rattle.variable_safety.specs.inner.Noting.{Notes, LooseInHead, LooseInChoices}
use Rattle.variable_safety.proofs.noting.note_head.Goals as goal

pub returns-in_ok-note_choices-in-Choice : goal.returns-in_ok-note_choices-in-Choice
returns-in_ok-note_choices-in-Choice c =
    subst (λ h. Notes (LooseInHead c.args.given.now.listed (head_read h)) c.args.found.now c.note_choices.new.found) (sym c.in-Choice.is)
    (subst (λ v. Notes (LooseInChoices c.args.given.now.listed (map choice_read v)) c.args.found.now c.note_choices.new.found) c.items.ensures c.in_ok-note_choices-in-Choice.ensures)
