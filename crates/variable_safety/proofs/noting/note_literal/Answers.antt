use Rattle.std.proofs.Common.{sym, ap, ◌∙◌, subst}
use Rattle.program_meaning.specs.Read.{literal_read}
use Rattle.variable_safety.specs.inner.Noting.{Notes, LooseInLiteral}
use Rattle.variable_safety.proofs.Reading.{told_read}
use Rattle.variable_safety.proofs.noting.note_literal.Goals as goal

pub returns-in_ok-note_theory-in-Theory : goal.returns-in_ok-note_theory-in-Theory
returns-in_ok-note_theory-in-Theory c =
    subst (λ l. Notes (LooseInLiteral c.args.given.now.listed l) c.args.found.now c.note_theory.new.found)
    (sym (ap literal_read c.in-Theory.is ∙ told_read c.in-Theory.theory c.in-Theory.field-1)) c.in_ok-note_theory-in-Theory.ensures
