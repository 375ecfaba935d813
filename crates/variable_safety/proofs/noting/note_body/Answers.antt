use Rattle.variable_safety.specs.inner.Noting.{LooseInLiteral}
use Rattle.program_meaning.specs.Read.{literal_read}
use Rattle.variable_safety.proofs.Notes.{notes_more}
use Rattle.variable_safety.proofs.noting.note_body.Goals as goal

pub loop-literal-preserved : goal.loop-literal-preserved
loop-literal-preserved c =
    notes_more (LooseInLiteral c.args.given.now.listed) literal_read c.args.body.now c.loop-literal.literal-index c.literal-item.result c.args.found.now c.loop-literal.found
    c.note_literal.new.found c.literal-item.is c.loop-literal-test.true c.loop-literal.invariant c.in_ok-note_literal.ensures
