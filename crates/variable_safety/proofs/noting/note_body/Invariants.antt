use Rattle.std.proofs.Common.{map, take}
use Rattle.program_meaning.specs.Read.{literal_read}
use Rattle.variable_safety.specs.inner.Noting.{Notes, LooseInBody}
use Rattle.variable_safety.proofs.noting.note_body.Given as goal

abbrev pub invariant-loop-literal : goal.invariant-loop-literal
invariant-loop-literal l = Notes (LooseInBody l.given.listed (map literal_read (take l.literal-index l.body))) l.fn.found l.found
