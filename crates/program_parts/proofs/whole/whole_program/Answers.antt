use Rattle.safety_meaning.specs.Program.{program_of}
use Rattle.program_parts.proofs.FoundLemmas.{grounded_parts, stop_of}
use Rattle.program_parts.proofs.whole.whole_program.Goals as goal

pub ground_program-requires-clause-grounded : goal.ground_program-requires-clause-grounded
ground_program-requires-clause-grounded c =
    grounded_parts c.args.symbols c.args.program.now c.args.found c.in-Ok.parts c.in-Ok.ensures.parts c.in-Ok.ensures.ends c.requires.within

pub returns-in-Ok-ground_program-clause-canonical : goal.returns-in-Ok-ground_program-clause-canonical
returns-in-Ok-ground_program-clause-canonical c = λ old rewriting is.
    c.in-Ok-ground_program.ensures.canonical (program_of old.statements) (c.in-Ok.ensures.parts old rewriting is)

pub returns-in-Ok-ground_program-clause-small : goal.returns-in-Ok-ground_program-clause-small
returns-in-Ok-ground_program-clause-small c = λ old rewriting is.
    c.in-Ok-ground_program.ensures.small (program_of old.statements) (c.in-Ok.ensures.parts old rewriting is)

pub returns-in-Err-ground_program-clause-stop : goal.returns-in-Err-ground_program-clause-stop
returns-in-Err-ground_program-clause-stop c =
    stop_of c.args.symbols c.args.program.now c.args.found c.in-Ok.parts c.in-Ok.ensures.parts c.in-Err-ground_program.stop c.in-Err-ground_program.ensures.stop
