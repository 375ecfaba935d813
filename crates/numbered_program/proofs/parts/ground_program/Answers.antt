use Rattle.std.proofs.Common.{◌≡◌, None, Some}
use Rattle.ground_parts.specs.Parts.{make_a_program, parts_of}
use Rattle.numbered_program.proofs.PartLemmas.{few_atoms, few_variables, whole, small, large, canonical, passed, failed, same_of}
use Rattle.numbered_program.proofs.parts.ground_program.Goals as goal

pub numbered-requires-clause-few_atoms : goal.numbered-requires-clause-few_atoms
numbered-requires-clause-few_atoms c = few_atoms c.args.symbols c.args.parts c.requires.known c.requires.grounded

pub numbered-requires-clause-few_variables : goal.numbered-requires-clause-few_variables
numbered-requires-clause-few_variables c = few_variables c.args.symbols c.args.parts c.requires.known c.requires.grounded

pub returns-in-Ok-Some-clause-canonical : goal.returns-in-Ok-Some-clause-canonical
returns-in-Ok-Some-clause-canonical c =
    let e : c.in-Ok-Some.field-0 ≡ Some c.in-Ok-Some.program = cc in
    canonical c.args.symbols c.args.parts c.requires.known c.in-Ok.made c.in-Ok.ensures c.in-Ok-Some.program
    (same_of c.in-Ok-Some.field-0 c.in-Ok-Some.program (λ p. parts_of p ≡ whole c.args.symbols c.args.parts c.requires.known c.in-Ok.made c.in-Ok.ensures) e c.in-Ok-Some.ensures.same)

pub returns-in-Ok-Some-clause-small : goal.returns-in-Ok-Some-clause-small
returns-in-Ok-Some-clause-small c =
    let e : c.in-Ok-Some.field-0 ≡ Some c.in-Ok-Some.program = cc in
    small c.args.symbols c.args.parts c.requires.known c.in-Ok.made c.in-Ok.ensures
    (passed c.in-Ok-Some.field-0 c.in-Ok-Some.program (make_a_program (whole c.args.symbols c.args.parts c.requires.known c.in-Ok.made c.in-Ok.ensures)) e c.in-Ok-Some.ensures.some)

pub returns-in-Ok-None-clause-stop : goal.returns-in-Ok-None-clause-stop
returns-in-Ok-None-clause-stop c =
    let e : c.in-Ok-None.field-0 ≡ None = cc in
    large c.args.symbols c.args.parts c.requires.known c.in-Ok.made c.in-Ok.ensures c.requires.grounded
    (failed c.in-Ok-None.field-0 (make_a_program (whole c.args.symbols c.args.parts c.requires.known c.in-Ok.made c.in-Ok.ensures)) e c.in-Ok-None.ensures.some)
