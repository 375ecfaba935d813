use Rattle.std.proofs.Common.{◌≡◌, [], filter, length, reverse, ◌∙◌, refl, arith}
use Rattle.std.specs.List.{AllByRecursion}
use Rattle.ground_model.specs.declared.program.GroundProgram.{GroundProgram}
use Rattle.ground_model.specs.Answers.{IsNumbered}
use Rattle.ground_model.specs.inner.Ordered.{numbers_placed}
use Rattle.ground_model.specs.Printed.{name_of, is_shown}
use Rattle.ground_model.specs.World.{flagged_from}
use Rattle.ground_model.proofs.PrintLemmas.{spaced_entries, flagged_numbered}
use Rattle.ground_model.proofs.print.spaced_line.Goals as goal

flags : (program : GroundProgram) → AllByRecursion (IsNumbered (length program.variables)) (flagged_from 1 program.shown_variables)
flags program =
    let same = program.variable_flags in
    flagged_numbered 1 (length program.variables) program.shown_variables (omega arith) (omega arith)

pub ordered-requires-2-clause-numbers : goal.ordered-requires-2-clause-numbers
ordered-requires-2-clause-numbers c = rw (c.items-5.ensures, c.in_ok-shown-2.ensures, c.items-4.ensures) (flags c.args.program.now)

pub returns : goal.returns
returns c =
    let program = c.args.program.now in
    let answer = c.args.answer.now in
    let atoms : reverse c.in_ok-atoms.atoms.items ≡ numbers_placed (name_of program.symbols program.atoms) (filter (is_shown program.shown_atoms) answer.atoms) [] =
    c.in_ok-atoms.ensures.order ∙ rw (c.items-3.ensures, c.in_ok-shown.ensures.shown, c.items.ensures, c.items-2.ensures) refl in
    let variables : reverse c.in_ok-variables.variables.items ≡ numbers_placed (name_of program.symbols program.variables) (flagged_from 1 program.shown_variables) [] =
    c.in_ok-variables.ensures.order ∙ rw (c.items-5.ensures, c.in_ok-shown-2.ensures, c.items-4.ensures) refl in
    let law = spaced_entries program answer (reverse c.in_ok-atoms.atoms.items) (reverse c.in_ok-variables.variables.items) atoms variables in
    rw (c.in_ok-push_variables.ensures, c.in_ok-push_atoms.ensures, c.new-line.ensures, c.items-6.ensures) law
