use Rattle.inputs.proofs.OneProgram.{one_program, one_line, none_refused}
use Rattle.inputs.proofs.laws.texts_have_one_program.Goals as goal

pub returns-clause-program : goal.returns-clause-program
returns-clause-program c texts one other a b = one_program texts one other a b

pub returns-clause-line : goal.returns-clause-line
returns-clause-line c names texts line other a b = one_line names texts line other a b

pub returns-clause-apart : goal.returns-clause-apart
returns-clause-apart c names texts line program a b = none_refused names texts line program a b
