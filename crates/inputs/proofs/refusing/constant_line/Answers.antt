use Rattle.inputs.proofs.RefusalLemmas.{constant-from}
use Rattle.inputs.proofs.refusing.constant_line.Goals as goal

pub returns : goal.returns
returns c =
    constant-from c.line_at.result c.args.name.now c.args.text.now c.args.place c.min.result c.line_column-line.result.0 c.line_column-line.result.1
    c.min.ensures c.line_column-line.ensures.line c.line_column-line.ensures.column c.line_at.ensures
