use Rattle.std.proofs.Common.{map}
use Rattle.program_meaning.specs.Said.{value_in}
use Rattle.refusals.proofs.LineLemmas.{outside_said}
use Rattle.refusals.proofs.bindings.outside_line.Goals as goal

pub returns-in-Ok : goal.returns-in-Ok
returns-in-Ok c =
    outside_said c.bound_line.result (map (λ name. name.now) c.args.names.now) c.args.texts.now c.args.program.now c.args.place c.args.said.now c.args.variables.now
    (map (value_in c.args.symbols.now) c.args.values.now) c.in-Ok.site c.in-Ok.ensures c.bound_line.ensures
