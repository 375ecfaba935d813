use Rattle.std.proofs.Common.{map}
use Rattle.refusals.proofs.LineLemmas.{failure_said}
use Rattle.refusals.proofs.lines.failure_line.Goals as goal

pub returns-in-Ok : goal.returns-in-Ok
returns-in-Ok c =
    failure_said c.site_line.result (map (λ name. name.now) c.args.names.now) c.args.texts.now c.args.program.now c.args.found c.in-Ok.site
    c.requires.first c.in-Ok.ensures c.site_line.ensures
