use Rattle.std.proofs.Common.{sym, ◌∙◌, FitsSigned}
use Rattle.std.proofs.lemmas.Int.{to_z-of_z}
use Rattle.std.specs.Int.{w128}
use Rattle.linear_normal.specs.Bounds.{bounds_named}
use Rattle.linear_normal.specs.Steps.{is_within_window}
use Rattle.step_rules.proofs.CountLemmas.{work_is}
use Rattle.step_rules.proofs.disjoint.work_within.Goals as goal

pub returns : goal.returns
returns c =
    let fits : FitsSigned w128 c.added.result = record { sfits = c.added.type_inv } in
    to_z-of_z w128 c.added.result fits ∙ c.added.ensures
    ∙ sym (work_is (is_within_window (bounds_named c.args.ends c.args.lits.now) c.args.window.from c.args.window.to) c.args.places.now)
