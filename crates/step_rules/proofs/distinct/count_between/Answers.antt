use Rattle.std.proofs.Common.{sym, ◌∙◌}
use Rattle.linear_normal.specs.Bounds.{bounds_named}
use Rattle.linear_normal.specs.Steps.{is_between}
use Rattle.step_rules.proofs.CountLemmas.{count_is}
use Rattle.step_rules.proofs.distinct.count_between.Goals as goal

pub returns : goal.returns
returns c =
    c.counted.ensures ∙ sym (count_is (is_between (bounds_named c.args.ends c.args.lits.now) c.args.window.from c.args.window.to) c.args.places.now)
