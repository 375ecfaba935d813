use Rattle.std.proofs.Common.{map, ap, ◌∙◌}
use Rattle.predicate_order.specs.Ways.{rule_of}
use Rattle.predicate_order.proofs.Numbers.{all_below, ways_judged}
use Rattle.predicate_order.proofs.ways.Ways.flags.Goals as goal

pub least_model-requires : goal.least_model-requires
least_model-requires c =
    all_below c.args.self.now.table.keys c.args.self.now.ways c.requires.0 c.in_ok-rules.rules c.len.result c.requires.1
    (c.in_ok-rules.ensures ∙ ap (map rule_of) c.items.ensures) c.len.ensures.len

pub returns : goal.returns
returns c = λ named z.
    ways_judged c.args.self.now.table.keys c.args.self.now.ways named c.in_ok-flags.flags c.in_ok-rules.rules c.len.ensures.unique z
    (c.in_ok-rules.ensures ∙ ap (map rule_of) c.items.ensures) c.in_ok-flags.ensures.least
