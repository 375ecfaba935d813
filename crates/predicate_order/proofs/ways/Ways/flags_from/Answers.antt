use Rattle.std.proofs.Common.{map, ap, ◌∙◌}
use Rattle.predicate_order.specs.Ways.{rule_of}
use Rattle.predicate_order.proofs.Numbers.{all_below_from, ways_judged_from}
use Rattle.predicate_order.proofs.ways.Ways.flags_from.Goals as goal

pub least_model-requires : goal.least_model-requires
least_model-requires c =
    all_below_from c.args.self.now.table.keys c.args.self.now.ways c.requires.known.0 c.in_ok-rules.rules c.push.new.self c.len.result c.args.start
    c.requires.known.1 (c.in_ok-rules.ensures ∙ ap (map rule_of) c.items.ensures) c.in_ok-push.ensures.ok c.requires.start c.len.ensures.len

pub returns : goal.returns
returns c = λ named p z here.
    ways_judged_from c.args.self.now.table.keys c.args.self.now.ways named c.in_ok-flags.flags c.in_ok-rules.rules c.push.new.self c.args.start p
    c.len.ensures.unique z here (c.in_ok-rules.ensures ∙ ap (map rule_of) c.items.ensures) c.in_ok-push.ensures.ok c.in_ok-flags.ensures.least
