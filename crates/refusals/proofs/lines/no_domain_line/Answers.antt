use Rattle.refusals.proofs.AtomLemmas.{condition_said}
use Rattle.refusals.proofs.lines.no_domain_line.Goals as goal

pub returns : goal.returns
returns c =
    condition_said c.found_line.result c.args.site.now.name.now c.args.site.now.text.now c.args.site.now.rule.now c.args.site.now.sights.now c.in_ok-seen.seen
    c.items.result.now c.items-3.result.now c.in_ok-flags.flags c.items-2.result.now c.args.place c.before_true-number.result
    c.items.ensures c.items-3.ensures c.items-2.ensures c.in_ok-seen.ensures c.in_ok-flags.ensures c.before_true-number.ensures.before c.found_line.ensures
