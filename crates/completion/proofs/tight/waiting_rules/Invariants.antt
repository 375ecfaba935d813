use Rattle.std.proofs.Common.{◌≡◌, ◌++◌, map, drop, vec_items}
use Rattle.completion.specs.inner.Waits.{rules_with}
use Rattle.completion.proofs.tight.waiting_rules.Given as goal

abbrev pub invariant-loop-at : goal.invariant-loop-at
invariant-loop-at l = l.rules ++ rules_with l.at (map vec_items (drop l.at l.rows)) ≡ rules_with 0 (map vec_items l.rows)
