use Rattle.std.proofs.Common.{◌≡◌, ◌++◌, drop, length, map}
use Rattle.std.specs.List.{AllByRecursion}
use Rattle.symbol_rules.specs.Reading.{HasRule}
use Rattle.numbered_rules.specs.inner.ByNumber.{rule_by}
use Rattle.numbered_rules.proofs.rules.rules_of.Given as goal

abbrev pub invariant-loop-rule : goal.invariant-loop-rule
invariant-loop-rule l = record {
  so_far : l.made ++ map (rule_by l.atoms l.variables) (drop l.rule-index l.rules) ≡ map (rule_by l.atoms l.variables) l.rules;
  left : AllByRecursion (HasRule (length l.atoms) (length l.variables)) (drop l.rule-index l.rules);
}
