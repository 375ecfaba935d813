use Rattle.std.proofs.Common.{◌++◌, length, drop, flat_map}
use Rattle.linear_normal.specs.Bodies.{placed}
use Rattle.linear_normal.specs.Numbering.{contents_in}
use Rattle.completion.specs.Inputs.{rule_nogoods}
use Rattle.completion.proofs.RuleLemmas.{IsLeft}
use Rattle.completion.proofs.rule.add_rules.Given as goal

abbrev pub invariant-loop-rule : goal.invariant-loop-rule
invariant-loop-rule l =
    IsLeft l.ground l.bodies l.duties l.first l.nogoods
    (l.fn.nogoods ++ flat_map (rule_nogoods (contents_in l.ground) (length l.ground.atoms) (length l.ground.variables)) (placed 1 l.ground.rules))
    (drop l.rule-index l.rule-items)
