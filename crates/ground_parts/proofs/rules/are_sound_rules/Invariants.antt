use Rattle.std.proofs.Common.{◌≡◌, drop}
use Rattle.ground_model.specs.Sound.{are_sound_rules}
use Rattle.ground_parts.specs.inner.Totals.{IsClear}
use Rattle.ground_parts.proofs.rules.are_sound_rules.Given as goal

abbrev pub invariant-loop-rule : goal.invariant-loop-rule
invariant-loop-rule l = record {
  so_far : are_sound_rules l.sizes.symbols l.sizes.atoms l.sizes.variables l.sizes.ends (drop l.rule-index l.rules) ≡ are_sound_rules l.sizes.symbols l.sizes.atoms l.sizes.variables l.sizes.ends l.rules;
  clear : IsClear l.sizes.variables l.scratch;
}
