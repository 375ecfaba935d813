use Rattle.ground_rule_laws.proofs.SoundObjectives.{sound_objective_law}
use Rattle.ground_rule_laws.proofs.SoundRules.{sound_rule_law, sound_rules_law}
use Rattle.ground_rule_laws.proofs.laws.rules_are_sound.Goals as goal

pub returns-clause-rule : goal.returns-clause-rule
returns-clause-rule c = sound_rule_law

pub returns-clause-rules : goal.returns-clause-rules
returns-clause-rules c = sound_rules_law

pub returns-clause-objective : goal.returns-clause-objective
returns-clause-objective c = sound_objective_law
