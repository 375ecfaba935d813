use Rattle.command_words.proofs.RangeLemmas.{solver_settings-within}
use Rattle.command_words.proofs.laws.solver_settings_are_within.Goals as goal

pub returns : goal.returns
returns c = solver_settings-within
