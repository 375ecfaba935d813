use Rattle.command_words.proofs.RangeLemmas.{checker_settings-within}
use Rattle.command_words.proofs.laws.checker_settings_are_within.Goals as goal

pub returns : goal.returns
returns c = checker_settings-within
