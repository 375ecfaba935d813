use Rattle.parsed_rules.proofs.Rules.{parsed_law}
use Rattle.parsed_rules.proofs.laws.parsed_rules_are_checked.Goals as goal

pub returns : goal.returns
returns c = parsed_law
