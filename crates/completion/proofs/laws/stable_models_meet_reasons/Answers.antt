use Rattle.completion.proofs.CompletionLemmas.{reason_law}
use Rattle.completion.proofs.laws.stable_models_meet_reasons.Goals as goal

pub returns : goal.returns
returns c = reason_law
