use Rattle.completion.proofs.CompletionLemmas.{completion_law}
use Rattle.completion.proofs.laws.nogoods_have_the_stable_models.Goals as goal

pub returns : goal.returns
returns c = completion_law
