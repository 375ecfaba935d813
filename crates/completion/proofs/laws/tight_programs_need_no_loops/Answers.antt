use Rattle.completion.proofs.CompletionLemmas.{tight_law}
use Rattle.completion.proofs.laws.tight_programs_need_no_loops.Goals as goal

pub returns : goal.returns
returns c = tight_law
