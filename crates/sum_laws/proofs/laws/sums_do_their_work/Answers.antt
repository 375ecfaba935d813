use Rattle.sum_laws.proofs.SumWorkLemmas.{sum_work_law}
use Rattle.sum_laws.proofs.laws.sums_do_their_work.Goals as goal

pub returns : goal.returns
returns c = sum_work_law
