use Rattle.search_laws.proofs.LevelLaws.{calm_learned}
use Rattle.search_laws.proofs.laws.learned_nogoods_wait.Goals as goal

pub returns : goal.returns
returns c = calm_learned
