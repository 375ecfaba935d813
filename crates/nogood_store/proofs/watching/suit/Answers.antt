use Rattle.std.proofs.Common.{List, ◌++◌, sym, ap}
use Rattle.nogood_store.specs.declared.watching.Look.{Look}
use Rattle.nogood_store.specs.inner.Watching.{looks_of}
use Rattle.nogood_store.proofs.watching.suit.Goals as goal

pub returns-clause-front : goal.returns-clause-front
returns-clause-front c = λ all f. (all, sym (ap (λ (ls : List Look). looks_of ls ++ all) c.forget.ensures.looked))
