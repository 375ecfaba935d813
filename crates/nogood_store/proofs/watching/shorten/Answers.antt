use Rattle.std.proofs.Common.{arith, ◌<◌, get_or, refl, subst}
use Rattle.nogood_store.specs.declared.watching.Look.{Look}
use Rattle.nogood_store.proofs.Cutting.{cut_within, left_low}
use Rattle.nogood_store.proofs.watching.shorten.Goals as goal

pub returns-then-most-len-clause-stored : goal.returns-then-most-len-clause-stored
returns-then-most-len-clause-stored c = λ slots x. c.cut.ensures.stored slots (left_low slots c.args.work.now _ refl x)

pub returns-then-most-len-clause-within : goal.returns-then-most-len-clause-within
returns-then-most-len-clause-within c = λ slots x.
    cut_within c.args.work.now.looked.items c.cut.new.work.looked.items c.args.most c.index.result.now c.cut.ensures.front
    (λ k e l. subst (λ (q : Look). (get_or c.cut.new.work.looked.items k e).level < q.level) c.index.ensures (c.cut.ensures.below x.climbs k e l))
    (omega arith)
