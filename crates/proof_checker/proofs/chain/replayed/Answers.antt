use Rattle.std.proofs.Common.{sym, ◌∙◌}
use Rattle.proof_checker.proofs.ReplayLemmas.{none_from}
use Rattle.proof_checker.proofs.chain.replayed.Goals as goal

pub returns-in-None : goal.returns-in-None
returns-in-None c =
    none_from c.args.table.now.live c.args.links.now c.loop-link.link-index _ c.loop-link.so_far c.args.first c.loop-link-test.true c.loop-link.invariant
    (sym c.in-None.is ∙ c.in_ok-next.ensures)
