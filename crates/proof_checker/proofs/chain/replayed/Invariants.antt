use Rattle.std.proofs.Common.{◌≡◌, drop, Some}
use Rattle.proof_checker.specs.inner.Replay.{chain_in}
use Rattle.proof_checker.proofs.chain.replayed.Given as goal

abbrev pub invariant-loop-link : goal.invariant-loop-link
invariant-loop-link l = chain_in l.table.live (Some l.so_far) (drop l.link-index l.links) ≡ chain_in l.table.live (Some l.fn.first) l.links
