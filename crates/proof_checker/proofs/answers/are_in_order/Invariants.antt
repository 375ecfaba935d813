use Rattle.std.proofs.Common.{◌≡◌, ◌+◌, drop}
use Rattle.proof_checker.specs.inner.Replay.{counts_from}
use Rattle.proof_checker.proofs.answers.are_in_order.Given as goal

abbrev pub invariant-loop-value : goal.invariant-loop-value
invariant-loop-value l = record {
  rest : counts_from l.next (drop l.value-index l.values) ≡ counts_from 1 l.values;
  place : l.next ≡ l.value-index + 1;
}
