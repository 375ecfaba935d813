use Rattle.std.proofs.Common.{◌≡◌, ◌+◌, ◌++◌, map, length}
use Rattle.std.specs.Prelude.{reverse}
use Rattle.derivation_meaning.specs.State.{held_from}
use Rattle.proof_checker.specs.inner.View.{entry_of}
use Rattle.proof_checker.proofs.acceptance.held_from_one.Given as goal

abbrev pub invariant-fill : goal.invariant-fill
invariant-fill l = record {
  count : l.table.next + length l.rest ≡ 1 + length l.initial.rest;
  held : held_from 1 (reverse l.initial.rest) ≡ map entry_of l.table.live ++ held_from l.table.next (reverse l.rest);
}

abbrev pub decreases-fill : goal.decreases-fill
decreases-fill l = length l.rest
