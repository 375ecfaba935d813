use Rattle.std.proofs.Common.{◌≡◌, drop}
use Rattle.std.specs.List.{list_any}
use Rattle.derivation_meaning.specs.State.{is_empty}
use Rattle.search_core.proofs.pieces.has_empty.Given as goal

abbrev pub invariant-loop-nogood : goal.invariant-loop-nogood
invariant-loop-nogood l = list_any is_empty (drop l.nogood-index l.nogoods) ≡ list_any is_empty l.nogoods
