use Rattle.std.proofs.Common.{◌≡◌, ◌-◌, length}
use Rattle.derivation.specs.Reading.{rows, lit_item}
use Rattle.derivation.proofs.lists.lits.Given as goal

abbrev pub invariant-items : goal.invariant-items
invariant-items l = record {
  last : l.end ≡ length l.bytes;
  read : rows lit_item (l.end - l.counter) l.found l.rest ≡ rows lit_item (length l.bytes) l.initial.found l.bytes;
}
