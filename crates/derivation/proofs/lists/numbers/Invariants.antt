use Rattle.std.proofs.Common.{◌≡◌, ◌-◌, length}
use Rattle.derivation.specs.Reading.{rows, number_item}
use Rattle.derivation.proofs.lists.numbers.Given as goal

abbrev pub invariant-items : goal.invariant-items
invariant-items l = record {
  last : l.end ≡ length l.bytes;
  read : rows number_item (l.end - l.counter) l.found l.rest ≡ rows number_item (length l.bytes) l.initial.found l.bytes;
}
