use Rattle.std.proofs.Common.{◌≡◌, ◌-◌, ◌≤◌, length, drop}
use Rattle.derivation.specs.Reading.{digits_from}
use Rattle.derivation.proofs.numbers.more_digits.Given as goal

abbrev pub invariant-digits : goal.invariant-digits
invariant-digits l = record {
  within : l.place ≤ length l.bytes;
  read : digits_from l.number (drop l.place l.bytes) ≡ digits_from l.front l.bytes;
}

abbrev pub decreases-digits : goal.decreases-digits
decreases-digits l = length l.bytes - l.place
