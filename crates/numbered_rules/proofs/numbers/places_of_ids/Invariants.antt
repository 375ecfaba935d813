use Rattle.std.proofs.Common.{◌≡◌, ◌≤◌, ◌+◌, ℕ, drop, length}
use Rattle.std.specs.Prelude.{slice_index}
use Rattle.numbered_rules.specs.inner.ByNumber.{number_among}
use Rattle.numbered_rules.proofs.numbers.places_of_ids.Given as goal

abbrev pub invariant-loop-at : goal.invariant-loop-at
invariant-loop-at l = record {
  within : l.at ≤ length l.ids;
  size : length l.numbers.items ≡ l.fn.symbols;
  so_far : (id : ℕ) → slice_index l.numbers.items id ≡ number_among (l.at + 1) (drop l.at l.ids) id;
}

abbrev pub decreases-loop-at : goal.decreases-loop-at
decreases-loop-at l = l.at
