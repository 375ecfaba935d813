use Rattle.std.proofs.Common.{◌≡◌, ℕ, ◌+◌, ◌<◌, length}
use Rattle.std.specs.Prelude.{slice_index}
use Rattle.clingcon_app.proofs.numbering.atom_numbers.Given as goal

abbrev pub invariant-loop-place : goal.invariant-loop-place
invariant-loop-place l = record {
  len : length l.numbers.items ≡ l.fn.symbols;
  below : (k : ℕ) → k < l.place → slice_index l.numbers.items (slice_index l.atoms k) ≡ k + 1;
}
