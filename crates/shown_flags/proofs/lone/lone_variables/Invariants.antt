use Rattle.std.proofs.Common.{◌≡◌, ◌||◌, ℕ, drop, length}
use Rattle.std.specs.List.{AllByRecursion, list_any}
use Rattle.symbol_rules.specs.Reading.{HasPlace}
use Rattle.shown_flags.specs.inner.Lone.{is_lone, flag_of}
use Rattle.shown_flags.proofs.lone.lone_variables.Given as goal

abbrev pub invariant-loop-place : goal.invariant-loop-place
invariant-loop-place l = record {
  size : length l.marks.items ≡ l.symbols;
  left : AllByRecursion (HasPlace l.symbols) (drop l.place-index l.places);
  so_far : (id : ℕ) → (list_any (is_lone id) (drop l.place-index l.places) || flag_of l.marks.items id) ≡ list_any (is_lone id) l.places;
}
