use Rattle.std.proofs.Common.{◌≡◌, drop}
use Rattle.std.specs.List.{list_any}
use Rattle.large_values.proofs.ValueLemmas.{is_large}
use Rattle.large_values.proofs.values.has_large_value.Given as goal

abbrev pub invariant-loop-at : goal.invariant-loop-at
invariant-loop-at l = list_any (is_large l.symbols l.ends) (drop l.at l.places) ≡ list_any (is_large l.symbols l.ends) l.places
