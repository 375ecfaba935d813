use Rattle.std.proofs.Common.{◌≡◌, [], map, vec_items}
use Rattle.std.specs.List.{range_with_len}
use Rattle.completion.proofs.tight.empty_rows.Given as goal

abbrev pub invariant-loop : goal.invariant-loop
invariant-loop l = map vec_items l.rows.items ≡ map (λ a. []) (range_with_len 0 l.counter)
