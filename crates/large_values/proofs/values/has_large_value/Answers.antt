use Rattle.std.proofs.Common.{◌≤◌, ◌+◌, ◌||◌, ◌∙◌, not, drop, length, sym, ap, arith}
use Rattle.std.specs.List.{list_any}
use Rattle.std.proofs.lemmas.List.{at_drop_all}
use Rattle.large_values.proofs.ValueLemmas.{is_large, large_list, large_turn}
use Rattle.large_values.proofs.values.has_large_value.Goals as goal

pub returns-then-not-is_small_over : goal.returns-then-not-is_small_over
returns-then-not-is_small_over c =
    let ends = c.args.ends in
    let symbols = c.args.symbols.now in
    let places = c.args.places.now in
    let at = c.loop-at.at in
    let place = c.index-places-at.result in
    sym
    (large_list symbols ends places ∙ sym c.loop-at.invariant ∙ large_turn symbols ends places at place c.index-places-at.is c.loop-at-test.true
    ∙ ap (λ b. b || list_any (is_large symbols ends) (drop (at + 1) places)) (ap (is_large symbols ends) c.index-places-at.is ∙ ap not (sym c.is_small_over.ensures ∙ c.if-not-is_small_over.true)))

pub returns : goal.returns
returns c =
    let ends = c.args.ends in
    let symbols = c.args.symbols.now in
    let places = c.args.places.now in
    let end : length places ≤ c.loop-at.at = omega arith in
    sym (large_list symbols ends places ∙ sym c.loop-at.invariant ∙ at_drop_all (list_any (is_large symbols ends)) places c.loop-at.at end)
