use Rattle.std.proofs.Common.{◌≡◌, ◌↔◌, ◌++◌, IsTrue, ℕ, ℤ, List, All, length, map, true, ◌-ℤ◌, to_z, of_z, sym, ◌∙◌, ap, subst}
use Rattle.std.specs.Int.{w64}
use Rattle.std.proofs.lemmas.Int.{to_z-of_z}
use Rattle.std.specs.List.{flat_map}
use Rattle.ground_model.specs.Sound.{is_small, coefficient}
use Rattle.program_meaning.specs.declared.collected.CollectedPlace.{CollectedPlace}
use Rattle.linear_totals.specs.inner.Sums.{turned, constants}
use Rattle.linear_totals.proofs.TotalLemmas.{small_fits, all_pairs, small_difference, all_known, are_ids, are_small}
use Rattle.linear_totals.proofs.total.is_small_total.Goals as goal

pub has_small_sums-requires : goal.has_small_sums-requires
has_small_sums-requires c =
    let symbols = c.args.symbols.now in
    let ids : List (ℕ × ℤ) = all_pairs c.args.places.now c.args.right.now.pairs in
    let same : c.in-Ok.pairs.items ≡ ids =
    c.in-Ok.ensures ∙ ap (λ (r : List (ℕ × ℤ)). flat_map (λ (place : CollectedPlace). place.linear.pairs) c.args.places.now ++ map turned r) c.items.ensures in
    subst (All (λ (p : ℕ × ℤ). is_small p.1 ≡ true)) (sym same)
    (are_small (length c.args.symbols.now) (all_pairs c.args.places.now c.args.right.now.pairs)
    (all_known c.args.symbols.now c.args.places.now c.args.right.now c.requires.places c.requires.right))

pub returns-in-Ok : goal.returns-in-Ok
returns-in-Ok c =
    let ids : List (ℕ × ℤ) = all_pairs c.args.places.now c.args.right.now.pairs in
    let same : c.in-Ok.pairs.items ≡ ids =
    c.in-Ok.ensures ∙ ap (λ (r : List (ℕ × ℤ)). flat_map (λ (place : CollectedPlace). place.linear.pairs) c.args.places.now ++ map turned r) c.items.ensures in
    let sums = subst (λ (ps : List (ℕ × ℤ)). IsTrue c.has_small_sums.result ↔ ((x : ℕ) → is_small (coefficient x ps) ≡ true)) same c.has_small_sums.ensures in
    let known = all_known c.args.symbols.now c.args.places.now c.args.right.now c.requires.places c.requires.right in
    let right : ℤ = c.args.right.now.constant in
    let same_right : to_z w64 (of_z w64 right) ≡ right = to_z-of_z w64 right (small_fits right c.requires.right.constant) in
    c.both.ensures
    ∙ small_difference c.args.symbols.now c.symbols_are_distinct.ensures c.args.places.now c.args.right.now
    (are_ids (length c.args.symbols.now) (all_pairs c.args.places.now c.args.right.now.pairs) known) c.requires.right.rise c.has_small_sums.result c.is_small_constant.result sums
    (c.is_small_constant.ensures ∙ ap (λ z. is_small (constants c.args.places.now -ℤ z)) same_right)
