use Rattle.std.proofs.Common.{◌≡◌, ◌↔◌, ◌<◌, ◌∙◌, All, length, map, slice_set, true, refl, sym, ap, subst, rules, SFits, w64, to_z, of_z}
use Rattle.std.proofs.lemmas.Int.{to_z-of_z}
use Rattle.std.specs.List.{insert}
use Rattle.ground_model.specs.Sound.{is_small}
use Rattle.program_meaning.specs.Said.{pair_in, IsKnownPair}
use Rattle.program_meaning.proofs.TupleSets.{added_in, inserted_in, set_small, inserted_small}
use Rattle.program_meaning.proofs.pairs.add_pair.Goals as goal

pub returns-then-is_at-clause-ok : goal.returns-then-is_at-clause-ok
returns-then-is_at-clause-ok c =
    let symbols = c.args.symbols.now in
    let items = c.args.pairs.now.items in
    let place = c.place_of-place.result in
    let fits : SFits w64 c.sum_at-sum.result = search rules in
    let same : to_z w64 (of_z w64 c.sum_at-sum.result) ≡ c.sum_at-sum.result = simp to_z-of_z in
    ap (λ z. map (pair_in symbols) (slice_set items place (c.args.variable, z))) same
    ∙ added_in symbols c.args.variable c.args.coefficient c.sum_at-sum.result items place (search rules) (search rules) (search rules)

pub returns-clause-ok : goal.returns-clause-ok
returns-clause-ok c =
    let symbols = c.args.symbols.now in
    let items = c.args.pairs.now.items in
    let place = c.place_of-place.result in
    let fits : SFits w64 c.args.coefficient = c.ranges.coefficient in
    let same : to_z w64 (of_z w64 c.args.coefficient) ≡ c.args.coefficient = simp to_z-of_z in
    ap (map (pair_in symbols)) c.in_ok-insert.ensures.items
    ∙ ap (λ z. map (pair_in symbols) (insert items place (c.args.variable, z))) same
    ∙ inserted_in symbols c.args.variable c.args.coefficient items place (search rules) c.requires.once c.requires.variable (search rules) (search rules)

pub returns-then-is_at-clause-small : goal.returns-then-is_at-clause-small
returns-then-is_at-clause-small c =
    let size = length c.args.symbols.now in
    let items = c.args.pairs.now.items in
    let place = c.place_of-place.result in
    let fits : SFits w64 c.sum_at-sum.result = search rules in
    let same : to_z w64 (of_z w64 c.sum_at-sum.result) ≡ c.sum_at-sum.result = simp to_z-of_z in
    let within : place < length items = search rules in
    subst (λ b. (b ≡ true) ↔ All (IsKnownPair size) (slice_set items place (c.args.variable, to_z w64 (of_z w64 c.sum_at-sum.result)))) (sym c.is_small.ensures)
    (subst (λ z. (is_small z ≡ true) ↔ All (IsKnownPair size) (slice_set items place (c.args.variable, z))) (sym same)
    (set_small size c.args.variable c.sum_at-sum.result items place c.requires.pairs c.requires.variable within))

pub returns-clause-small : goal.returns-clause-small
returns-clause-small c =
    let size = length c.args.symbols.now in
    let items = c.args.pairs.now.items in
    let place = c.place_of-place.result in
    let fits : SFits w64 c.args.coefficient = c.ranges.coefficient in
    let same : to_z w64 (of_z w64 c.args.coefficient) ≡ c.args.coefficient = simp to_z-of_z in
    let all = inserted_small size c.args.variable c.args.coefficient items place c.requires.pairs c.requires.variable c.requires.coefficient in (
      λ e. subst (All (IsKnownPair size)) (sym c.in_ok-insert.ensures.items)
          (subst (λ z. All (IsKnownPair size) (insert items place (c.args.variable, z))) (sym same) all),
      λ each. refl,
    )
