use Rattle.std.proofs.Common.{◌<◌, ℤ, List, [], All, length, map, true≢false, sym, ◌∙◌, subst, arith}
use Rattle.symbols.specs.Table.{symbol_at}
use Rattle.ground_model.specs.Members.{IsMember}
use Rattle.ground_model.specs.Sound.{most}
use Rattle.program_meaning.specs.declared.collected.CollectedPlace.{CollectedPlace}
use Rattle.program_meaning.specs.Ascending.{IsOrderedListOf, Exceeds}
use Rattle.interval_sets.specs.Ranges.{range_cmp}
use Rattle.collected_atoms.specs.inner.Settled.{all_ids}
use Rattle.collected_atoms.proofs.SizeLemmas.{known_ids}
use Rattle.collected_atoms.proofs.AnswerLemmas.{more_ranges, more_domain_variables, sized_ranges}
use Rattle.collected_atoms.proofs.collecting.domain_atom.Goals as goal

pub returns-then-len-gt-MOST-clause-collects : goal.returns-then-len-gt-MOST-clause-collects
returns-then-len-gt-MOST-clause-collects c atoms rule values theory e h =
    let set = subst (λ (xs : List (ℤ × ℤ)). IsOrderedListOf range_cmp (IsMember xs) c.distinct_ranges-ranges.result) c.into_vec.ensures c.distinct_ranges-ranges.ensures in
    more_ranges c.args.symbols.now (IsMember atoms) rule values theory c.args.gathered c.args.guard h e c.distinct_ranges-ranges.result set (subst (λ n. most < n) c.len.ensures c.if-len-gt-MOST.true)

pub has_many_variables-requires : goal.has_many_variables-requires
has_many_variables-requires c =
    subst (λ (ps : List CollectedPlace). All (λ id. id < length c.args.symbols.now) (all_ids ps c.args.guard.guard)) (sym (c.items.ensures ∙ c.new-places.ensures))
    (known_ids c.args.symbols.now [] c.args.guard.guard tt c.requires.guard)

pub returns-in-Ok-true-clause-collects : goal.returns-in-Ok-true-clause-collects
returns-in-Ok-true-clause-collects c atoms rule values theory e h =
    let symbols = c.args.symbols.now in
    let set = subst (λ (xs : List (ℤ × ℤ)). IsOrderedListOf range_cmp (IsMember xs) c.distinct_ranges-ranges.result) c.into_vec.ensures c.distinct_ranges-ranges.ensures in
    more_domain_variables symbols (IsMember atoms) rule values theory c.args.gathered c.args.guard h e c.distinct_ranges-ranges.result set
    (subst (λ (ps : List CollectedPlace). Exceeds (IsMember (map (symbol_at symbols) (all_ids ps c.args.guard.guard))) most) (c.items.ensures ∙ c.new-places.ensures)
    (c.in-Ok-true.ensures.0 c.in-Ok-true.field-0-test))

pub returns-clause-collects : goal.returns-clause-collects
returns-clause-collects c atoms rule values theory e h =
    let symbols = c.args.symbols.now in
    let set = subst (λ (xs : List (ℤ × ℤ)). IsOrderedListOf range_cmp (IsMember xs) c.distinct_ranges-ranges.result) c.into_vec.ensures c.distinct_ranges-ranges.ensures in
    let few : most < length c.distinct_ranges-ranges.result → ⊥ =
    (λ l. absurd (omega (arith, subst (λ n. most < n) (sym c.len.ensures) l, c.if-len-gt-MOST.false))) in
    let small : Exceeds (IsMember (map (symbol_at symbols) (all_ids [] c.args.guard.guard))) most → ⊥ =
    (λ x. true≢false (sym (c.in-Ok-false.ensures.1 (subst (λ (ps : List CollectedPlace). Exceeds (IsMember (map (symbol_at symbols) (all_ids ps c.args.guard.guard))) most)
    (sym (c.items.ensures ∙ c.new-places.ensures)) x)) ∙ c.in-Ok-false.field-0-test)) in
    let s = sized_ranges symbols (IsMember atoms) rule values theory c.args.gathered c.args.guard h e c.distinct_ranges-ranges.result set few small c.either-large.result c.either-large.ensures in
    c.domain_of.ensures.collects atoms rule values theory e s.0 s.1
