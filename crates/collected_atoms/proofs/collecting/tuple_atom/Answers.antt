use Rattle.std.proofs.Common.{◌<◌, List, All, length, map, true≢false, sym, ◌∙◌, subst, arith}
use Rattle.symbols.specs.Table.{symbol_at}
use Rattle.ground_model.specs.Members.{IsMember}
use Rattle.ground_model.specs.Sound.{most}
use Rattle.program_meaning.specs.declared.collected.CollectedPlace.{CollectedPlace}
use Rattle.program_meaning.specs.Ascending.{IsOrderedListOf, Exceeds}
use Rattle.program_meaning.specs.Said.{place_in}
use Rattle.program_meaning.specs.Theory.{place_cmp}
use Rattle.collected_atoms.specs.Gathering.{AreKnownPlaces}
use Rattle.collected_atoms.specs.inner.Settled.{all_ids}
use Rattle.collected_atoms.proofs.SizeLemmas.{known_ids}
use Rattle.collected_atoms.proofs.AnswerLemmas.{more_tuples, more_variables, sized_tuples}
use Rattle.collected_atoms.proofs.collecting.tuple_atom.Goals as goal

pub returns-then-len-gt-MOST-clause-collects : goal.returns-then-len-gt-MOST-clause-collects
returns-then-len-gt-MOST-clause-collects c atoms rule values theory e h =
    let symbols = c.args.symbols.now in
    let set = subst (λ (xs : List CollectedPlace). IsOrderedListOf place_cmp (IsMember (map (place_in symbols) xs)) (map (place_in symbols) c.distinct_places-places.result)) c.into_vec.ensures
    c.distinct_places-places.ensures.places in
    more_tuples symbols (IsMember atoms) rule values theory c.args.gathered c.args.guard h (λ d. c.requires.name (sym e ∙ d)) c.distinct_places-places.result set
    (subst (λ n. most < n) c.len.ensures c.if-len-gt-MOST.true)

pub has_many_variables-requires : goal.has_many_variables-requires
has_many_variables-requires c =
    let symbols = c.args.symbols.now in
    let known = c.distinct_places-places.ensures.known (subst (AreKnownPlaces symbols) (sym c.into_vec.ensures) c.requires.places) in
    subst (λ (ps : List CollectedPlace). All (λ id. id < length symbols) (all_ids ps c.args.guard.guard)) (sym c.items.ensures)
    (known_ids symbols c.distinct_places-places.result c.args.guard.guard known c.requires.guard)

pub returns-in-Ok-true-clause-collects : goal.returns-in-Ok-true-clause-collects
returns-in-Ok-true-clause-collects c atoms rule values theory e h =
    let symbols = c.args.symbols.now in
    let set = subst (λ (xs : List CollectedPlace). IsOrderedListOf place_cmp (IsMember (map (place_in symbols) xs)) (map (place_in symbols) c.distinct_places-places.result)) c.into_vec.ensures
    c.distinct_places-places.ensures.places in
    more_variables symbols (IsMember atoms) rule values theory c.args.gathered c.args.guard h (λ d. c.requires.name (sym e ∙ d)) c.distinct_places-places.result set
    (subst (λ (ps : List CollectedPlace). Exceeds (IsMember (map (symbol_at symbols) (all_ids ps c.args.guard.guard))) most) c.items.ensures (c.in-Ok-true.ensures.0 c.in-Ok-true.field-0-test))

pub returns-clause-collects : goal.returns-clause-collects
returns-clause-collects c atoms rule values theory e h =
    let symbols = c.args.symbols.now in
    let set = subst (λ (xs : List CollectedPlace). IsOrderedListOf place_cmp (IsMember (map (place_in symbols) xs)) (map (place_in symbols) c.distinct_places-places.result)) c.into_vec.ensures
    c.distinct_places-places.ensures.places in
    let few : most < length c.distinct_places-places.result → ⊥ =
    (λ l. absurd (omega (arith, subst (λ n. most < n) (sym c.len.ensures) l, c.if-len-gt-MOST.false))) in
    let small : Exceeds (IsMember (map (symbol_at symbols) (all_ids c.distinct_places-places.result c.args.guard.guard))) most → ⊥ =
    (λ x. true≢false (sym (c.in-Ok-false.ensures.1 (subst (λ (ps : List CollectedPlace). Exceeds (IsMember (map (symbol_at symbols) (all_ids ps c.args.guard.guard))) most) (sym c.items.ensures) x))
    ∙ c.in-Ok-false.field-0-test)) in
    let s = sized_tuples symbols (IsMember atoms) rule values theory c.args.gathered c.args.guard h (λ d. c.requires.name (sym e ∙ d)) c.distinct_places-places.result set few small c.either-large.result
    c.either-large.ensures in
    c.sized_atom.ensures.collects atoms rule values theory e s.0 s.1
