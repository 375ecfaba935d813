use Rattle.std.proofs.Common.{◌≤◌, ℤ, List, length, map, sym, subst}
use Rattle.ground_model.specs.Members.{IsMember}
use Rattle.program_meaning.specs.declared.collected.CollectedPlace.{CollectedPlace}
use Rattle.program_meaning.specs.Said.{place_in}
use Rattle.interval_sets.specs.Ranges.{HasIntegersOf}
use Rattle.theory_laws.specs.Collecting.{IsCollected}
use Rattle.collected_atoms.specs.Said.{guard_in}
use Rattle.collected_atoms.proofs.AnswerLemmas.{answer_large, answer_ranges}
use Rattle.collected_atoms.proofs.collecting.domain_of.Goals as goal

pub returns-then-large-clause-collects : goal.returns-then-large-clause-collects
returns-then-large-clause-collects c atoms rule values theory e h set = answer_large c.args.symbols.now (IsMember atoms) rule values theory c.args.large c.args.guard h c.if-large.true

pub returns-clause-collects : goal.returns-clause-collects
returns-clause-collects c atoms rule values theory e h set =
    let symbols = c.args.symbols.now in
    let intervals = c.in-Ok.numbers.intervals in
    let integers = subst (λ (rs : List (ℤ × ℤ)). HasIntegersOf rs c.in-Ok.numbers.intervals) c.items.ensures c.in-Ok.ensures.integers in
    let few = subst (λ (rs : List (ℤ × ℤ)). length c.in-Ok.numbers.intervals ≤ length rs) c.items.ensures c.in-Ok.ensures.few in
    subst (λ (ps : List CollectedPlace). IsCollected (IsMember atoms) rule values theory (map (place_in symbols) ps) c.in-Ok.numbers.intervals (guard_in symbols c.args.guard)) (sym c.requires.places)
    (answer_ranges symbols (IsMember atoms) rule values theory c.args.large c.args.guard h c.if-large.false e c.args.ranges c.in-Ok.numbers.intervals set integers c.in-Ok.numbers.parted few
    c.requires.few)
