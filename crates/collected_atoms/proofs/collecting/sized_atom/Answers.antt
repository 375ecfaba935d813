use Rattle.std.proofs.Common.{List, map, sym, ◌∙◌, ap}
use Rattle.ground_model.specs.Members.{IsMember}
use Rattle.program_meaning.specs.declared.collected.CollectedPlace.{CollectedPlace}
use Rattle.program_meaning.specs.Said.{place_in}
use Rattle.collected_atoms.specs.Said.{guard_in}
use Rattle.collected_atoms.specs.inner.Settled.{is_small_by}
use Rattle.collected_atoms.proofs.AnswerLemmas.{answer_large, answer_total, answer_tuples}
use Rattle.collected_atoms.proofs.collecting.sized_atom.Goals as goal

pub returns-then-large-clause-collects : goal.returns-then-large-clause-collects
returns-then-large-clause-collects c atoms rule values theory e h set = answer_large c.args.symbols.now (IsMember atoms) rule values theory c.args.large c.args.guard h c.if-large.true

pub returns-in-Ok-true-clause-collects : goal.returns-in-Ok-true-clause-collects
returns-in-Ok-true-clause-collects c atoms rule values theory e h set =
    let symbols = c.args.symbols.now in
    let guard = guard_in symbols c.args.guard in
    let test =
    ap (λ k. is_small_by k (map (place_in symbols) c.args.places) (guard_in symbols c.args.guard)) e
    ∙ ap (λ (ps : List CollectedPlace). is_small_by c.args.name (map (place_in symbols) ps) (guard_in symbols c.args.guard)) (sym c.items.ensures)
    ∙ sym c.in-Ok-true.ensures ∙ c.in-Ok-true.field-0-test in
    answer_tuples symbols (IsMember atoms) rule values theory c.args.large c.args.guard h c.if-large.false c.args.places set (λ d. c.requires.name (sym e ∙ d)) test _

pub returns-in-Ok-false-clause-collects : goal.returns-in-Ok-false-clause-collects
returns-in-Ok-false-clause-collects c atoms rule values theory e h set =
    let symbols = c.args.symbols.now in
    let test =
    ap (λ k. is_small_by k (map (place_in symbols) c.args.places) (guard_in symbols c.args.guard)) e
    ∙ ap (λ (ps : List CollectedPlace). is_small_by c.args.name (map (place_in symbols) ps) (guard_in symbols c.args.guard)) (sym c.items.ensures)
    ∙ sym c.in-Ok-false.ensures ∙ c.in-Ok-false.field-0-test in
    answer_total symbols (IsMember atoms) rule values theory c.args.large c.args.guard h c.if-large.false c.args.places set test
