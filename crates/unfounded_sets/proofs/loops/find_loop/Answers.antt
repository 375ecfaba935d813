use Rattle.std.proofs.Common.{◌∙◌, ap, sym, subst, length, List, Bool}
use Rattle.std.specs.List.{AllByRecursion}
use Rattle.ground_model.specs.Answers.{IsNumbered}
use Rattle.unfounded_sets.specs.inner.Outer.{of_parts, left_of, is_left, outer_bodies, IsNamed}
use Rattle.unfounded_sets.proofs.FoundedLemmas.{left_numbered, set_is, atoms_below, rows_below, outer_above, named_above, found_none, found_some}
use Rattle.unfounded_sets.proofs.loops.find_loop.Goals as goal

pub named_atom-requires : goal.named_atom-requires
named_atom-requires c =
    let same = set_is c.in_ok-set.set.items c.in_ok-given.given c.items.result.now c.args.atoms c.in_ok-set.ensures c.items.ensures c.in_ok-given.ensures.length in
    subst (AllByRecursion (IsNumbered c.args.trail.now.shape.atoms)) (sym (c.deref.ensures.value ∙ same))
    (subst (λ n. AllByRecursion (IsNumbered n) (left_of c.in_ok-given.given c.args.atoms)) (sym c.requires.fits.atoms) (left_numbered c.in_ok-given.given c.args.atoms))

pub returns-in_default-clause-none : goal.returns-in_default-clause-none
returns-in_default-clause-none c =
    let same = set_is c.in_ok-set.set.items c.in_ok-given.given c.items.result.now c.args.atoms c.in_ok-set.ensures c.items.ensures c.in_ok-given.ensures.length in
    found_none (of_parts c.args.atoms c.args.bodies.now c.args.supports.now) c.args.trail.now c.requires.whole c.requires.fits c.in_ok-given.given c.in_ok-given.ensures.closed c.in_ok-set.set.items same
    (sym c.deref.ensures.value ∙ c.in_default.ensures)

pub outer-requires-clause-atoms : goal.outer-requires-clause-atoms
outer-requires-clause-atoms c =
    atoms_below (of_parts c.args.atoms c.args.bodies.now c.args.supports.now) (length c.items-2.result.now) c.requires.whole (ap length c.items-2.ensures ∙ c.in_ok-given.ensures.length)

pub outer-requires-clause-rows : goal.outer-requires-clause-rows
outer-requires-clause-rows c =
    rows_below (of_parts c.args.atoms c.args.bodies.now c.args.supports.now) (length c.items-2.result.now) c.requires.whole (ap length c.items-2.ensures ∙ c.in_ok-given.ensures.length)

pub make_reason-requires-clause-atom : goal.make_reason-requires-clause-atom
make_reason-requires-clause-atom c =
    let same = set_is c.in_ok-set.set.items c.in_ok-given.given c.items.result.now c.args.atoms c.in_ok-set.ensures c.items.ensures c.in_ok-given.ensures.length in
    named_above c.args.trail.now c.deref.result.now c.in_ok-given.given c.args.atoms c.in-Some.atom (c.deref.ensures.value ∙ same) c.in-Some.ensures

pub make_reason-requires-clause-bodies : goal.make_reason-requires-clause-bodies
make_reason-requires-clause-bodies c =
    outer_above (of_parts c.args.atoms c.args.bodies.now c.args.supports.now) (is_left c.items-2.result.now) c.deref-2.result.now c.requires.whole (c.deref-2.ensures.value ∙ c.in_ok-outside.ensures)

pub returns-clause-some : goal.returns-clause-some
returns-clause-some c =
    let same = set_is c.in_ok-set.set.items c.in_ok-given.given c.items.result.now c.args.atoms c.in_ok-set.ensures c.items.ensures c.in_ok-given.ensures.length in
    found_some (of_parts c.args.atoms c.args.bodies.now c.args.supports.now) c.args.trail.now c.requires.whole c.requires.fits c.in_ok-given.given c.in_ok-given.ensures.closed c.in_ok-set.set.items same
    c.in-Some.atom c.deref-2.result.now c.in_ok-reason.reason (subst (λ xs. IsNamed c.args.trail.now xs c.in-Some.atom) c.deref.ensures.value c.in-Some.ensures)
    (c.deref-2.ensures.value ∙ c.in_ok-outside.ensures ∙ ap (λ (flags : List Bool). outer_bodies c.args.bodies.now (is_left flags) c.args.supports.now) c.items-2.ensures) c.in_ok-reason.ensures
