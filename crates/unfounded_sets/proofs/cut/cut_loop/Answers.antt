use Rattle.std.proofs.Common.{◌≡◌, ◌∙◌, sym, subst, length, refl, List, ℕ, true, false}
use Rattle.literals.specs.declared.lit.Lit.TheVariants.{Atom, Body}
use Rattle.trail.specs.Assignment.{is_true_on}
use Rattle.std.specs.List.{AllByRecursion}
use Rattle.ground_model.specs.Answers.{IsNumbered}
use Rattle.unfounded_sets.specs.inner.Outer.{of_parts, left_of, is_left, IsNamed}
use Rattle.unfounded_sets.proofs.FoundedLemmas.{left_numbered, set_is, atoms_below, rows_below, outer_above, named_above}
use Rattle.unfounded_sets.proofs.CutLemmas.{outer_known, cut_some}
use Rattle.unfounded_sets.proofs.cut.cut_loop.Goals as goal

pub named_atom-requires : goal.named_atom-requires
named_atom-requires c =
    let same = set_is c.in_ok-set.set.items c.args.given.now c.args.given.now c.args.atoms c.in_ok-set.ensures refl c.requires.length in
    subst (AllByRecursion (IsNumbered c.args.trail.now.shape.atoms)) (sym (c.deref.ensures.value ∙ same))
    (subst (λ n. AllByRecursion (IsNumbered n) (left_of c.args.given.now c.args.atoms)) (sym c.requires.fits.atoms) (left_numbered c.args.given.now c.args.atoms))

pub outer-requires-clause-atoms : goal.outer-requires-clause-atoms
outer-requires-clause-atoms c = atoms_below (of_parts c.args.atoms c.args.bodies.now c.args.supports.now) (length c.args.given.now) c.requires.whole c.requires.length

pub outer-requires-clause-rows : goal.outer-requires-clause-rows
outer-requires-clause-rows c = rows_below (of_parts c.args.atoms c.args.bodies.now c.args.supports.now) (length c.args.given.now) c.requires.whole c.requires.length

pub are_open-requires : goal.are_open-requires
are_open-requires c =
    let same = set_is c.in_ok-set.set.items c.args.given.now c.args.given.now c.args.atoms c.in_ok-set.ensures refl c.requires.length in
    subst (AllByRecursion (IsNumbered c.args.trail.now.shape.atoms)) (sym (c.deref-2.ensures.value ∙ same))
    (subst (λ n. AllByRecursion (IsNumbered n) (left_of c.args.given.now c.args.atoms)) (sym c.requires.fits.atoms) (left_numbered c.args.given.now c.args.atoms))

pub are_false-requires : goal.are_false-requires
are_false-requires c =
    outer_known (of_parts c.args.atoms c.args.bodies.now c.args.supports.now) (is_left c.args.given.now) c.args.trail.now.shape.bodies c.deref-3.result.now c.requires.whole c.requires.fits.bodies
    (c.deref-3.ensures.value ∙ c.in_ok-outside.ensures)

pub make_reason-requires-clause-atom : goal.make_reason-requires-clause-atom
make_reason-requires-clause-atom c =
    let same = set_is c.in_ok-set.set.items c.args.given.now c.args.given.now c.args.atoms c.in_ok-set.ensures refl c.requires.length in
    named_above c.args.trail.now c.deref.result.now c.args.given.now c.args.atoms c.in-Some.atom (c.deref.ensures.value ∙ same) c.in-Some.ensures

pub make_reason-requires-clause-bodies : goal.make_reason-requires-clause-bodies
make_reason-requires-clause-bodies c =
    outer_above (of_parts c.args.atoms c.args.bodies.now c.args.supports.now) (is_left c.args.given.now) c.deref-4.result.now c.requires.whole (c.deref-4.ensures.value ∙ c.in_ok-outside.ensures)

pub returns : goal.returns
returns c =
    let same = set_is c.in_ok-set.set.items c.args.given.now c.args.given.now c.args.atoms c.in_ok-set.ensures refl c.requires.length in
    cut_some (of_parts c.args.atoms c.args.bodies.now c.args.supports.now) c.args.trail.now c.requires.whole c.requires.fits c.args.given.now c.in_ok-set.set.items c.deref-4.result.now c.in-Some.atom c.in_ok-reason.reason same
    (subst (λ xs. IsNamed c.args.trail.now xs c.in-Some.atom) c.deref.ensures.value c.in-Some.ensures) (c.deref-4.ensures.value ∙ c.in_ok-outside.ensures)
    (subst (λ (xs : List ℕ). AllByRecursion (λ a. is_true_on c.args.trail.now (Atom a false) ≡ false) xs) c.deref-2.ensures.value (c.are_open.ensures c.if-not-are_open.false))
    (subst (λ (xs : List ℕ). AllByRecursion (λ b. is_true_on c.args.trail.now (Body b false) ≡ true) xs) (c.deref-3.ensures.value ∙ sym c.deref-4.ensures.value) (c.are_false.ensures c.if-not-are_false.false)) c.in_ok-reason.ensures
