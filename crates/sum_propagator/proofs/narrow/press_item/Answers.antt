use Rattle.std.proofs.Common.{subst, sym}
use Rattle.literals.specs.declared.lit.Lit.{Lit}
use Rattle.trail.specs.Assignment.{Names}
use Rattle.propagator_core.specs.Shown.{IsShown}
use Rattle.sum_propagator.specs.Kinds.{meaning_of}
use Rattle.sum_propagator.specs.Reasons.{Explains}
use Rattle.sum_propagator.proofs.Narrowing.{kind_items, own_names, item_of_kind, press_shown}
use Rattle.trail_bounds.proofs.Needing.{grows_placed, placed_grew}
use Rattle.sum_propagator.proofs.narrow.press_item.Goals as goal

pub implied_bound-requires-clause-named : goal.implied_bound-requires-clause-named
implied_bound-requires-clause-named c = item_of_kind c.args.sum.now.kind c.args.trail.now.shape c.args.sum.now.number c.args.sum.now.items c.args.sum.now.most c.args.at c.args.item c.requires.fits c.requires.at c.requires.item

pub complement-instead-requires : goal.complement-instead-requires
complement-instead-requires c = c.in-Some.ensures.some.names.literal

pub explain-requires-clause-own : goal.explain-requires-clause-own
explain-requires-clause-own c = own_names c.args.sum.now.kind c.args.trail.now.shape c.args.sum.now.number c.args.sum.now.items c.args.sum.now.most c.args.side c.requires.fits

pub explain-requires-clause-named : goal.explain-requires-clause-named
explain-requires-clause-named c = kind_items c.args.sum.now.kind c.args.trail.now.shape c.args.sum.now.number c.args.sum.now.items c.args.sum.now.most c.requires.fits

pub explain-requires-clause-instead : goal.explain-requires-clause-instead
explain-requires-clause-instead c = λ lt. subst (λ (l : Lit). Names c.args.trail.now.shape l) (sym c.complement-instead.ensures.value) c.in-Some.ensures.some.opposite

pub set-requires : goal.set-requires
set-requires c = c.in-Some.ensures.some.names

pub returns-in_ok-set-in-Some-clause-grows : goal.returns-in_ok-set-in-Some-clause-grows
returns-in_ok-set-in-Some-clause-grows c =
    let n = c.in-Some.ensures.some in
    let x = subst (λ (l : Lit). Explains c.args.trail.now c.args.sum.now.kind c.args.sum.now.number c.args.sum.now.items c.args.side c.args.at l c.in-Some.needed.spare c.in_ok-reason-in-Some.reason) c.complement-instead.ensures.value c.in_ok-reason-in-Some.ensures in
    grows_placed (IsShown (meaning_of c.args.sum.now.kind c.args.sum.now.number c.args.sum.now.items c.args.sum.now.most).valid) c.args.trail.now c.set.new.self c.in-Some.needed.lit c.in_ok-reason-in-Some.reason c.in_ok-set-in-Some.field-0 n.names c.in_ok-set-in-Some.ensures.ok n.is_open
    (press_shown c.args.trail.now c.args.sum.now.kind c.args.sum.now.number c.args.sum.now.items c.args.sum.now.most c.args.side c.args.at c.args.slack c.in-Some.needed.spare c.args.item c.in-Some.needed.lit c.in_ok-reason-in-Some.reason
    c.requires.on c.requires.at c.requires.item c.requires.slack n x)

pub returns-in_ok-set-in-Some-clause-rests : goal.returns-in_ok-set-in-Some-clause-rests
returns-in_ok-set-in-Some-clause-rests c = λ same. absurd (placed_grew c.args.trail.now c.set.new.self c.in-Some.needed.lit c.in_ok-reason-in-Some.reason c.in_ok-set-in-Some.field-0 c.in_ok-set-in-Some.ensures.ok c.in-Some.ensures.some.is_open same)
