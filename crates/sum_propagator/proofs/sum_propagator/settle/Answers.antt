use Rattle.std.proofs.Common.{rules, arith, not, length, ℕ, pos, ◌+ℤ◌, ◌<ℤ◌, subst, sym, FitsSigned}
use Rattle.std.specs.Int.{w128}
use Rattle.std.proofs.lemmas.Int.{to_z-of_z}
use Rattle.literals.specs.declared.lit.Lit.TheVariants.{Constraint}
use Rattle.trail_bounds.specs.OnTrail.{bounds_on}
use Rattle.trail_bounds.specs.Sides.{side_sum}
use Rattle.sum_propagator.specs.Sides.{limit_of}
use Rattle.std.specs.List.{AllByRecursion}
use Rattle.trail.specs.Assignment.{Names}
use Rattle.sum_propagator.specs.declared.sum.Kind.{Kind}
use Rattle.sum_propagator.specs.Kinds.{own_lits}
use Rattle.sum_propagator.specs.Reasons.{Explains}
use Rattle.sum_propagator.proofs.Narrowing.{number_of, items_of}
use Rattle.sum_propagator.proofs.Settling.{settle_shown, excess_is}
use Rattle.sum_propagator.proofs.sum_propagator.settle.Goals as goal

pub returns-clause-grows : goal.returns-clause-grows
returns-clause-grows c =
    let fm : FitsSigned w128 c.args.sum.now.most = search rules in
    let ft : FitsSigned w128 c.args.total = search rules in
    let fl : FitsSigned w128 c.limit.result = search rules in
    let e = simp to_z-of_z at c.limit.ensures.value in
    let h : (c.limit.result +ℤ pos c.excess_of-spare.result) <ℤ c.args.total = (let w = simp to_z-of_z at c.excess_of-spare.ensures in w) in
    settle_shown c.args.trail.now c.set.new.self c.args.sum.now.number c.args.sum.now.items c.args.sum.now.most c.args.side c.excess_of-spare.result c.in_ok-reason.reason c.in_ok-set.field-0
    (number_of c.args.trail.now.shape c.args.sum.now.number c.args.sum.now.items (not c.args.side) c.requires.fits) c.requires.unknown
    (excess_is (limit_of c.args.side c.args.sum.now.most) c.limit.result c.args.total (side_sum c.args.side (bounds_on c.args.trail.now) c.args.sum.now.items) c.excess_of-spare.result e c.requires.total h)
    (subst (λ (k : Kind). Explains c.args.trail.now k c.args.sum.now.number c.args.sum.now.items c.args.side (length c.args.sum.now.items) (Constraint c.args.sum.now.number c.args.side) c.excess_of-spare.result c.in_ok-reason.reason) c.requires.constraint
    (subst (λ (n : ℕ). Explains c.args.trail.now c.args.sum.now.kind c.args.sum.now.number c.args.sum.now.items c.args.side n (Constraint c.args.sum.now.number c.args.side) c.excess_of-spare.result c.in_ok-reason.reason) c.len.ensures c.in_ok-reason.ensures)) c.in_ok-set.ensures.ok

pub explain-requires-clause-own : goal.explain-requires-clause-own
explain-requires-clause-own c =
    subst (λ (k : Kind). AllByRecursion (Names c.args.trail.now.shape) (own_lits k c.args.sum.now.number c.args.side)) (sym c.requires.constraint)
    (number_of c.args.trail.now.shape c.args.sum.now.number c.args.sum.now.items c.args.side c.requires.fits, tt)

pub explain-requires-clause-named : goal.explain-requires-clause-named
explain-requires-clause-named c = items_of c.args.trail.now.shape c.args.sum.now.number c.args.sum.now.items c.requires.fits

pub explain-requires-clause-instead : goal.explain-requires-clause-instead
explain-requires-clause-instead c = λ lt. absurd (let e = c.len.ensures in omega (arith, e, lt))
