use Rattle.std.proofs.Common.{rules, arith, ◌+◌, subst, sym, inl, inr}
use Rattle.std.proofs.lemmas.Int.{ints}
use Rattle.literals.specs.declared.lit.Lit.{Lit}
use Rattle.trail_bounds.specs.inner.Steps.{Narrows}
use Rattle.trail_bounds.proofs.Times.{rest_within, lowered, raised, below, exceeds}
use Rattle.trail_bounds.proofs.implied.narrowed.Goals as goal

pub returns-in-None-clause-none : goal.returns-in-None-clause-none
returns-in-None-clause-none c =
    rest_within c.args.c c.args.range.low c.args.range.high c.width_of.result c.args.slack c.width_of.ensures.value (search rules)

pub returns-then-c-gt0-clause-some : goal.returns-then-c-gt0-clause-some
returns-then-c-gt0-clause-some c =
    let e = c.width_of.ensures.value in
    let small = c.width_of.ensures.small in
    let low = c.args.range.low_small in
    let high = c.args.range.high_small in
    subst (λ (l : Lit). Narrows c.args.item c.args.c (c.args.slack + c.spare_after-spare.result) c.args.range.low c.args.range.high l) (sym c.greatest_lit.ensures)
    (inl (lowered c.args.item c.args.c c.args.range.low c.args.range.high _ c.in-Some.room c.width_of.result (c.args.slack + c.spare_after-spare.result)
    (search rules) (exceeds c.args.c c.args.slack c.spare_after-spare.result c.unsigned_abs-weight.result c.in-Some.room (search rules) c.spare_after-spare.ensures) c.in-Some.ensures.room e (let r = c.in-Some.ensures.room in omega (arith, ints, e, r, small, low, high))))

pub returns-else-c-gt0-clause-some : goal.returns-else-c-gt0-clause-some
returns-else-c-gt0-clause-some c =
    let e = c.width_of.ensures.value in
    let small = c.width_of.ensures.small in
    let low = c.args.range.low_small in
    let high = c.args.range.high_small in
    let not_up = c.if-c-gt0.false in
    let some = c.in-Some.ensures.next in
    subst (λ (l : Lit). Narrows c.args.item c.args.c (c.args.slack + c.spare_after-spare.result) c.args.range.low c.args.range.high l) (sym c.least_lit.ensures)
    (inr (raised c.args.item c.args.c c.args.range.low c.args.range.high _ c.in-Some.room c.width_of.result (c.args.slack + c.spare_after-spare.result)
    (below c.args.c c.unsigned_abs-weight.result c.in-Some.room c.args.slack (search rules) (search rules) c.in-Some.ensures.next)
    (exceeds c.args.c c.args.slack c.spare_after-spare.result c.unsigned_abs-weight.result c.in-Some.room (search rules) c.spare_after-spare.ensures) c.in-Some.ensures.room e (let r = c.in-Some.ensures.room in omega (arith, ints, e, r, small, low, high))))
