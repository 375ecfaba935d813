use Rattle.std.proofs.Common.{◌≡◌, ◌<◌, ◌+◌, ◌++◌, ℕ, ℤ, pos, ◌+ℤ◌, List, get_or, length, FitsSigned, to_z, of_z, sym, ◌∙◌, ap, subst, arith}
use Rattle.std.proofs.lemmas.Int.{to_z-of_z, fits_signed_from_abs}
use Rattle.std.specs.Int.{w128}
use Rattle.linear_normal.specs.inner.Sums.{kept_pair}
use Rattle.linear_normal.proofs.JoinLemmas.{Joins, joins_start, Turn, turn_add, turn_small, turn_next, turn_at, next_coefficient, joins_last_small, joins_end, at_end}
use Rattle.linear_normal.proofs.joined.join_sorted.Goals as goal
use Rattle.linear_normal.proofs.joined.join_sorted.Goals.{then-next-variable, else-next-variable+in_ok-keep}

pub loop-next-init : goal.loop-next-init
loop-next-init c = record {
  joins = subst (λ found. Joins c.args.sorted.now c.args.variables found 0 (pos 0) c.args.sorted.now) (sym c.new-found.ensures) (joins_start c.args.sorted.now c.args.variables c.requires.climbs);
  size = omega arith;
}

pub keep-requires : goal.keep-requires
keep-requires c =
    turn_small c.args.sorted.now c.args.variables c.loop-next.found c.loop-next.variable (to_z w128 c.loop-next.sum-bits) c.loop-next.next-index (0, pos 0) c.loop-next-test.true
    (record { joins = c.loop-next.invariant.joins; size = c.loop-next.invariant.size }) c.requires.small c.if-next-variable.false

pub loop-next-preserved : goal.loop-next-preserved
loop-next-preserved c =
    let all = c.args.sorted.now in
    let last = c.args.variables in
    let found : List (ℕ × ℤ) = c.loop-next.found in
    let variable = c.loop-next.variable in
    let sum : ℤ = to_z w128 c.loop-next.sum-bits in
    let i = c.loop-next.next-index in
    let pair : ℕ × ℤ = get_or c.args.sorted.now c.loop-next.next-index (0, pos 0) in
    let below : i < length c.args.sorted.now = c.loop-next-test.true in
    let turn : Turn c.args.sorted.now last c.loop-next.found variable sum i = record { joins = c.loop-next.invariant.joins; size = c.loop-next.invariant.size } in
    let small = turn_at c.args.sorted.now last c.loop-next.found variable sum i (0, pos 0) below turn in
    let same = next_coefficient c.args.sorted.now last c.loop-next.found variable sum i (0, pos 0) below turn in
    elim c.if-next-variable.branch [
      | then-next-variable w ↦
          (let next = turn_add c.args.sorted.now last c.loop-next.found variable sum i (0, pos 0) below turn w.if-next-variable.true in
          let from_fits : FitsSigned w128 w.from-sum.result = record { sfits = w.from-sum.type_inv } in
          let from : to_z w128 (of_z w128 w.from-sum.result) ≡ pair.1 = to_z-of_z w128 w.from-sum.result from_fits ∙ w.from-sum.ensures ∙ same in
          let size = next.size in
          let fits : FitsSigned w128 (sum +ℤ pair.1) = fits_signed_from_abs w128 (sum +ℤ pair.1) (omega arith) in
          let sum_is : to_z w128 c.if-next-variable.sum-bits ≡ sum +ℤ pair.1 = w.sum-is ∙ ap (λ z. to_z w128 (of_z w128 (sum +ℤ z))) from ∙ to_z-of_z w128 (sum +ℤ pair.1) fits in
          let turned : Turn c.args.sorted.now last c.if-next-variable.found c.if-next-variable.variable (to_z w128 c.if-next-variable.sum-bits) (i + 1) =
          rw (w.found-is, w.variable-is, sum_is) next in
          record { joins = turned.joins; size = turned.size })
      | else-next-variable+in_ok-keep w ↦
          (let next = turn_next c.args.sorted.now last c.loop-next.found variable sum i (0, pos 0) below turn w.if-next-variable.false in
          let from : w.from-sum-else-next-variable.result ≡ pair.1 = w.from-sum-else-next-variable.ensures ∙ same in
          let fits : FitsSigned w128 pair.1 = fits_signed_from_abs w128 pair.1 (omega arith) in
          let sum_is : to_z w128 c.if-next-variable.sum-bits ≡ pair.1 = w.sum-is ∙ ap (λ z. to_z w128 (of_z w128 z)) from ∙ to_z-of_z w128 pair.1 fits in
          let found_is : c.if-next-variable.found ≡ c.loop-next.found ++ kept_pair (c.loop-next.variable, to_z w128 c.loop-next.sum-bits) = w.found-is ∙ w.in_ok-keep.ensures in
          let turned : Turn c.args.sorted.now last c.if-next-variable.found c.if-next-variable.variable (to_z w128 c.if-next-variable.sum-bits) (i + 1) =
          rw (found_is, w.variable-is, sum_is) next in
          record { joins = turned.joins; size = turned.size })
    ]

pub keep-requires-2 : goal.keep-requires-2
keep-requires-2 c =
    joins_last_small c.args.sorted.now c.args.variables c.loop-next.found c.loop-next.variable (to_z w128 c.loop-next.sum-bits) c.requires.small
    (at_end c.args.sorted.now c.args.variables c.loop-next.found c.loop-next.variable (to_z w128 c.loop-next.sum-bits) c.loop-next.next-index c.loop-next-test.false c.loop-next.invariant.joins)

pub returns : goal.returns
returns c =
    c.in_ok-keep-2.ensures
    ∙ joins_end c.args.sorted.now c.args.variables c.loop-next.found c.loop-next.variable (to_z w128 c.loop-next.sum-bits) c.requires.climbs
    (at_end c.args.sorted.now c.args.variables c.loop-next.found c.loop-next.variable (to_z w128 c.loop-next.sum-bits) c.loop-next.next-index c.loop-next-test.false c.loop-next.invariant.joins)
