use Rattle.std.proofs.Common.{◌≡◌, ◌≤◌, ◌+◌, ◌+ℤ◌, ◌*ℤ◌, ℕ, ℤ, pos, length, get_or, ap, ◌∙◌, FitsSigned, to_z, w32, w64, rules, arith}
use Rattle.std.proofs.lemmas.Int.{to_z-of_z, fits_signed_from_abs}
use Rattle.std.specs.Int.{w128}
use Rattle.ground_model.specs.Truth.{value_of}
use Rattle.ground_model.specs.View.{linear_of}
use Rattle.ground_model.specs.Answers.{value_at}
use Rattle.linear_normal.proofs.ValueLemmas.{ValueStep, value_step, typed_product}
use Rattle.linear_normal.proofs.values.linear_value.Goals as goal

pub loop-variable-preserved : goal.loop-variable-preserved
loop-variable-preserved c =
    let pair : ℕ × ℤ = get_or c.items-variable-items.result.now c.loop-variable.variable-index (0, pos 0) in
    let coefficient_fits : FitsSigned w64 (get_or c.items-variable-items.result.now c.loop-variable.variable-index (0, pos 0)).1 = search rules in
    let value_fits : FitsSigned w32 c.variable_value.result = record { sfits = c.variable_value.type_inv } in
    let term : c.term_value-sum.result ≡ pair.1 *ℤ value_at c.args.values.now pair.0 =
    c.term_value-sum.ensures.value ∙ typed_product pair.1 c.variable_value.result coefficient_fits value_fits ∙ ap (λ (z : ℤ). pair.1 *ℤ z) c.variable_value.ensures in
    let step : ValueStep (value_at c.args.values.now) c.items-variable-items.result.now (c.loop-variable.variable-index + 1) (value_of (value_at c.args.values.now) (linear_of c.args.linear.now)) (to_z w128 c.loop-variable.sum-bits +ℤ c.term_value-sum.result) =
    value_step (value_at c.args.values.now) c.items-variable-items.result.now c.loop-variable.variable-index (0, pos 0)
    (value_of (value_at c.args.values.now) (linear_of c.args.linear.now)) (to_z w128 c.loop-variable.sum-bits) c.term_value-sum.result
    c.loop-variable-test.true c.loop-variable.invariant.so_far c.loop-variable.invariant.size term c.term_value-sum.ensures.size in
    let few : c.loop-variable.variable-index + 1 ≤ 65536 = omega (arith, ap length c.items-variable-items.ensures) in
    let size = step.size in
    let term_fits : FitsSigned w128 c.term_value-sum.result = record { sfits = c.term_value-sum.type_inv } in
    let sum_fits : FitsSigned w128 (to_z w128 c.loop-variable.sum-bits +ℤ c.term_value-sum.result) = fits_signed_from_abs w128 (to_z w128 c.loop-variable.sum-bits +ℤ c.term_value-sum.result) (omega arith) in
    rw (to_z-of_z w128 c.term_value-sum.result term_fits, to_z-of_z w128 (to_z w128 c.loop-variable.sum-bits +ℤ c.term_value-sum.result) sum_fits)
    (record { so_far = step.so_far; size = step.size })
