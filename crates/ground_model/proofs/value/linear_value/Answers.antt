use Rattle.std.proofs.Common.{◌≡◌, ◌≤◌, ◌+◌, ◌+ℤ◌, length, ap, FitsSigned, to_z, of_z, arith}
use Rattle.std.proofs.lemmas.Int.{to_z-of_z}
use Rattle.std.specs.Int.{w128}
use Rattle.ground_model.specs.Truth.{value_of}
use Rattle.ground_model.specs.View.{linear_of}
use Rattle.ground_model.specs.Answers.{value_at}
use Rattle.ground_model.proofs.Products.{LinearStep, linear_step, small_fits}
use Rattle.ground_model.proofs.value.linear_value.Goals as goal

step : (c : goal.After-term_value-sum)
    → LinearStep c.args.values.now c.items-variable-items.result.now c.loop-variable.variable-index (length c.args.values.now)
    (value_of (value_at c.args.values.now) (linear_of c.args.linear.now)) (to_z w128 c.loop-variable.sum-bits) c.term_value-sum.result
step c =
    linear_step c.args.values.now c.items-variable-items.result.now c.loop-variable.variable-index (length c.args.values.now) _
    (value_of (value_at c.args.values.now) (linear_of c.args.linear.now)) (to_z w128 c.loop-variable.sum-bits) c.term_value-sum.result
    c.loop-variable-test.true c.loop-variable.invariant.so_far c.loop-variable.invariant.left c.requires.values c.loop-variable.invariant.size
    c.term_value-sum.ensures

term_fits : (c : goal.After-term_value-sum) → to_z w128 (of_z w128 c.term_value-sum.result) ≡ c.term_value-sum.result
term_fits c = let fits : FitsSigned w128 c.term_value-sum.result = record { sfits = c.term_value-sum.type_inv } in to_z-of_z w128 c.term_value-sum.result fits

sum_fits : (c : goal.After-term_value-sum) → FitsSigned w128 (to_z w128 c.loop-variable.sum-bits +ℤ c.term_value-sum.result)
sum_fits c =
    let few : c.loop-variable.variable-index + 1 ≤ 65536 = omega (arith, ap length c.items-variable-items.ensures) in
    small_fits (c.loop-variable.variable-index + 1) _ few (step c).size

pub overflow_add-sum : goal.overflow_add-sum
overflow_add-sum c = rw (term_fits c) (sum_fits c)

pub loop-variable-preserved : goal.loop-variable-preserved
loop-variable-preserved c =
    rw (term_fits c, to_z-of_z w128 (to_z w128 c.loop-variable.sum-bits +ℤ c.term_value-sum.result) (sum_fits c)) (record {
      so_far = (step c).so_far;
      left = (step c).left;
      size = (step c).size;
    })
