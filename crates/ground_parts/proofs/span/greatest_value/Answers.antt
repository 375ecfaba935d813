use Rattle.std.proofs.Common.{◌≡◌, ◌≤◌, ◌+◌, ◌+ℤ◌, pos, refl, length, ap, FitsSigned, to_z, of_z, arith}
use Rattle.std.proofs.lemmas.Int.{to_z-of_z}
use Rattle.std.specs.Int.{w128}
use Rattle.ground_model.specs.Sound.{greatest_product, greatest_sum}
use Rattle.ground_model.proofs.Products.{small_fits}
use Rattle.ground_parts.proofs.SumSteps.{SpanStep, span_step}
use Rattle.ground_parts.proofs.span.greatest_value.Goals as goal

step : (c : goal.After-greatest_product-sum)
    → SpanStep c.items-coefficient-items.result.now c.loop-coefficient.coefficient-index (greatest_sum c.args.ends)
    (greatest_sum c.args.ends c.items-coefficient-items.result.now +ℤ c.args.linear.now.constant) (to_z w128 c.loop-coefficient.sum-bits +ℤ c.greatest_product-sum.result)
step c =
    span_step c.items-coefficient-items.result.now c.loop-coefficient.coefficient-index (0, pos 0) (greatest_product c.args.ends) (greatest_sum c.args.ends)
    (greatest_sum c.args.ends c.items-coefficient-items.result.now +ℤ c.args.linear.now.constant) (to_z w128 c.loop-coefficient.sum-bits) c.greatest_product-sum.result
    (λ pair rest. refl) c.loop-coefficient-test.true c.loop-coefficient.invariant.so_far c.loop-coefficient.invariant.left c.loop-coefficient.invariant.size
    c.greatest_product-sum.ensures.value c.greatest_product-sum.ensures.size

term_fits : (c : goal.After-greatest_product-sum) → to_z w128 (of_z w128 c.greatest_product-sum.result) ≡ c.greatest_product-sum.result
term_fits c =
    let fits : FitsSigned w128 c.greatest_product-sum.result = record { sfits = c.greatest_product-sum.type_inv } in to_z-of_z w128 c.greatest_product-sum.result fits

sum_fits : (c : goal.After-greatest_product-sum) → FitsSigned w128 (to_z w128 c.loop-coefficient.sum-bits +ℤ c.greatest_product-sum.result)
sum_fits c =
    let few : c.loop-coefficient.coefficient-index + 1 ≤ 65536 = omega (arith, ap length c.items-coefficient-items.ensures) in
    small_fits (c.loop-coefficient.coefficient-index + 1) _ few (step c).size

pub loop-coefficient-preserved : goal.loop-coefficient-preserved
loop-coefficient-preserved c =
    rw (term_fits c, to_z-of_z w128 (to_z w128 c.loop-coefficient.sum-bits +ℤ c.greatest_product-sum.result) (sum_fits c)) (record {
      so_far = (step c).so_far;
      left = (step c).left;
      size = (step c).size;
    })
