use Rattle.std.proofs.Common.{◌≡◌, ◌≤◌, ◌^◌, ◌+◌, ◌+ℤ◌, ◌∙◌, refl, length, ap, FitsSigned, to_z, of_z, arith}
use Rattle.std.proofs.lemmas.Int.{to_z-of_z}
use Rattle.std.specs.Int.{w64, w128}
use Rattle.ground_model.specs.Sound.{greatest_product, greatest_sum}
use Rattle.ground_parts.proofs.SumSteps.{SpanStep, span_step}
use Rattle.large_values.proofs.ValueLemmas.{sum_fits}
use Rattle.large_values.proofs.values.greatest_value.Goals as goal

step : (c : goal.After-greatest_product-sum)
    → SpanStep c.items-coefficient-items.result.now c.loop-coefficient.coefficient-index (greatest_sum c.args.ends)
    (greatest_sum c.args.ends c.items-coefficient-items.result.now +ℤ c.args.linear.now.constant) (to_z w128 c.loop-coefficient.sum-bits +ℤ c.greatest_product-sum.result)
step c =
    span_step c.items-coefficient-items.result.now c.loop-coefficient.coefficient-index c.loop-coefficient-item.result (greatest_product c.args.ends) (greatest_sum c.args.ends)
    (greatest_sum c.args.ends c.items-coefficient-items.result.now +ℤ c.args.linear.now.constant) (to_z w128 c.loop-coefficient.sum-bits) c.greatest_product-sum.result
    (λ pair rest. refl) c.loop-coefficient-test.true c.loop-coefficient.invariant.so_far c.loop-coefficient.invariant.left c.loop-coefficient.invariant.size
    (c.greatest_product-sum.ensures.value ∙ ap (λ p. greatest_product c.args.ends (to_z w64 (of_z w64 p.1))) c.loop-coefficient-item.is) c.greatest_product-sum.ensures.size

term_fits : (c : goal.After-greatest_product-sum) → to_z w128 (of_z w128 c.greatest_product-sum.result) ≡ c.greatest_product-sum.result
term_fits c =
    let fits : FitsSigned w128 c.greatest_product-sum.result = record { sfits = c.greatest_product-sum.type_inv } in to_z-of_z w128 c.greatest_product-sum.result fits

whole_fits : (c : goal.After-greatest_product-sum) → FitsSigned w128 (to_z w128 c.loop-coefficient.sum-bits +ℤ c.greatest_product-sum.result)
whole_fits c =
    let few : c.loop-coefficient.coefficient-index + 1 ≤ 2 ^ 32 = omega (arith, ap length c.items-coefficient-items.ensures, c.requires.few) in
    sum_fits (c.loop-coefficient.coefficient-index + 1) _ few (step c).size

pub loop-coefficient-preserved : goal.loop-coefficient-preserved
loop-coefficient-preserved c =
    rw (term_fits c, to_z-of_z w128 (to_z w128 c.loop-coefficient.sum-bits +ℤ c.greatest_product-sum.result) (whole_fits c)) (record {
      so_far = (step c).so_far;
      left = (step c).left;
      size = (step c).size;
    })
