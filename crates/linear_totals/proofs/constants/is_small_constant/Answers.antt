use Rattle.std.proofs.Common.{◌≡◌, ◌≤◌, ◌+◌, ◌*◌, ◌^◌, ℤ, ◌+ℤ◌, drop, get_or, unsigned_abs, FitsSigned, to_z, of_z, sym, ◌∙◌, ap, subst, arith}
use Rattle.std.specs.Int.{w64, w128}
use Rattle.std.proofs.lemmas.Int.{ints, to_z-of_z, fits_signed_from_abs}
use Rattle.ground_model.proofs.Products.{drop_next}
use Rattle.linear_totals.specs.inner.Sums.{constants}
use Rattle.linear_totals.proofs.TotalLemmas.{small_fits}
use Rattle.linear_totals.proofs.constants.is_small_constant.Goals as goal

turned : (all sum more rest next : ℤ) → next ≡ sum +ℤ more → sum +ℤ (more +ℤ rest) ≡ all → next +ℤ rest ≡ all
turned all sum more rest next e f = omega (arith, ints, e, f)

pub loop-place-preserved : goal.loop-place-preserved
loop-place-preserved c =
    let size = c.loop-place.invariant.size in
    let grown = c.plus-sum.ensures.size in
    let below = c.loop-place-test.true in
    let next : ℤ = c.plus-sum.result in
    let fits : FitsSigned w128 next = fits_signed_from_abs w128 next (omega arith) in
    let same : to_z w128 (of_z w128 next) ≡ next = to_z-of_z w128 next fits in
    let place = c.index-places-place.result in
    let constant : ℤ = (get_or c.args.places.now c.loop-place.place place).linear.constant in
    let small = c.requires.places c.loop-place.place place c.loop-place-test.true in
    let fits_constant : FitsSigned w64 constant = small_fits constant small in
    let same_constant : to_z w64 (of_z w64 constant) ≡ constant = to_z-of_z w64 constant fits_constant in
    let rest = constants (drop (c.loop-place.place + 1) c.args.places.now) in
    let split = ap constants (drop_next c.args.places.now c.loop-place.place place c.loop-place-test.true) in
    let added : c.plus-sum.result ≡ to_z w128 c.loop-place.sum-bits +ℤ constant = c.plus-sum.ensures.sum ∙ (λ i. to_z w128 c.loop-place.sum-bits +ℤ same_constant i) in
    record {
      sum = ap (λ z. z +ℤ rest) same
          ∙ turned (constants c.args.places.now) (to_z w128 c.loop-place.sum-bits) constant rest next added
          (ap (λ z. to_z w128 c.loop-place.sum-bits +ℤ z) (sym split) ∙ c.loop-place.invariant.sum);
      size = subst (λ z. unsigned_abs z ≤ (c.loop-place.place + 1) * 2 ^ 62) (sym same) (omega arith);
    }
