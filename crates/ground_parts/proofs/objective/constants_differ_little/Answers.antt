use Rattle.std.proofs.Common.{◌-ℤ◌, ℤ, ◌∙◌, ap₂, FitsSigned, arith}
use Rattle.std.proofs.lemmas.Int.{ints, to_z-of_z, fits_signed_from_abs}
use Rattle.std.specs.Int.{w128}
use Rattle.ground_model.specs.Sound.{is_small}
use Rattle.ground_parts.proofs.objective.constants_differ_little.Goals as goal

pub returns : goal.returns
returns c =
    let a = c.total_constant.ensures.size in
    let b = c.total_constant-2.ensures.size in
    let one : FitsSigned w128 c.total_constant.result = record { sfits = c.total_constant.type_inv } in
    let other : FitsSigned w128 c.total_constant-2.result = record { sfits = c.total_constant-2.type_inv } in
    let gap : FitsSigned w128 (c.total_constant.result -ℤ c.total_constant-2.result) = fits_signed_from_abs w128 (c.total_constant.result -ℤ c.total_constant-2.result) (omega (arith, ints)) in
    simp (to_z-of_z w128 c.total_constant.result one, to_z-of_z w128 c.total_constant-2.result other, to_z-of_z w128 (c.total_constant.result -ℤ c.total_constant-2.result) gap) at c.is_small.ensures
    ∙ ap₂ (λ (x y : ℤ). is_small (x -ℤ y)) c.total_constant.ensures.value c.total_constant-2.ensures.value
