use Rattle.std.proofs.Common.{◌≡◌, ◌-ℤ◌, [], length, map, ap₂, ◌∙◌, FitsSigned, arith}
use Rattle.std.proofs.lemmas.Int.{to_z-of_z, ints, fits_signed_from_abs}
use Rattle.std.specs.Int.{w128}
use Rattle.ground_model.specs.declared.program.GroundProgram.{GroundProgram}
use Rattle.ground_model.specs.Sizes.{AreSizedPlaces}
use Rattle.ground_model.specs.Truth.{sum_of}
use Rattle.ground_model.specs.View.{place_of}
use Rattle.ground_model.specs.Answers.{value_at}
use Rattle.ground_model.proofs.Alike.{sum_alike}
use Rattle.ground_model.proofs.SizeLemmas.{sized_objective, modest_values}
use Rattle.ground_model.proofs.cost.objective.Goals as goal

sized : (program : GroundProgram) → AreSizedPlaces (length program.variables) program.smaller × AreSizedPlaces (length program.variables) program.larger
sized program = sized_objective (length program.symbols) (length program.variables) program.smaller program.larger program.sound_objective

pub sum_value-smaller-requires-clause-places : goal.sum_value-smaller-requires-clause-places
sum_value-smaller-requires-clause-places c = rw (c.items-values.ensures, c.requires.each, c.items.ensures) (sized c.args.program.now).0

pub sum_value-smaller-requires-clause-values : goal.sum_value-smaller-requires-clause-values
sum_value-smaller-requires-clause-values c = rw c.items-values.ensures (modest_values c.args.program.now.ends c.args.answer.now.values c.requires.within)

pub sum_value-larger-requires-clause-places : goal.sum_value-larger-requires-clause-places
sum_value-larger-requires-clause-places c = rw (c.items-values.ensures, c.requires.each, c.items-2.ensures) (sized c.args.program.now).1

pub sum_value-larger-requires-clause-values : goal.sum_value-larger-requires-clause-values
sum_value-larger-requires-clause-values c = rw c.items-values.ensures (modest_values c.args.program.now.ends c.args.answer.now.values c.requires.within)

pub returns : goal.returns
returns c =
    let program = c.args.program.now in
    let values = c.args.answer.now.values in
    let smaller : c.sum_value-smaller.result ≡ sum_of (value_at values) (map (place_of program.symbols) program.smaller) =
    c.sum_value-smaller.ensures.value ∙ rw (c.items-values.ensures, c.items.ensures) (sum_alike (value_at values) [] program.symbols program.smaller) in
    let larger : c.sum_value-larger.result ≡ sum_of (value_at values) (map (place_of program.symbols) program.larger) =
    c.sum_value-larger.ensures.value ∙ rw (c.items-values.ensures, c.items-2.ensures) (sum_alike (value_at values) [] program.symbols program.larger) in
    let one = c.sum_value-smaller.ensures.size in
    let two = c.sum_value-larger.ensures.size in
    let fits_one : FitsSigned w128 c.sum_value-smaller.result = fits_signed_from_abs w128 c.sum_value-smaller.result (omega arith) in
    let fits_two : FitsSigned w128 c.sum_value-larger.result = fits_signed_from_abs w128 c.sum_value-larger.result (omega arith) in
    let fits : FitsSigned w128 (c.sum_value-smaller.result -ℤ c.sum_value-larger.result) =
    fits_signed_from_abs w128 (c.sum_value-smaller.result -ℤ c.sum_value-larger.result) (omega (arith, ints)) in
    rw (to_z-of_z w128 c.sum_value-smaller.result fits_one, to_z-of_z w128 c.sum_value-larger.result fits_two, to_z-of_z w128 (c.sum_value-smaller.result -ℤ c.sum_value-larger.result) fits)
    (ap₂ ◌-ℤ◌ smaller larger)
