-- The objective by number is the program's.
use Rattle.std.proofs.Common.{◌-ℤ◌, [], ◌∙◌, ap₂, length}
use Rattle.ground_model.proofs.Alike.{sum_alike}
use Rattle.ground_model.proofs.SizeLemmas.{sized_objective}
use Rattle.linear_normal.proofs.SumLemmas.{moved_total}
use Rattle.numbering_laws.specs.Objective.{ObjectiveLaw}

pub objective_law : ObjectiveLaw
objective_law program world =
    let s = sized_objective (length program.symbols) (length program.variables) program.smaller program.larger program.sound_objective in
    moved_total world.values (length program.variables) program.smaller program.larger s.0 s.1
    ∙ ap₂ ◌-ℤ◌ (sum_alike world.values [] program.symbols program.smaller) (sum_alike world.values [] program.symbols program.larger)
