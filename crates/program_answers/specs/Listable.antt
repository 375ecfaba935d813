-- Which programs are listed, and where the output of a listing failed.
use Rattle.std.specs.Prelude.{◌≡◌, ◌&&◌, not, Bool, Result, Ok, Err}
use Rattle.std.specs.List.{list_any}
use Rattle.ground_model.specs.declared.program.GroundProgram.{GroundProgram}
use Rattle.linear_normal.specs.Numbering.{numbering}
use Rattle.propagators.specs.Tuples.{is_about_tuples}
use Rattle.enumerator.specs.declared.summary.Ending.TheVariants as e
use Rattle.program_answers.specs.declared.listing.Listing.{Listing}
use Rattle.program_answers.specs.declared.listing.ListStop.{ListStop}

-- the program has no objective, and none of its constraints is about tuples
abbrev pub is_listable : GroundProgram → Bool
is_listable program = not program.has_objective && not (list_any is_about_tuples (numbering program).constraints)

-- the output failed
abbrev pub HasFailed : Result Listing ListStop → Type 0
HasFailed (Ok found) = found.ending ≡ e.WriteFault
HasFailed (Err stop) = ⊥
