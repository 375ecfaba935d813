-- When each atom that is not false has a support that is not false, and when loop reasons are valid.
use Rattle.std.specs.Prelude.{ℕ, List, IsTrue}
use Rattle.std.specs.List.{AllByRecursion}
use Rattle.literals.specs.declared.reason.Reason.{Reason}
use Rattle.ground_model.specs.declared.program.GroundProgram.{GroundProgram}
use Rattle.ground_model.specs.Answers.{IsNumbered}
use Rattle.completion.specs.Inputs.{atom_nogood, input_nogoods}
use Rattle.trail.specs.Assignment.{Assignment}
use Rattle.nogood_store.specs.Holding.{Held, IsHeld}
use Rattle.nogood_store.specs.Propagation as store
use Rattle.unfounded_sets.specs.Dependence.{Dependence, dependence_of, Fits}
use Rattle.unfounded_sets.specs.Loops.{AreSupported, IsValidLoop, shows_loop}

-- for each atom it is held that a true atom has a true body
abbrev pub HoldsSupports : Dependence → List Held → Type 0
HoldsSupports d held = (a : ℕ) → IsNumbered d.atoms a → IsHeld held (atom_nogood d.supports a)

-- so it is where the input nogoods of the program are held
abbrev pub HoldsLaw : Type 0
HoldsLaw = (program : GroundProgram) (held : List Held) → AllByRecursion (IsHeld held) (input_nogoods program) → HoldsSupports (dependence_of program) held

-- and where held nogoods force nothing, each atom that is not false has a support that is not false
abbrev pub RestLaw : Type 0
RestLaw =
    (d : Dependence) (held : List Held) (t : Assignment) → Fits d t.shape → HoldsSupports d held
    → AllByRecursion (λ h. store.IsQuiet t h.nogood) held → AreSupported d t

-- a reason that the dependence of a program shows by a loop is a valid step, whatever the last cost
abbrev pub ShownLaw : Type 0
ShownLaw = (program : GroundProgram) (r : Reason) → IsTrue (shows_loop (dependence_of program) r) → IsValidLoop (dependence_of program) r
