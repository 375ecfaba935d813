-- What holds of a search's levels and of its end.
use Rattle.std.specs.Prelude.{◌≡◌, ℕ, ◌≤◌, true, List, [], ◌∷◌, ◌++◌}
use Rattle.ground_model.specs.declared.answer.Answer.{Answer}
use Rattle.ground_model.specs.declared.program.GroundProgram.{GroundProgram}
use Rattle.trail.specs.Assignment.{Assignment, IsAssignment, undone_to}
use Rattle.nogood_store.specs.Holding.{Held}
use Rattle.conflict_analysis.specs.Levels.{IsAsserting}
use Rattle.derivation_meaning.specs.State.{State, holds_empty}
use Rattle.derivation_meaning.specs.Claims.{IsRemaining}
use Rattle.propagator_core.specs.Meaning.{Meaning}
use Rattle.learning.specs.Known.{IsReached}
use Rattle.search_laws.specs.Levels.{IsCalmBelow}

-- where valid lines lead to a state that holds the empty nogood, no model remains
abbrev pub EmptyLaw : Type 0
EmptyLaw = (program : GroundProgram) (state : State) → IsReached program state → holds_empty state ≡ true → (answer : Answer) → IsRemaining program state answer → ⊥

-- where nothing is left to propagate below the open level, nothing is below the level to which the search goes back, also with the nogood that was learned
abbrev pub WaitLaw : Type 0
WaitLaw =
    (held : List Held) (ms : List Meaning) (t : Assignment) (h : Held) (level back : ℕ) → IsAssignment t → level ≤ t.level → back ≤ level
    → IsAsserting t h.nogood level → IsCalmBelow held ms t → IsCalmBelow (held ++ h ∷ []) ms (undone_to back t)
