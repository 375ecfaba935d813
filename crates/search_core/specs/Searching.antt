-- What callers see of a search, what an event tells, and what a stop leaves.
use Rattle.std.specs.Prelude.{◌≡◌, ℕ, ◌≤◌, ◌⊎◌, ◌+◌, ◌^◌, Bool, true, false, List, [], ◌∷◌, ◌++◌, length, None, Some}
use Rattle.ground_model.specs.declared.answer.Answer.{Answer}
use Rattle.ground_model.specs.declared.program.GroundProgram.{GroundProgram}
use Rattle.derivation.specs.declared.line.Line.{Line}
use Rattle.derivation.specs.Whole.{count_learned}
use Rattle.derivation_meaning.specs.declared.claim.Claim.{Claim}
use Rattle.derivation_meaning.specs.State.{State, holds_empty}
use Rattle.derivation_meaning.specs.Acceptance.{AreValid, after_all}
use Rattle.derivation_meaning.specs.Claims.{IsRemaining, given_in}
use Rattle.search_core.specs.declared.event.Event.{Event}
use Rattle.search_core.specs.declared.event.Event.TheVariants as event
use Rattle.search_core.specs.declared.event.Stop.{Stop}
use Rattle.search_core.specs.declared.event.Stop.TheVariants as stop

-- the program, the state that the lines so far lead to, how many nogoods were learned, and whether nothing more is asked of the search
pub record Searching : Type 0 where
  pub program : GroundProgram
  pub state : State
  pub conflicts : ℕ
  pub spent : Bool

-- a new search
abbrev pub begun : GroundProgram → State → Searching
begun program state = record { program = program; state = state; conflicts = 0; spent = false }

-- no model remains
abbrev pub NoneRemains : GroundProgram → State → Type 0
NoneRemains program state = (answer : Answer) → IsRemaining program state answer → ⊥

-- a claim stands
abbrev pub IsClaimed : State → Type 0
IsClaimed state = (claim : Claim) × (state.claim ≡ Some claim)

-- what an event tells, by the lines for it: an answer was a model that remained, these lines give it alone, and nothing is claimed;
-- where the search is exhausted none remained, the lines give nothing, the empty nogood is held, and a claim stands
abbrev pub Tells : Searching → Searching → List Line → Event → Type 0
Tells old new lines (event.Answer answer) =
    IsRemaining old.program old.state answer × (new.state.answers ≡ old.state.answers ++ answer ∷ []) × (given_in lines ≡ answer ∷ []) × (new.state.claim ≡ None)
Tells old new lines event.Exhausted =
    NoneRemains old.program old.state × (given_in lines ≡ []) × (holds_empty new.state ≡ true) × IsClaimed new.state

-- valid lines lead to the new state, and tell the event
pub record Goes (old new : Searching) (event : Event) : Type 0 where
  pub lines : List Line
  pub valid : AreValid old.program old.state lines
  pub leads : new.state ≡ after_all old.program old.state lines
  pub counted : new.conflicts ≡ old.conflicts + count_learned lines
  pub tells : Tells old new lines event

-- conflict `limit` left a nogood that is not empty, or the next id is 2^64; no line gives an answer or claims anything
pub record IsAtLimit (limit : ℕ) (old new : Searching) : Type 0 where
  pub lines : List Line
  pub valid : AreValid old.program old.state lines
  pub counted : new.conflicts ≡ old.conflicts + count_learned lines
  pub gives_none : given_in lines ≡ []
  pub unclaimed : (after_all old.program old.state lines).claim ≡ None
  pub cause : ((new.conflicts ≡ limit) × (holds_empty (after_all old.program old.state lines) ≡ false))
      ⊎ ((after_all old.program old.state lines).next ≡ 2 ^ 64)

-- there were valid lines, and at most one answer was given
pub record IsCut (old new : Searching) : Type 0 where
  pub lines : List Line
  pub valid : AreValid old.program old.state lines
  pub counted : new.conflicts ≡ old.conflicts + count_learned lines
  pub gives_one : length (given_in lines) ≤ 1

-- what a stop leaves
abbrev pub Stops : ℕ → Searching → Searching → Stop → Type 0
Stops limit old new stop.Limit = IsAtLimit limit old new
Stops limit old new stop.Memory = IsCut old new

-- nothing more is asked of a search that is exhausted
abbrev pub is_exhausted : Event → Bool
is_exhausted (event.Answer answer) = false
is_exhausted event.Exhausted = true
