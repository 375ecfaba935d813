-- What a search keeps of its derivation beside the held nogoods, and the state that both together are.
use Rattle.std.specs.Prelude.{◌≡◌, ℕ, ◌+◌, ◌==◌, Bool, true, not, ◌&&◌, nat_lt, List, [], map, length, Option, None, Some}
use Rattle.std.specs.List.{AllByRecursion, list_any}
use Rattle.ground_model.specs.declared.program.GroundProgram.{GroundProgram}
use Rattle.completion.specs.Inputs.{input_nogoods}
use Rattle.nogood_store.specs.Holding.{Held, nogood_under}
use Rattle.derivation.specs.declared.line.Line.{Line}
use Rattle.derivation_meaning.specs.declared.claim.Claim.{Claim}
use Rattle.derivation_meaning.specs.State.{Entry, Best, State, start}
use Rattle.derivation_meaning.specs.Lines.{answer_nogood}
use Rattle.derivation_meaning.specs.Acceptance.{AreValid, after_all}
use Rattle.learning.specs.declared.known.Given.{Given}

-- how many input nogoods there are, the next id, the answers that were given, the last better one, and the claim
pub record Known : Type 0 where
  pub inputs : ℕ
  pub next : ℕ
  pub given : List Given
  pub best : Option Best
  pub claim : Option Claim

abbrev pub is_given : List Given → ℕ → Bool
is_given given id = list_any (λ g. g.id == id) given

-- a held nogood as one that lines may name
abbrev pub live_of : Known → Held → Entry
live_of known h = record {
  id = h.id;
  nogood = h.nogood;
  is_held = true;
  is_learned = nat_lt known.inputs h.id && not (is_given known.given h.id);
}

-- where the held nogoods are all that is live
abbrev pub state_of : List Held → Known → State
state_of held known = record {
  next = known.next;
  live = map (live_of known) held;
  answers = map (λ g. g.answer) known.given;
  best = known.best;
  claim = known.claim;
}

-- valid lines lead to the state
abbrev pub IsReached : GroundProgram → State → Type 0
IsReached program state = (lines : List Line) × AreValid program (start program) lines × (state ≡ after_all program (start program) lines)

-- the nogood of each answer that was given is held
abbrev pub AreListed : GroundProgram → List Held → List Given → Type 0
AreListed program held given = AllByRecursion (λ g. nogood_under held g.id ≡ Some (answer_nogood program g.answer)) given

-- what is known before the first line
abbrev pub first_known : GroundProgram → Known
first_known program = record { inputs = length (input_nogoods program); next = 1 + length (input_nogoods program); given = []; best = None; claim = None }
