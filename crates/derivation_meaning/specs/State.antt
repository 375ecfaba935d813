-- What is known between two lines of a derivation.
use Rattle.std.specs.Prelude.{ℕ, ◌+◌, ◌==◌, Bool, true, false, ◌&&◌, ℤ, List, [], ◌∷◌, length, Option, None, Some}
use Rattle.std.specs.List.{list_any, find}
use Rattle.literals.specs.declared.lit.Lit.{Lit}
use Rattle.ground_model.specs.declared.answer.Answer.{Answer}
use Rattle.ground_model.specs.declared.program.GroundProgram.{GroundProgram}
use Rattle.completion.specs.Inputs.{input_nogoods}
use Rattle.derivation_meaning.specs.declared.claim.Claim.{Claim}

-- a nogood that a line may name by its id
pub record Entry : Type 0 where
  pub id : ℕ
  pub nogood : List Lit
  -- it stays live; any other is live up to the next `r` line
  pub is_held : Bool
  -- it is that of an `r` line
  pub is_learned : Bool

-- an answer and its objective
pub record Best : Type 0 where
  pub cost : ℤ
  pub answer : Answer

-- the next id, the live nogoods, the answers of the `m` lines, the answer of the last `o` line, and what a `q` line claimed
pub record State : Type 0 where
  pub next : ℕ
  pub live : List Entry
  pub answers : List Answer
  pub best : Option Best
  pub claim : Option Claim

-- held nogoods, numbered from n on
abbrev pub held_from : ℕ → List (List Lit) → List Entry
held_from n [] = []
held_from n (nogood ∷ nogoods) = record { id = n; nogood = nogood; is_held = true; is_learned = false } ∷ held_from (n + 1) nogoods

-- before the first line the input nogoods are held, from 1 on
abbrev pub start : GroundProgram → State
start program = record {
  next = 1 + length (input_nogoods program);
  live = held_from 1 (input_nogoods program);
  answers = [];
  best = None;
  claim = None;
}

abbrev pub nogood_in : Option Entry → Option (List Lit)
nogood_in None = None
nogood_in (Some entry) = Some entry.nogood

-- the live nogood of an id
abbrev pub live_nogood : State → ℕ → Option (List Lit)
live_nogood state id = nogood_in (find (λ entry. entry.id == id) state.live)

-- the list has no literal
abbrev pub is_empty : List Lit → Bool
is_empty [] = true
is_empty (lit ∷ lits) = false

-- the empty nogood is held
abbrev pub holds_empty : State → Bool
holds_empty state = list_any (λ entry. entry.is_held && is_empty entry.nogood) state.live

abbrev pub cost_in : Option Best → Option ℤ
cost_in None = None
cost_in (Some best) = Some best.cost

-- the cost of the last `o` line
abbrev pub last_cost : State → Option ℤ
last_cost state = cost_in state.best

abbrev pub answer_in_best : Option Best → Option Answer
answer_in_best None = None
answer_in_best (Some best) = Some best.answer

-- the answer of the last `o` line
abbrev pub last_answer : State → Option Answer
last_answer state = answer_in_best state.best
