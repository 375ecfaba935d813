-- The lines that a search gives beside those of what it learns. Only the code of this crate reads this file.
use Rattle.std.specs.Prelude.{◌≡◌, ℕ, ◌+◌, ◌^◌, true, [], ◌∷◌, ◌++◌, length, None, Some}
use Rattle.ground_model.specs.declared.answer.Answer.{Answer}
use Rattle.ground_model.specs.declared.program.GroundProgram.{GroundProgram}
use Rattle.derivation_meaning.specs.State.{State, holds_empty}
use Rattle.derivation_meaning.specs.Valid.{IsValid, after}
use Rattle.derivation_meaning.specs.Claims.{IsRemaining}
use Rattle.learning.specs.Learning.{Lead}
use Rattle.search_laws.specs.Giving.{answer_line, end_line, claim_after}
use Rattle.search_core.specs.Searching.{NoneRemains}

-- the line that gives the answer is valid, leads from one state to the other, and the answer is a model that remained
pub record Gives (program : GroundProgram) (old new : State) (answer : Answer) : Type 0 where
  pub valid : IsValid program old (answer_line answer)
  pub leads : new ≡ after program old (answer_line answer)
  pub remaining : IsRemaining program old answer
  pub answers : new.answers ≡ old.answers ++ answer ∷ []
  pub unclaimed : new.claim ≡ None

-- the line that ends the search is valid, leads from one state to the other, and no model remained
pub record Ends (program : GroundProgram) (old new : State) : Type 0 where
  pub valid : IsValid program old (end_line (length old.answers))
  pub leads : new ≡ after program old (end_line (length old.answers))
  pub none : NoneRemains program old
  pub empty : holds_empty new ≡ true
  pub claimed : new.claim ≡ Some (claim_after (length old.answers))

-- valid lines take all ids below 2^64
pub record IsFullAt (program : GroundProgram) (old : State) : Type 0 where
  pub state : State
  pub lead : Lead program old state 0
  pub full : state.next ≡ 2 ^ 64

-- valid lines lead from one state to another, as many of them learn a nogood as conflicts were counted between, and none gives an answer
pub record IsLed (program : GroundProgram) (old new : State) (before now : ℕ) : Type 0 where
  pub count : ℕ
  pub counted : now ≡ before + count
  pub lead : Lead program old new count
