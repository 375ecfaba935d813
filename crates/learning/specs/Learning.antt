-- What is learned from a conflict, and that valid lines tell it.
use Rattle.std.specs.Prelude.{◌≡◌, ℕ, ◌+◌, ◌<◌, ◌^◌, List, [], ◌∷◌, ◌++◌, None}
use Rattle.std.specs.List.{AllByRecursion}
use Rattle.ground_model.specs.declared.program.GroundProgram.{GroundProgram}
use Rattle.trail.specs.Assignment.{Assignment}
use Rattle.nogood_store.specs.Holding.{Held, AreBelow}
use Rattle.conflict_analysis.specs.declared.learned.Start.{Start}
use Rattle.conflict_analysis.specs.declared.learned.Learned.{Learned}
use Rattle.derivation.specs.declared.line.Line.{Line}
use Rattle.derivation.specs.Whole.{count_learned}
use Rattle.derivation_meaning.specs.State.{State, cost_in}
use Rattle.derivation_meaning.specs.Acceptance.{AreValid, after_all}
use Rattle.derivation_meaning.specs.Claims.{given_in}
use Rattle.trail_worlds.specs.Total.{shape_of}
use Rattle.learning.specs.Known.{Known, state_of}
use Rattle.learning.specs.Told.{AllTellable, IsTellableStart}
use Rattle.learning.specs.Chain.{lines_of}

-- valid lines lead from one state to another, and so many of them are `r` lines; they give no answer and claim nothing
pub record Lead (program : GroundProgram) (old new : State) (conflicts : ℕ) : Type 0 where
  pub lines : List Line
  pub valid : AreValid program old lines
  pub leads : new ≡ after_all program old lines
  pub counted : count_learned lines ≡ conflicts
  pub gives_none : given_in lines ≡ []
  pub unclaimed : new.claim ≡ old.claim

-- the ids below the next are those of the input nogoods, of the answers and of what is held
pub record AreNumbered (known : Known) (held : List Held) : Type 0 where
  pub inputs : known.inputs < known.next
  pub given : AllByRecursion (λ g. g.id < known.next) known.given
  pub below : AreBelow known.next held

-- nothing is claimed yet, and the next lines can tell what the start and the trail of the program show
pub record IsAnswered (program : GroundProgram) (known : Known) (last : ℕ) (held : List Held) (t : Assignment) (start : Start) : Type 0 where
  pub next : known.next ≡ last + 1
  pub unclaimed : known.claim ≡ None
  pub numbered : AreNumbered known held
  pub shape : t.shape ≡ shape_of program
  pub told : AllTellable program (cost_in known.best) t.entries
  pub start_told : IsTellableStart program (cost_in known.best) start

-- the state in which the nogood is held under this id, the last that is taken
abbrev pub learned_in : List Held → Known → Learned → ℕ → State
learned_in held known learned id = state_of (held ++ record { id = id; nogood = learned.nogood } ∷ []) (record known { next = id + 1 })

-- the lines of the chain lead to that state
pub record IsLesson (program : GroundProgram) (known : Known) (held : List Held) (learned : Learned) (id : ℕ) : Type 0 where
  pub lead : Lead program (state_of held known) (learned_in held known learned id) 1
  pub lines : lead.lines ≡ lines_of known.next learned.first learned.chain learned.nogood

-- valid lines take all ids below 2^64
abbrev pub IsFull : GroundProgram → Known → List Held → Type 0
IsFull program known held = (state : State) × Lead program (state_of held known) state 0 × (state.next ≡ 2 ^ 64)
