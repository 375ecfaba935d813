-- When a learned nogood is new, and when it is new in strength.
use Rattle.std.specs.Prelude.{◌≡◌, Bool, true, false, ◌⊎◌, List, [], map, None}
use Rattle.std.specs.List.{filter}
use Rattle.literals.specs.declared.lit.Lit.{Lit}
use Rattle.literals.specs.declared.reason.Step.{Step}
use Rattle.literals.specs.declared.reason.Step.TheVariants as step
use Rattle.literals.specs.Lits.{complement_of}
use Rattle.literals.specs.Nogoods.{without}
use Rattle.ground_model.specs.declared.program.GroundProgram.{GroundProgram}
use Rattle.ground_model.specs.Members.{IsMember}
use Rattle.linear_normal.specs.Numbering.{numbering}
use Rattle.linear_normal.specs.Steps.{is_valid}
use Rattle.derivation_meaning.specs.State.{State}
use Rattle.derivation_meaning.specs.Closure.{InClosure}

-- the nogoods that are held
abbrev pub held_nogoods : State → List (List Lit)
held_nogoods state = map (λ entry. entry.nogood) (filter (λ entry. entry.is_held) state.live)

-- no held nogood is this one; both are sorted, so equal sets are equal lists
abbrev pub IsNew : State → List Lit → Type 0
IsNew state nogood = IsMember (held_nogoods state) nogood → ⊥

-- the step is that of a distinct or a disjoint constraint
abbrev pub is_of_places : Step → Bool
is_of_places (step.Distinct c a b) = true
is_of_places (step.Window c a b) = true
is_of_places (step.Pair c i j) = true
is_of_places other = false

-- the literal is neither in the closure nor is its opposite
pub record IsOpen (program : GroundProgram) (nogoods : List (List Lit)) (given : List Lit) (l : Lit) : Type 0 where
  pub not_known : InClosure program nogoods given l → ⊥
  pub not_refuted : InClosure program nogoods given (complement_of l) → ⊥

-- no distinct or disjoint constraint shows a list of literals of the closure to be a nogood
abbrev pub NoneByPlaces : GroundProgram → List (List Lit) → List Lit → Type 0
NoneByPlaces program nogoods given =
    (by : Step) (lits : List Lit) → is_of_places by ≡ true → is_valid program (numbering program) None lits by ≡ true
    → ((l : Lit) → IsMember lits l → InClosure program nogoods given l) → ⊥

-- a literal of the nogood was not told by the others: it is open in their closure over the held nogoods, and their closure is no conflict by places
pub record IsStrong (program : GroundProgram) (state : State) (nogood : List Lit) : Type 0 where
  pub lit : Lit
  pub among : IsMember nogood lit
  pub open_there : IsOpen program (held_nogoods state) (without nogood lit) lit
  pub no_conflict : NoneByPlaces program (held_nogoods state) (without nogood lit)

-- the nogood is new in strength: it is empty, or a literal of it was not told by the others
abbrev pub IsNewInStrength : GroundProgram → State → List Lit → Type 0
IsNewInStrength program state nogood = (nogood ≡ []) ⊎ IsStrong program state nogood
