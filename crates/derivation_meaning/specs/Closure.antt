-- What unit propagation makes known, from nogoods and from the bounds of sums and domains.
use Rattle.std.specs.Prelude.{◌≡◌, ℕ, zero, suc, Bool, true, false, ◌⊎◌, List, None}
use Rattle.symbols.specs.declared.ends.Ends.{Ends}
use Rattle.literals.specs.declared.lit.Lit.{Lit}
use Rattle.literals.specs.declared.reason.Step.{Step}
use Rattle.literals.specs.declared.reason.Step.TheVariants as step
use Rattle.literals.specs.Lits.{complement_of, implies_lit}
use Rattle.literals.specs.Truths.{Truths, lit_true}
use Rattle.ground_model.specs.declared.program.GroundProgram.{GroundProgram}
use Rattle.ground_model.specs.Members.{IsMember}
use Rattle.ground_model.specs.Answers.{IsWithin}
use Rattle.linear_normal.specs.Numbering.{numbering}
use Rattle.linear_normal.specs.Steps.{is_valid}

-- the literal is true whatever numbers within the ends the variables have
abbrev pub IsAlwaysTrue : Ends → Lit → Type 0
IsAlwaysTrue ends lit = (truths : Truths) → ((x : ℕ) → IsWithin ends (truths.value x)) → lit_true truths lit ≡ true

-- the step is that of a sum or of a domain, the objective and the ends aside
abbrev pub is_of_bounds : Step → Bool
is_of_bounds (step.Sum (suc c)) = true
is_of_bounds (step.Hole (suc c)) = true
is_of_bounds other = false

-- the list is shown to be a nogood by a sum or a domain
abbrev pub IsByBounds : GroundProgram → List Lit → Type 0
IsByBounds program lits =
    (by : Step) × (is_of_bounds by ≡ true) × (is_valid program (numbering program) None lits by ≡ true)

-- the list forces a literal where all of its others are known: the literal is the opposite of the one left
pub record Forces (Known : Lit → Type 0) (lits : List Lit) (l : Lit) : Type 0 where
  pub left : Lit
  pub among : IsMember lits left
  pub opposite : l ≡ complement_of left
  pub others : (other : Lit) → IsMember lits other → (other ≡ left) ⊎ Known other

-- what is known one round later: what is given, what is always true, what follows from a known literal, and what a nogood or the bounds force
abbrev pub Follows : GroundProgram → List (List Lit) → List Lit → (Lit → Type 0) → Lit → Type 0
Follows program nogoods given Known l =
    IsMember given l
    ⊎ IsAlwaysTrue program.ends l
    ⊎ ((known : Lit) × Known known × (implies_lit known l ≡ true))
    ⊎ ((lits : List Lit) × (IsMember nogoods lits ⊎ IsByBounds program lits) × Forces Known lits l)

-- what is known after so many rounds
abbrev pub KnownAt : GroundProgram → List (List Lit) → List Lit → ℕ → Lit → Type 0
KnownAt program nogoods given zero l = ⊥
KnownAt program nogoods given (suc n) l = Follows program nogoods given (KnownAt program nogoods given n) l

-- the unit closure of the given literals over nogoods
abbrev pub InClosure : GroundProgram → List (List Lit) → List Lit → Lit → Type 0
InClosure program nogoods given l = (n : ℕ) × KnownAt program nogoods given n l
