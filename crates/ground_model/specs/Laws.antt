-- Laws above the definitions.
use Rattle.std.specs.Prelude.{◌≡◌, ◌↔◌, ℕ, ◌≤◌, Bool, true, ℤ, ◌+ℤ◌, ◌≤ℤ◌, ◌<ℤ◌}
use Rattle.std.specs.List.{AllByRecursion}
use Rattle.ground_model.specs.declared.answer.Answer.{Answer}
use Rattle.ground_model.specs.declared.program.GroundProgram.{GroundProgram}
use Rattle.ground_model.specs.Rules.{IsTrueIn}
use Rattle.ground_model.specs.Derivable.{Gives, Derivable}
use Rattle.ground_model.specs.Stable.{HeadHolds, IsChosen}
use Rattle.ground_model.specs.Model.{rules_with, IsModel}
use Rattle.ground_model.specs.Truth.{share}
use Rattle.ground_model.specs.Answers.{IsRuleOf, IsOnlyAnswer}
use Rattle.ground_model.specs.Definite.{is_definite}
use Rattle.ground_model.specs.World.{World}
use Rattle.ground_model.specs.Duties.{IsStableByTests}
use Rattle.ground_model.specs.Reduct.{reduct}

-- ranks do not matter: what is derivable at a rank is derivable at every larger one
abbrev pub RanksLaw : Type 0
RanksLaw =
    (program : GroundProgram) (values : ℕ → ℤ) (model : ℕ → Bool) (low high a : ℕ) → low ≤ high
    → Derivable (rules_with (IsRuleOf program) values) model low a → Derivable (rules_with (IsRuleOf program) values) model high a

-- a set is closed under the reduct by a model: it has each atom that a rule gives from it
abbrev pub IsClosed : GroundProgram → (ℕ → ℤ) → (ℕ → Bool) → (ℕ → Bool) → Type 0
IsClosed program values model set = (a : ℕ) → Gives (rules_with (IsRuleOf program) values) model (λ b. set b ≡ true) a → set a ≡ true

-- a set is the least one that is closed under its own reduct
pub record IsLeastClosed (program : GroundProgram) (values : ℕ → ℤ) (model : ℕ → Bool) : Type 0 where
  pub closed : IsClosed program values model model
  pub least : (set : ℕ → Bool) → IsClosed program values model set → (a : ℕ) → model a ≡ true → set a ≡ true

-- a set meets the rules: each head holds where its body is true
abbrev pub MeetsRules : GroundProgram → (ℕ → ℤ) → (ℕ → Bool) → Type 0
MeetsRules program values model =
    let rules = rules_with (IsRuleOf program) values in
    (name : rules.Name) → AllByRecursion (IsTrueIn model) (rules.body name) → HeadHolds model (IsChosen rules model name) (rules.head name)

-- a set is a stable model exactly where it meets the rules and is the least one that is closed under its reduct
abbrev pub LeastLaw : Type 0
LeastLaw =
    (program : GroundProgram) (values : ℕ → ℤ) (model : ℕ → Bool)
    → IsModel (IsRuleOf program) values model ↔ (MeetsRules program values model × IsLeastClosed program values model)

-- a stable model is determined by what its reduct keeps: by its negated and theory literals and by its choices
abbrev pub DeterminedLaw : Type 0
DeterminedLaw =
    (program : GroundProgram) (one other : World) → IsModel (IsRuleOf program) one.values one.atoms → IsModel (IsRuleOf program) other.values other.atoms
    → reduct program.rules one ≡ reduct program.rules other → (a : ℕ) → one.atoms a ≡ other.atoms a

-- a program of facts and definite rules has exactly one constraint stable model
abbrev pub DefiniteLaw : Type 0
DefiniteLaw = (program : GroundProgram) → is_definite program ≡ true → (answer : Answer) × IsOnlyAnswer program answer

-- the tests say exactly when a world is a stable model
abbrev pub TestsLaw : Type 0
TestsLaw = (program : GroundProgram) (world : World) → IsModel (IsRuleOf program) world.values world.atoms ↔ IsStableByTests program.rules world

-- two spans share an integer exactly where some integer lies in both
abbrev pub ShareLaw : Type 0
ShareLaw =
    (a d b e : ℤ) → (share a d b e ≡ true) ↔ ((k : ℤ) × (a ≤ℤ k) × (k <ℤ (a +ℤ d)) × (b ≤ℤ k) × (k <ℤ (b +ℤ e)))
