-- All theory atoms of an instance.
use Rattle.std.specs.Prelude.{◌≡◌, ℕ, List, length}
use Rattle.std.specs.List.{AllZip}
use Rattle.symbols.specs.Symbol.{Symbol}
use Rattle.ground_model.specs.Members.{IsMember}
use Rattle.program_meaning.specs.Ascending.{Exceeds}
use Rattle.program_meaning.specs.Read.{ReadTheory, ReadRule}
use Rattle.program_meaning.specs.Substitution.{Value}
use Rattle.program_meaning.specs.Tuples.{theories}
use Rattle.program_meaning.specs.Variables.{globals}
use Rattle.program_meaning.specs.Outside.{Cause, causes_before}
use Rattle.theory_laws.specs.Collecting.{AtomHas, IsElementKey}
use Rattle.theory_plans.specs.declared.plan.TheoryPlan.{TheoryPlan}
use Rattle.theory_plans.specs.Planned.{IsTheoryPlan}
use Rattle.collected_atoms.specs.declared.atom.CollectedAtom.{CollectedAtom}
use Rattle.collected_atoms.specs.Said.{IsAtomIn, cause_of}
use Rattle.theory_ground.specs.declared.collecting.CollectStop.{CollectStop}
use Rattle.theory_ground.specs.declared.collecting.CollectStop.TheVariants as stop

-- the plans are those of all theory atoms of the rule
abbrev pub ArePlansFor : List TheoryPlan → ReadRule → Type 0
ArePlansFor plans rule = AllZip (IsTheoryPlan rule) (theories rule) plans

-- this holds of each rule that the plans are of, where the values are those of the rule's global variables
abbrev pub FitsPlans : List TheoryPlan → ℕ → (ReadRule → Type 0) → Type 0
FitsPlans plans count claim = (rule : ReadRule) → ArePlansFor plans rule → count ≡ length (globals rule) → claim rule

-- the plans are of a rule with so many global variables
abbrev pub ArePlansOf : List TheoryPlan → ℕ → Type 0
ArePlansOf plans count = (rule : ReadRule) × ArePlansFor plans rule × (count ≡ length (globals rule))

-- the theory atoms of the rule have these collected forms
abbrev pub AreAtomsIn : List Symbol → (Symbol → Type 0) → ReadRule → List Value → List CollectedAtom → Type 0
AreAtomsIn symbols P rule values atoms = AllZip (IsAtomIn symbols P rule values) (theories rule) atoms

-- one of these theory atoms has the cause, and none of them has one before it
pub record IsFirstIn (P : Symbol → Type 0) (rule : ReadRule) (values : List Value) (all : List ReadTheory) (cause : Cause) : Type 0 where
  pub theory : ReadTheory
  pub member : IsMember all theory
  pub has : AtomHas P rule values theory cause
  pub first : (other : Cause) → IsMember (causes_before cause) other → (one : ReadTheory) → IsMember all one → AtomHas P rule values one other → ⊥

-- one of the rule's theory atoms has more element instances, or this is their first cause
abbrev pub IsStopOfAll : (Symbol → Type 0) → ReadRule → List Value → ℕ → CollectStop → Type 0
IsStopOfAll P rule values most stop.TooMany = (theory : ReadTheory) × IsMember (theories rule) theory × Exceeds (IsElementKey P rule values theory) most
IsStopOfAll P rule values most (stop.Outside cause) = IsFirstIn P rule values (theories rule) (cause_of cause)
IsStopOfAll P rule values most stop.Memory = Unit {0}
