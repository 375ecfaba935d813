-- The instances of elements, judged one by one.
use Rattle.std.specs.Prelude.{◌≡◌, ◌⊎◌, ◌<◌, ℕ, true, false, List, [], ◌∷◌, ◌++◌, length}
use Rattle.std.specs.List.{AllByRecursion, AllZip}
use Rattle.symbols.specs.Symbol.{Symbol}
use Rattle.syntax_tree.specs.declared.literal.TheoryName.{TheoryName}
use Rattle.syntax_tree.specs.Outcome.{Outcome}
use Rattle.ground_model.specs.Members.{IsMember}
use Rattle.program_meaning.specs.Read.{ReadElement, ReadTheory, ReadRule}
use Rattle.program_meaning.specs.Substitution.{Value, Key, substituted}
use Rattle.program_meaning.specs.Theory.{element_over}
use Rattle.program_meaning.specs.Instance.{bound_in_element, IsRelevantElement}
use Rattle.program_meaning.specs.Outside.{is_element_over}
use Rattle.program_meaning.specs.Variables.{globals}
use Rattle.instance_rows.specs.Tests.{are_over}
use Rattle.instance_plans.specs.declared.plan.Plan.{Plan}
use Rattle.instance_plans.specs.Plans.{IsElementPlan, tests_of}
use Rattle.instance_search.specs.declared.found.Row.{Row}
use Rattle.instance_search.specs.Found.{row_in}
use Rattle.collected_elements.specs.declared.judged.ElementStop.{ElementStop}
use Rattle.collected_elements.specs.declared.judged.ElementStop.TheVariants as element_stop
use Rattle.collected_elements.specs.declared.judged.JudgedElement.{JudgedElement}
use Rattle.collected_elements.specs.Judged.{IsJudged, IsKnownElement}
use Rattle.collected_atoms.specs.declared.atom.AtomStop.{AtomStop}
use Rattle.collected_atoms.specs.declared.atom.AtomStop.TheVariants as atom_stop
use Rattle.collected_atoms.specs.declared.atom.OutsideCause.TheVariants as cause
use Rattle.collected_atoms.specs.declared.gathering.Gathered.{Gathered}
use Rattle.collected_atoms.specs.Gathering.{IsGathered, IsInstanceJudged}
use Rattle.theory_ground.specs.declared.collecting.CollectStop.{CollectStop}
use Rattle.theory_ground.specs.declared.collecting.CollectStop.TheVariants as collect_stop
use Rattle.theory_ground.specs.declared.elements.GatherStop.{GatherStop}
use Rattle.theory_ground.specs.declared.elements.GatherStop.TheVariants as gather_stop

-- ROWS

-- what variables are worth in a row of a plan
abbrev pub bound_by : Plan → List Value → List Value → List Outcome
bound_by plan values row = substituted plan.count (plan.given ++ plan.variables) (values ++ row)

-- its flag says whether something that a test asks about is over
abbrev pub HasFlag : List Symbol → Plan → List Value → Row → Type 0
HasFlag symbols plan values row = row.over ≡ are_over (bound_by plan values (row_in symbols row)) (tests_of plan)

-- what an instance comes to in which nothing is over
pub record IsRowJudged (symbols : List Symbol) (kind : TheoryName) (read : ReadElement) (plan : Plan) (values row : List Value) (judged : JudgedElement) : Type 0 where
  pub comes : IsJudged symbols kind (bound_by plan values row) read judged
  pub known : IsKnownElement symbols judged
  pub settled : are_over (bound_by plan values row) (tests_of plan) ≡ false

-- something in an instance is over
abbrev pub IsRowOver : TheoryName → ReadElement → Plan → List Value → List Value → Type 0
IsRowOver kind read plan values row = (are_over (bound_by plan values row) (tests_of plan) ≡ true) ⊎ (element_over kind (bound_by plan values row) read ≡ true)

abbrev pub IsSomeRowOver : TheoryName → ReadElement → Plan → List Value → List (List Value) → Type 0
IsSomeRowOver kind read plan values rows = (row : List Value) × IsMember rows row × IsRowOver kind read plan values row

-- one instance more is gathered
pub record HasOne (symbols : List Symbol) (kind : TheoryName) (read : ReadElement) (plan : Plan) (values row : List Value) (old new : Gathered) : Type 0 where
  pub judged : JudgedElement
  pub is : IsRowJudged symbols kind read plan values row judged
  pub together : (all : List JudgedElement) → IsGathered all old → IsGathered (all ++ judged ∷ []) new

-- all these instances are gathered
pub record HasAll (symbols : List Symbol) (kind : TheoryName) (read : ReadElement) (plan : Plan) (values : List Value) (rows : List (List Value)) (old new : Gathered) : Type 0 where
  pub judged : List JudgedElement
  pub each : AllZip (IsRowJudged symbols kind read plan values) rows judged
  pub together : (all : List JudgedElement) → IsGathered all old → IsGathered (all ++ judged) new

-- ELEMENTS

-- the plan is of this element of a rule with so many global variables
pub record IsPlanOfElement (read : ReadElement) (plan : Plan) (count : ℕ) : Type 0 where
  pub rule : ReadRule
  pub is : IsElementPlan rule read plan
  pub each : count ≡ length (globals rule)

-- the instances of the elements before a place are gathered, and nothing in them is over
pub record IsPart (symbols : List Symbol) (P : Symbol → Type 0) (rule : ReadRule) (values : List Value) (theory : ReadTheory) (count : ℕ) (gathered : Gathered) : Type 0 where
  pub all : List JudgedElement
  pub together : IsGathered all gathered
  pub each : AllByRecursion (IsInstanceJudged symbols P rule values theory) all
  pub known : AllByRecursion (IsKnownElement symbols) all
  pub whole : (key : Key) (read : ReadElement) → IsRelevantElement P rule values theory key read → key.place < count
      → (judged : JudgedElement) × IsMember all judged × IsJudged symbols theory.name (bound_in_element rule values read key.values) read judged
  pub settled : (key : Key) (read : ReadElement) → IsRelevantElement P rule values theory key read → key.place < count → is_element_over rule values theory read key.values ≡ false

-- the instances of all elements
abbrev pub IsWhole : List Symbol → (Symbol → Type 0) → ReadRule → List Value → ReadTheory → Gathered → Type 0
IsWhole symbols P rule values theory gathered = IsPart symbols P rule values theory (length theory.elements) gathered

-- STOPS

abbrev pub IsStopOfGathering : GatherStop → CollectStop → Type 0
IsStopOfGathering gather_stop.TooMany stop = stop ≡ collect_stop.TooMany
IsStopOfGathering gather_stop.Over stop = stop ≡ collect_stop.Outside cause.Overflow
IsStopOfGathering gather_stop.Memory stop = stop ≡ collect_stop.Memory

abbrev pub IsStopOfGuard : ElementStop → CollectStop → Type 0
IsStopOfGuard element_stop.Over stop = stop ≡ collect_stop.Outside cause.Overflow
IsStopOfGuard element_stop.Memory stop = stop ≡ collect_stop.Memory

abbrev pub IsStopOfAtom : AtomStop → CollectStop → Type 0
IsStopOfAtom (atom_stop.Outside cause) stop = stop ≡ collect_stop.Outside cause
IsStopOfAtom atom_stop.Memory stop = stop ≡ collect_stop.Memory
