-- The parts of a program's canonical ground program, over symbols.
use Rattle.std.specs.Prelude.{◌≡◌, ◌<◌, ◌^◌, ℕ, List, map}
use Rattle.std.specs.List.{AllByRecursion, AllZip}
use Rattle.symbols.specs.Symbol.{Symbol}
use Rattle.symbols.specs.Order.{symbol_cmp}
use Rattle.symbols.specs.Table.{symbol_at}
use Rattle.syntax_tree.specs.declared.literal.TheoryName.TheVariants as name
use Rattle.ground_model.specs.Rule.{RuleOf}
use Rattle.program_meaning.specs.Read.{ReadProgram}
use Rattle.program_meaning.specs.Ascending.{IsOrderedListOf}
use Rattle.program_meaning.specs.Substitution.{Key}
use Rattle.program_meaning.specs.Instance.{IsPossible}
use Rattle.program_meaning.specs.Theory.{place_cmp}
use Rattle.program_meaning.specs.Canonical.{IsVariable, IsDirected, has_objective, shows_atom, IsShownFlag, InstancesAs}
use Rattle.program_meaning.specs.Count.{ExceedsLimit}
use Rattle.program_meaning.specs.Outside.{IsSomehowOutside, HasTooManyVariables, HasLargeObjective}
use Rattle.program_meaning.specs.Said.{place_in}
use Rattle.numbered_program.specs.declared.parts.ProgramParts.{ProgramParts}
use Rattle.numbered_program.specs.declared.parts.ProgramStop.{ProgramStop}
use Rattle.numbered_program.specs.declared.parts.ProgramStop.TheVariants as stop
use Rattle.symbol_rules.specs.Reading.{rule_in, HasPlace, HasRule}

-- each id of the parts is one of so many symbols
pub record HasParts (size : ℕ) (parts : ProgramParts) : Type 0 where
  pub known_atoms : AllByRecursion (λ id. id < size) parts.atoms
  pub known_variables : AllByRecursion (λ id. id < size) parts.variables
  pub known_rules : AllByRecursion (HasRule size size) parts.rules
  pub known_smaller : AllByRecursion (HasPlace size) parts.smaller
  pub known_larger : AllByRecursion (HasPlace size) parts.larger

-- what the parts are of a program
pub record ArePartsOf (symbols : List Symbol) (program : ReadProgram) (parts : ProgramParts) : Type 0 where
  pub are_atoms : IsOrderedListOf symbol_cmp (IsPossible program.rules) (map (symbol_at symbols) parts.atoms)
  pub are_variables : IsOrderedListOf symbol_cmp (IsVariable program.rules) (map (symbol_at symbols) parts.variables)
  pub instances : List (Key × RuleOf Symbol Symbol)
  pub listed : InstancesAs program.rules instances
  pub are_rules : map (rule_in symbols) parts.rules ≡ map (λ instance. instance.1) instances
  pub objective : parts.has_objective ≡ has_objective program.rules
  pub are_smaller : IsOrderedListOf place_cmp (IsDirected program.rules name.Minimize) (map (place_in symbols) parts.smaller)
  pub are_larger : IsOrderedListOf place_cmp (IsDirected program.rules name.Maximize) (map (place_in symbols) parts.larger)
  pub atom_flags : parts.shown_atoms ≡ map (shows_atom program.shows) (map (symbol_at symbols) parts.atoms)
  pub variable_flags : AllZip (IsShownFlag program.rules) (map (symbol_at symbols) parts.variables) parts.shown_variables

-- they are those of some program that is within its limits but for its objective, of which nothing is said
pub record IsGrounded (symbols : List Symbol) (program : ReadProgram) (limit : ℕ) (parts : ProgramParts) : Type 0 where
  pub few : limit < 2 ^ 32
  pub count : ExceedsLimit program.rules limit → ⊥
  pub inside : (key : Key) → IsSomehowOutside program.rules parts.ends key → ⊥
  pub variables : HasTooManyVariables program.rules → ⊥
  pub are : ArePartsOf symbols program parts

abbrev pub AreGrounded : List Symbol → ProgramParts → Type 0
AreGrounded symbols parts = (program : ReadProgram) × (limit : ℕ) × IsGrounded symbols program limit parts

-- the objective of a program with these parts is too large
abbrev pub IsProgramStop : List Symbol → ProgramParts → ProgramStop → Type 0
IsProgramStop symbols parts stop.LargeObjective = (program : ReadProgram) → ArePartsOf symbols program parts → HasLargeObjective program.rules
IsProgramStop symbols parts stop.Memory = Unit {0}
