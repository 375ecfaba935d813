-- What the relevant instances of a program gave, over symbols.
use Rattle.std.specs.Prelude.{◌≡◌, ◌<◌, ◌^◌, ℕ, List, map}
use Rattle.std.specs.List.{AllByRecursion}
use Rattle.symbols.specs.Symbol.{Symbol}
use Rattle.symbols.specs.Order.{symbol_cmp}
use Rattle.symbols.specs.Table.{symbol_at}
use Rattle.syntax_tree.specs.declared.statement.Program.{Program}
use Rattle.rewriting.specs.declared.program.RewrittenProgram.{RewrittenProgram}
use Rattle.rewriting.specs.Rewriting.{IsRewriting}
use Rattle.ground_model.specs.Members.{IsListOf}
use Rattle.ground_model.specs.Rule.{RuleOf}
use Rattle.program_meaning.specs.Read.{ReadRule}
use Rattle.program_meaning.specs.Ascending.{IsOrderedListOf}
use Rattle.program_meaning.specs.Substitution.{Key}
use Rattle.program_meaning.specs.Instance.{IsPossible}
use Rattle.program_meaning.specs.Count.{ExceedsLimit}
use Rattle.program_meaning.specs.Canonical.{InstancesAs, IsVariable}
use Rattle.program_meaning.specs.Outside.{HasLargeObjective, HasTooManyVariables, IsSomehowOutside}
use Rattle.safety_meaning.specs.Program.{rules_of}
use Rattle.symbol_rules.specs.Reading.{HasRule, rule_in}
use Rattle.directed_tuples.specs.Tuples.{AreKnownTuples, HaveTuples}
use Rattle.numbered_program.specs.declared.parts.ProgramStop.{ProgramStop}
use Rattle.numbered_program.specs.declared.parts.ProgramStop.TheVariants as stop
use Rattle.program_parts.specs.declared.grounding.Grounding.{Grounding}

-- each id in it is one of so many symbols
pub record HasGrounding (size : ℕ) (found : Grounding) : Type 0 where
  pub known_atoms : AllByRecursion (λ id. id < size) found.atoms
  pub known_variables : AllByRecursion (λ id. id < size) found.variables
  pub known_rules : AllByRecursion (HasRule size size) found.rules
  pub known_directives : AreKnownTuples size found.directives

-- it is what all relevant instances of these rules gave
pub record IsGroundingOf (symbols : List Symbol) (rules : List ReadRule) (found : Grounding) : Type 0 where
  pub atoms : IsListOf (IsPossible rules) (map (symbol_at symbols) found.atoms)
  pub variables : IsOrderedListOf symbol_cmp (IsVariable rules) (map (symbol_at symbols) found.variables)
  pub instances : List (Key × RuleOf Symbol Symbol)
  pub listed : InstancesAs rules instances
  pub are_rules : map (rule_in symbols) found.rules ≡ map (λ instance. instance.1) instances
  pub tuples : HaveTuples rules symbols found.directives

-- it is that of some program that is within its limits but for its objective, of which nothing is said
pub record IsWithinFor (symbols : List Symbol) (rules : List ReadRule) (limit : ℕ) (found : Grounding) : Type 0 where
  pub few : limit < 2 ^ 32
  pub count : ExceedsLimit rules limit → ⊥
  pub inside : (key : Key) → IsSomehowOutside rules found.ends key → ⊥
  pub variables : HasTooManyVariables rules → ⊥
  pub are : IsGroundingOf symbols rules found

abbrev pub IsGroundingWithin : List Symbol → RewrittenProgram → Grounding → Type 0
IsGroundingWithin symbols program found = (old : Program) × (limit : ℕ) × IsRewriting old program × IsWithinFor symbols (rules_of old.statements) limit found

-- the objective of a program of which it is what instances gave is too large
abbrev pub IsWholeStop : List Symbol → RewrittenProgram → Grounding → ProgramStop → Type 0
IsWholeStop symbols program found stop.LargeObjective =
    (old : Program) → IsRewriting old program → IsGroundingOf symbols (rules_of old.statements) found → HasLargeObjective (rules_of old.statements)
IsWholeStop symbols program found stop.Memory = Unit {0}
