-- What the public reader of theory atoms promises.
use Rattle.std.specs.Prelude.{◌≡◌, ℕ, ◌+◌, ◌-◌, ◌<◌, ◌≤◌, Bool, List, ◌++◌, length, Option, Some, None, Result, Ok, Err}
use Rattle.lexer.specs.declared.token.Token.{Token}
use Rattle.syntax_tree.specs.declared.rule.Name.{Name}
use Rattle.syntax_tree.specs.declared.literal.TheoryAtom.{TheoryAtom}
use Rattle.grammar.specs.declared.check.Check.{Check}
use Rattle.grammar.specs.declared.check.Check.TheVariants as check
use Rattle.grammar.specs.declared.check.Failing.{Failing}
use Rattle.grammar.specs.Word.{Word, words_at, Ends}
use Rattle.grammar.specs.Term.{operand_words, operand_goes_on}
use Rattle.grammar.specs.Shape.{operand_shape}
use Rattle.grammar.specs.Tree.{unary_tree, operand_tree}
use Rattle.grammar.specs.Sight.{Sighting, operand_sights, operand_bads}
use Rattle.grammar.specs.Theory.{TheoryAt, theory_words, theory_goes_on}
use Rattle.grammar.specs.StatementTree.{theory_tree}
use Rattle.grammar.specs.StatementSight.{theory_sights}
use Rattle.grammar.specs.Check.{operand_is_difference, theory_fails, first_of}
use Rattle.grammar.specs.Faults.{IsExpected, IsTooDeep}
use Rattle.theory_grammar.specs.Kept.{place_of, named, places_of}
use Rattle.theory_grammar.specs.Parsed.{IsAt}
use Rattle.theory_grammar.specs.declared.fault.ParseCause.{ParseCause}
use Rattle.theory_grammar.specs.declared.fault.ParseCause.TheVariants as cause
use Rattle.theory_grammar.specs.declared.fault.ParseFault.{ParseFault}
use Rattle.theory_grammar.specs.declared.fault.ParseStop.{ParseStop}
use Rattle.theory_grammar.specs.declared.fault.ParseStop.TheVariants.{Fault, Memory}
use Rattle.theory_grammar.specs.declared.theory.ParsedTheory.{ParsedTheory}

-- ---- theory atoms at a depth
abbrev pub words_of_theory : (n : ℕ) → TheoryAt n → List Word → List Word
words_of_theory n = theory_words (operand_words n)

abbrev pub goes_on_with : (n : ℕ) → TheoryAt n → Word → Bool
goes_on_with n = theory_goes_on (operand_goes_on n)

abbrev pub tree_of_theory : List Name → (n : ℕ) → TheoryAt n → TheoryAtom
tree_of_theory names n = theory_tree (operand_tree names n) (unary_tree names (operand_tree names n))

abbrev pub sights_of_theory : (n : ℕ) → TheoryAt n → ℕ → List Sighting
sights_of_theory n = theory_sights (operand_words n) (operand_shape n) (operand_sights n)

-- every check that fails inside
abbrev pub fails_of_theory : (n : ℕ) → TheoryAt n → ℕ → List Failing
fails_of_theory n = theory_fails (operand_words n) (operand_shape n) (operand_bads n) (operand_is_difference n)

-- the cause of a failed check; WrongPlace and TooManyVariables are no checks inside a theory atom
abbrev pub cause_of : Check → ParseCause
cause_of check.UnknownTheory = cause.UnknownTheory
cause_of check.BadGuard = cause.BadGuard
cause_of check.BadTerm = cause.BadTerm
cause_of check.WrongPlace = cause.BadTerm
cause_of check.TooManyVariables = cause.BadTerm

abbrev pub first_fault : List ℕ → List Token → Option Failing → Option ParseFault
first_fault text tokens None = None
first_fault text tokens (Some failing) = Some (record { at = place_of text tokens failing.at; cause = cause_of failing.check })

-- The tokens from a number on begin with a theory atom, as long as it goes, that nests at most 64 deep, and this is what it gives.
pub record FoundTheory (text : List ℕ) (tokens : List Token) (from : ℕ) (old_names : List Name) (old_places : List ℕ) (names : List Name) (places : List ℕ) (parsed : ParsedTheory) : Type 0 where
  pub form : TheoryAt 64
  pub derived : words_at text tokens (from - 1) ≡ words_of_theory 64 form (words_at text tokens (parsed.next - 1))
  pub longest : Ends (goes_on_with 64 form) (words_at text tokens (parsed.next - 1))
  pub forward : from < parsed.next
  pub within : parsed.next ≤ length tokens + 1
  pub tree : parsed.atom ≡ tree_of_theory names 64 form
  pub named : names ≡ named old_names (sights_of_theory 64 form (from - 1))
  pub placed : places ≡ old_places ++ places_of tokens (sights_of_theory 64 form (from - 1))
  pub checked : parsed.fault ≡ first_fault text tokens (first_of None (fails_of_theory 64 form (from - 1)))

-- no theory atom stands there
abbrev pub StandsNone : List ℕ → List Token → ℕ → Type 0
StandsNone text tokens from = (form : TheoryAt 64) (behind : List Word) → words_at text tokens (from - 1) ≡ words_of_theory 64 form behind → Ends (goes_on_with 64 form) behind → ⊥

-- a fault is given only where no theory atom stands
abbrev pub NoTheory : List ℕ → List Token → ℕ → Result ParsedTheory ParseStop → Type 0
NoTheory text tokens from (Ok parsed) = Unit {0}
NoTheory text tokens from (Err (Fault fault)) = StandsNone text tokens from
NoTheory text tokens from (Err Memory) = Unit {0}

-- the fault of a cause
abbrev pub IsTheoryFaultBy : List ℕ → List Token → ℕ → ℕ → ParseCause → Type 0
IsTheoryFaultBy text tokens from at cause.Expected = IsAt (IsExpected TheoryAt words_of_theory 64) text tokens from at
IsTheoryFaultBy text tokens from at cause.TooDeep = IsAt (IsTooDeep TheoryAt words_of_theory 64) text tokens from at
IsTheoryFaultBy text tokens from at cause.UnknownTheory = ⊥
IsTheoryFaultBy text tokens from at cause.BadGuard = ⊥
IsTheoryFaultBy text tokens from at cause.BadTerm = ⊥

abbrev pub IsTheoryFault : List ℕ → List Token → ℕ → Result ParsedTheory ParseStop → Type 0
IsTheoryFault text tokens from (Ok parsed) = Unit {0}
IsTheoryFault text tokens from (Err (Fault fault)) = IsTheoryFaultBy text tokens from fault.at fault.cause
IsTheoryFault text tokens from (Err Memory) = Unit {0}
