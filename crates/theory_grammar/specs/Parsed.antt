-- What the public readers promise.
use Rattle.std.specs.Prelude.{◌≡◌, ℕ, ◌+◌, ◌-◌, ◌<◌, ◌≤◌, Bool, true, false, List, ◌++◌, length, Option, Some, None, Result, Ok, Err}
use Rattle.lexer.specs.declared.token.Token.{Token}
use Rattle.syntax_tree.specs.declared.rule.Name.{Name}
use Rattle.syntax_tree.specs.declared.term.Term.{Term}
use Rattle.grammar.specs.declared.shape.Shape.{Shape}
use Rattle.grammar.specs.declared.shape.Shape.TheVariants.{Atom, Interval, Other}
use Rattle.grammar.specs.Word.{Word, words_at, Ends}
use Rattle.grammar.specs.Term.{TermAt, term_words, term_goes_on, unary_words, operand_words, unary_goes_on, operand_goes_on}
use Rattle.grammar.specs.Shape.{term_shape, unary_shape, operand_shape}
use Rattle.grammar.specs.Tree.{term_tree, unary_tree, operand_tree}
use Rattle.grammar.specs.Sight.{Sighting, term_sights, unary_sights, operand_sights, term_bads, unary_bads, operand_bads}
use Rattle.grammar.specs.Faults.{IsExpected, IsTooDeep}
use Rattle.theory_grammar.specs.Kept.{place_of, least, named, places_of}
use Rattle.theory_grammar.specs.declared.fault.ParseCause.{ParseCause}
use Rattle.theory_grammar.specs.declared.fault.ParseCause.TheVariants as cause
use Rattle.theory_grammar.specs.declared.fault.ParseFault.{ParseFault}
use Rattle.theory_grammar.specs.declared.fault.ParseStop.{ParseStop}
use Rattle.theory_grammar.specs.declared.fault.ParseStop.TheVariants.{Fault, Memory}
use Rattle.theory_grammar.specs.declared.fault.Stop.{Stop}
use Rattle.theory_grammar.specs.declared.fault.Stop.TheVariants as stop
use Rattle.theory_grammar.specs.declared.parse.ParsedTerm.{ParsedTerm}

-- ---- terms at a depth
abbrev pub words_of_term : (n : ℕ) → TermAt n → List Word → List Word
words_of_term n = term_words (unary_words (operand_words n))

abbrev pub goes_on_with : (n : ℕ) → TermAt n → Word → Bool
goes_on_with n = term_goes_on (unary_goes_on (operand_goes_on n))

abbrev pub shape_of_term : (n : ℕ) → TermAt n → Shape
shape_of_term n = term_shape (unary_shape (operand_shape n))

abbrev pub tree_of_term : List Name → (n : ℕ) → TermAt n → Term
tree_of_term names n = term_tree (unary_tree names (operand_tree names n))

abbrev pub sights_of_term : (n : ℕ) → TermAt n → ℕ → List Sighting
sights_of_term n = term_sights (unary_words (operand_words n)) (unary_shape (operand_shape n)) (unary_sights (operand_words n) (operand_shape n) (operand_sights n))

abbrev pub bads_of_term : (n : ℕ) → TermAt n → ℕ → List ℕ
bads_of_term n = term_bads (unary_words (operand_words n)) (unary_shape (operand_shape n)) (unary_bads (operand_words n) (operand_shape n) (operand_bads n))

abbrev pub is_atom : Shape → Bool
is_atom Atom = true
is_atom Interval = false
is_atom Other = false

-- the failed check with the least place
abbrev pub bad_term : List ℕ → List Token → Option ℕ → Option ParseFault
bad_term text tokens None = None
bad_term text tokens (Some at) = Some (record { at = place_of text tokens at; cause = cause.BadTerm })

-- a refusal by the number of a word, with its place in the text
abbrev pub stopped : List ℕ → List Token → Stop → ParseStop
stopped text tokens (stop.Expected at) = Fault (record { at = place_of text tokens at; cause = cause.Expected })
stopped text tokens (stop.TooDeep at) = Fault (record { at = place_of text tokens at; cause = cause.TooDeep })
stopped text tokens stop.Memory = Memory

-- The tokens from a number on begin with a term, as long as it goes, that nests at most 64 deep, and this is what it gives.
pub record FoundTerm (text : List ℕ) (tokens : List Token) (from : ℕ) (old_names : List Name) (old_places : List ℕ) (names : List Name) (places : List ℕ) (parsed : ParsedTerm) : Type 0 where
  pub form : TermAt 64
  pub derived : words_at text tokens (from - 1) ≡ words_of_term 64 form (words_at text tokens (parsed.next - 1))
  pub longest : Ends (goes_on_with 64 form) (words_at text tokens (parsed.next - 1))
  pub forward : from < parsed.next
  pub within : parsed.next ≤ length tokens + 1
  pub tree : parsed.term ≡ tree_of_term names 64 form
  pub named : names ≡ named old_names (sights_of_term 64 form (from - 1))
  pub placed : places ≡ old_places ++ places_of tokens (sights_of_term 64 form (from - 1))
  pub atom : parsed.is_atom ≡ is_atom (shape_of_term 64 form)
  pub checked : parsed.fault ≡ bad_term text tokens (least None (bads_of_term 64 form (from - 1)))

-- no term stands there
abbrev pub StandsNone : List ℕ → List Token → ℕ → Type 0
StandsNone text tokens from = (form : TermAt 64) (behind : List Word) → words_at text tokens (from - 1) ≡ words_of_term 64 form behind → Ends (goes_on_with 64 form) behind → ⊥

-- a fault is given only where no term stands
abbrev pub NoTerm : List ℕ → List Token → ℕ → Result ParsedTerm ParseStop → Type 0
NoTerm text tokens from (Ok parsed) = Unit {0}
NoTerm text tokens from (Err (Fault fault)) = StandsNone text tokens from
NoTerm text tokens from (Err Memory) = Unit {0}

-- the words from a number on are parted at the place of a fault, where something is claimed
pub record IsAt (Claim : List Word → List Word → Type 0) (text : List ℕ) (tokens : List Token) (from : ℕ) (place : ℕ) : Type 0 where
  pub front : List Word
  pub after : List Word
  pub split : words_at text tokens (from - 1) ≡ front ++ after
  pub is : place ≡ place_of text tokens (from - 1 + length front)
  pub claim : Claim front after

-- the fault of a cause
abbrev pub IsTermFaultBy : List ℕ → List Token → ℕ → ℕ → ParseCause → Type 0
IsTermFaultBy text tokens from at cause.Expected = IsAt (IsExpected TermAt words_of_term 64) text tokens from at
IsTermFaultBy text tokens from at cause.TooDeep = IsAt (IsTooDeep TermAt words_of_term 64) text tokens from at
IsTermFaultBy text tokens from at cause.UnknownTheory = ⊥
IsTermFaultBy text tokens from at cause.BadGuard = ⊥
IsTermFaultBy text tokens from at cause.BadTerm = ⊥

abbrev pub IsTermFault : List ℕ → List Token → ℕ → Result ParsedTerm ParseStop → Type 0
IsTermFault text tokens from (Ok parsed) = Unit {0}
IsTermFault text tokens from (Err (Fault fault)) = IsTermFaultBy text tokens from fault.at fault.cause
IsTermFault text tokens from (Err Memory) = Unit {0}
