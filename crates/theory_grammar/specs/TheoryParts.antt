-- What is kept of theory atoms, part by part. The readers of this crate and of statements, and their laws, cite this file.
use Rattle.std.specs.Prelude.{◌≡◌, ℕ, ◌+◌, ◌<◌, ◌≤◌, length, Result, Ok, Err, Option, Some, None, List, ◌++◌}
use Rattle.syntax_tree.specs.declared.rule.Name.{Name}
use Rattle.lexer.specs.declared.token.Token.{Token}
use Rattle.grammar.specs.declared.check.Check.TheVariants.{UnknownTheory, BadGuard, BadTerm}
use Rattle.grammar.specs.declared.check.Failing.{Failing}
use Rattle.grammar.specs.Word.{words_at}
use Rattle.grammar.specs.Term.{operand_words}
use Rattle.grammar.specs.Shape.{operand_shape}
use Rattle.grammar.specs.Tree.{unary_tree, operand_tree}
use Rattle.grammar.specs.Sight.{operand_sights, operand_bads}
use Rattle.grammar.specs.Theory.{TheoryAt}
use Rattle.grammar.specs.StatementTree.{items_of, theory_name, element_tree, guard_tree}
use Rattle.grammar.specs.StatementSight.{theory_brace, theory_sights}
use Rattle.grammar.specs.Check.{is_unknown, is_bad_guard, operand_is_difference, elements_bads, guard_bads, sooner, first_of, fails_where}
use Rattle.grammar.specs.TheoryReading.{theory_at}
use Rattle.theory_grammar.specs.State.{Fails, least, named, seen_places, Extends}
use Rattle.theory_grammar.specs.TheoryState.{relation_there}
use Rattle.theory_grammar.specs.declared.seen.Seen.{Seen}
use Rattle.theory_grammar.specs.declared.fault.Stop.{Stop}
use Rattle.theory_grammar.specs.declared.theory.AtomParts.{AtomParts}

-- what stands at a place was read as a theory atom, and all that its parts give was kept
pub record ReadsTheory (text : List ℕ) (tokens : List Token) (at : ℕ) (old new : Seen) (parts : AtomParts) : Type 0 where
  pub form : TheoryAt 64
  pub is : theory_at 64 (words_at text tokens at) ≡ Ok (form, words_at text tokens parts.next)
  pub begun : at + 1 < parts.next
  pub closed : parts.brace < parts.next
  pub within : parts.next ≤ length tokens
  pub brace : parts.brace ≡ theory_brace (operand_words 64) form at
  pub name : parts.name ≡ theory_name form.name
  pub names : new.names ≡ named old.names (theory_sights (operand_words 64) (operand_shape 64) (operand_sights 64) form at)
  pub places : new.places ≡ old.places ++ seen_places tokens old.names (theory_sights (operand_words 64) (operand_shape 64) (operand_sights 64) form at)
  pub in_elements : parts.in_elements ≡ least None (elements_bads (operand_words 64) (operand_shape 64) (operand_bads 64) (operand_is_difference 64) parts.name form.elements (at + 3))
  pub in_guard : parts.in_guard ≡ least None (guard_bads (operand_words 64) (operand_shape 64) (operand_bads 64) (operand_is_difference 64) form.guard (parts.brace + 1))
  pub elements : (later : List Name) → Extends new.names later → parts.elements ≡ items_of (element_tree (operand_tree later 64) (unary_tree later (operand_tree later 64))) form.elements
  pub guard : (later : List Name) → Extends new.names later → parts.guard ≡ guard_tree (operand_tree later 64) (unary_tree later (operand_tree later 64)) form.guard

abbrev pub PartsRead : List ℕ → List Token → ℕ → Seen → Seen → Result AtomParts Stop → Type 0
PartsRead text tokens at old new (Ok parts) = ReadsTheory text tokens at old new parts
PartsRead text tokens at old new (Err failed) = Fails text tokens (theory_at 64 (words_at text tokens at)) failed

-- the failed check so far, or a bad term, where that comes before it
abbrev pub with_bad : Option Failing → Option ℕ → Option Failing
with_bad so_far None = so_far
with_bad so_far (Some at) = sooner so_far (record { check = BadTerm; at = at })

-- the failed check so far, or one of the parts where that comes first
abbrev pub first_by : Option Failing → AtomParts → ℕ → Option Failing
first_by so_far parts at =
    with_bad
    (first_of (with_bad (first_of so_far (fails_where (is_unknown parts.name) UnknownTheory (at + 1))) parts.in_elements) (fails_where (is_bad_guard parts.name (relation_there parts.guard)) BadGuard (parts.brace + 1)))
    parts.in_guard
