-- Where variables, `_`, intervals that are arguments, and atoms stand in a statement that begins at a place.
use Rattle.std.specs.Prelude.{ℕ, ◌+◌, true, false, Option, Some, None, List, [], ◌++◌}
use Rattle.symbols.specs.declared.rel.Rel.{Rel}
use Rattle.grammar.specs.declared.shape.Shape.{Shape}
use Rattle.grammar.specs.Word.{Word}
use Rattle.grammar.specs.Row.{Row}
use Rattle.grammar.specs.Parts.{maybe_gives, further}
use Rattle.grammar.specs.Term.{AtomOf, atom_words, unary_words, operand_words}
use Rattle.grammar.specs.Shape.{unary_shape, operand_shape}
use Rattle.grammar.specs.Sight.{Sighting, of_atom, seen, size, along, term_sights, atom_sights, unary_sights, operand_sights}
use Rattle.grammar.specs.Theory.{FullTerm, ConditionOf, holds, compares, PlacesOf, GivenOf, ElementOf, TheoryOf, full_words, condition_words, duration_words, places_words, element_words, elements_words}
use Rattle.grammar.specs.Statement.{LiteralOf, simple, theory, BodyOf, ChosenOf, ChoiceOf, HeadOf, atom_head, choice_head, theory_head, ArrowOf, no_arrow, arrow, StatementOf, headed, constraint, constant, show_nothing, show, StatementAt, literal_words, left_words, chosen_words, chosens_words, maybe_rel_words, head_words}

-- ---- places inside a form that begins at one
module _ {D R : Type 0} (words : D → List Word → List Word) where
  -- the places behind an element's first place, behind its duration and behind its further places
  abbrev pub behind_first : ElementOf D R → ℕ → ℕ
  behind_first element at = at + size (full_words words) element.first

  abbrev pub behind_duration : ElementOf D R → ℕ → ℕ
  behind_duration element at = behind_first element at + size (duration_words words) element.duration

  abbrev pub behind_rest : ElementOf D R → ℕ → ℕ
  behind_rest element at = behind_duration element at + size (places_words words) element.rest

  -- where the closing brace of a theory atom stands
  abbrev pub theory_brace : TheoryOf D R → ℕ → ℕ
  theory_brace a at = at + 3 + size (elements_words words) a.elements

  -- where the opening and the closing brace of a choice stand
  abbrev pub choice_opening : ChoiceOf D R → ℕ → ℕ
  choice_opening choice at = at + size (left_words words) choice.left

  abbrev pub choice_closing : ChoiceOf D R → ℕ → ℕ
  choice_closing choice at = choice_opening choice at + 1 + size (chosens_words words) choice.elements

module _ {D : Type 0} (words : D → List Word → List Word) (shape : D → Shape) (sights : D → ℕ → List Sighting) where
  abbrev pub atom_seen : AtomOf D → ℕ → List Sighting
  atom_seen a at = seen of_atom at ++ atom_sights words shape sights a at

module _ {D R : Type 0} (words : D → List Word → List Word) (shape : D → Shape) (sights : D → ℕ → List Sighting) where
  abbrev pub full_sights : FullTerm D R → ℕ → List Sighting
  full_sights = term_sights (unary_words words) (unary_shape shape) (unary_sights words shape sights)

  abbrev pub condition_sights : ConditionOf D R → ℕ → List Sighting
  condition_sights (holds true a) at = atom_seen words shape sights a at
  condition_sights (holds false a) at = atom_seen words shape sights a (at + 1)
  condition_sights (compares left r right) at = full_sights left at ++ full_sights right (at + size (full_words {R = R} words) left + 1)

  abbrev pub given_sights : GivenOf D R → ℕ → List Sighting
  given_sights = maybe_gives (further (maybe_gives (along condition_sights (size (condition_words words)))))

  abbrev pub duration_sights : Option (FullTerm D R) → ℕ → List Sighting
  duration_sights = maybe_gives (further full_sights)

  abbrev pub places_sights : Option (PlacesOf D R) → ℕ → List Sighting
  places_sights = maybe_gives (further (along full_sights (size (full_words words))))

  abbrev pub element_sights : ElementOf D R → ℕ → List Sighting
  element_sights element at =
      full_sights element.first at ++ duration_sights element.duration (behind_first words element at)
      ++ places_sights element.rest (behind_duration words element at) ++ given_sights element.condition (behind_rest words element at)

  abbrev pub elements_sights : Option (Row (ElementOf D R) (Unit {0})) → ℕ → List Sighting
  elements_sights = maybe_gives (along element_sights (size (element_words words)))

  abbrev pub guard_sights : Option (Rel × FullTerm D R) → ℕ → List Sighting
  guard_sights = maybe_gives (further (λ guard. full_sights guard.1))

  abbrev pub theory_sights : TheoryOf D R → ℕ → List Sighting
  theory_sights a at = elements_sights a.elements (at + 3) ++ guard_sights a.guard (theory_brace words a at + 1)

  abbrev pub literal_sights : LiteralOf D R → ℕ → List Sighting
  literal_sights (simple condition) at = condition_sights condition at
  literal_sights (theory true a) at = theory_sights a at
  literal_sights (theory false a) at = theory_sights a (at + 1)

  abbrev pub body_sights : Option (BodyOf D R) → ℕ → List Sighting
  body_sights None at = []
  body_sights (Some body) at = along literal_sights (size (literal_words words)) body at

  abbrev pub left_sights : Option (FullTerm D R × Option Rel) → ℕ → List Sighting
  left_sights None at = []
  left_sights (Some bound) at = full_sights bound.0 at

  abbrev pub right_sights : Option (Option Rel × FullTerm D R) → ℕ → List Sighting
  right_sights None at = []
  right_sights (Some bound) at = full_sights bound.1 (at + size maybe_rel_words bound.0)

  abbrev pub chosen_sights : ChosenOf D R → ℕ → List Sighting
  chosen_sights element at = atom_seen words shape sights element.atom at ++ given_sights element.condition (at + size (atom_words words) element.atom)

  abbrev pub chosens_sights : Option (Row (ChosenOf D R) (Unit {0})) → ℕ → List Sighting
  chosens_sights None at = []
  chosens_sights (Some row) at = along chosen_sights (size (chosen_words words)) row at

  abbrev pub choice_sights : ChoiceOf D R → ℕ → List Sighting
  choice_sights choice at = left_sights choice.left at ++ chosens_sights choice.elements (choice_opening words choice at + 1) ++ right_sights choice.right (choice_closing words choice at + 1)

  abbrev pub head_sights : HeadOf D R → ℕ → List Sighting
  head_sights (atom_head a) at = atom_seen words shape sights a at
  head_sights (choice_head choice) at = choice_sights choice at
  head_sights (theory_head a) at = theory_sights a at

  abbrev pub arrow_sights : ArrowOf D R → ℕ → List Sighting
  arrow_sights no_arrow at = []
  arrow_sights (arrow body) at = body_sights body (at + 1)

  abbrev pub statement_sights : StatementOf D R → ℕ → List Sighting
  statement_sights (headed head behind) at = head_sights head at ++ arrow_sights behind (at + size (head_words words) head)
  statement_sights (constraint body) at = body_sights body (at + 1)
  statement_sights (constant name term) at = full_sights term (at + 3)
  statement_sights show_nothing at = []
  statement_sights (show name arity) at = []

abbrev pub sights_of_statement : (n : ℕ) → StatementAt n → ℕ → List Sighting
sights_of_statement n = statement_sights (operand_words n) (operand_shape n) (operand_sights n)
