-- Reading conditions and theory atoms from the left, as a function of the words. Only the readers' own code and the laws cite this file.
use Rattle.std.specs.Prelude.{ℕ, Bool, true, false, ◌||◌, if◌then◌else◌, Option, Some, None, List, [], ◌∷◌, Ok}
use Rattle.std.specs.Option.{is_some}
use Rattle.symbols.specs.declared.rel.Rel.{Rel}
use Rattle.grammar.specs.declared.mark.Mark.{Mark}
use Rattle.grammar.specs.declared.mark.Mark.TheVariants as m
use Rattle.grammar.specs.Word.{Word, is_word}
use Rattle.grammar.specs.Word as word
use Rattle.grammar.specs.Row.{Row}
use Rattle.grammar.specs.Term.{AtomOf, UnaryOf, alone, interval, negated, number, text, variable, anonymous, atom, unit, group, single, tuple, comma}
use Rattle.grammar.specs.Theory.{FullTerm, ConditionOf, holds, compares, PlacesOf, GivenOf, ElementOf, TheoryOf, TheoryAt, relation, semicolon}
use Rattle.grammar.specs.Reading.{Reader, Level, Either, one, other, expected, pair_with, marked_with, closed_with, mapped_with, starts_next, maybe_with, signed_with, either_with, kept_with, row_with, term_with, unary_with, level}

-- the marks with which a term begins
abbrev pub begins_by : Mark → Bool
begins_by m.Minus = true
begins_by m.Open = true
begins_by _ = false

-- the words with which a term begins
abbrev pub begins_term : Word → Bool
begins_term (word.numeral n) = true
begins_term (word.name bytes) = true
begins_term (word.variable bytes) = true
begins_term word.anonymous = true
begins_term (word.string bytes) = true
begins_term word.negation = false
begins_term word.const_word = false
begins_term word.show_word = false
begins_term (word.mark mark) = begins_by mark

abbrev pub is_name : Word → Bool
is_name (word.name bytes) = true
is_name _ = false

abbrev pub is_relation : Word → Bool
is_relation next = is_some (relation next)

abbrev pub is_negation : Word → Bool
is_negation word.negation = true
is_negation _ = false

-- the words with which a condition begins
abbrev pub begins : Word → Bool
begins next = is_negation next || begins_term next

abbrev pub negation_by : Bool → Option (Unit {0})
negation_by true = Some tt
negation_by false = None

abbrev pub negation : Word → Option (Unit {0})
negation next = negation_by (is_negation next)

-- the name that comes next
abbrev pub name_with : Reader (List ℕ)
name_with [] = expected []
name_with (word.name name ∷ words) = Ok (name, words)
name_with (next ∷ words) = expected (next ∷ words)

-- ---- a term that is an atom
abbrev pub unary_atom : {D R : Type 0} → UnaryOf D R → Option (AtomOf D)
unary_atom (atom a) = Some a
unary_atom (negated d) = None
unary_atom (number n) = None
unary_atom (text bytes) = None
unary_atom (variable name) = None
unary_atom anonymous = None
unary_atom (unit room) = None
unary_atom (group t) = None
unary_atom (single t) = None
unary_atom (tuple t args) = None

abbrev pub row_atom : {A I S : Type 0} → Option A → List (S × I) → Option A
row_atom found [] = found
row_atom found (part ∷ parts) = None

abbrev pub term_atom : {D R : Type 0} → FullTerm D R → Option (AtomOf D)
term_atom (alone sum) = row_atom (row_atom (unary_atom sum.first.first) sum.first.rest) sum.rest
term_atom (interval left right) = None

-- an atom, or a comparison
abbrev pub PlainOf : Type 0 → Type 0 → Type 0
PlainOf D R = Either (AtomOf D) (FullTerm D R × (Rel × FullTerm D R))

-- a term with what it is compared with, as one of these
abbrev pub compared_by : {D R : Type 0} → FullTerm D R → Option (AtomOf D) → Option (Rel × FullTerm D R) → Option (PlainOf D R)
compared_by left found (Some right) = Some (other (left, right))
compared_by left (Some a) None = Some (one a)
compared_by left None None = None

abbrev pub compared : {D R : Type 0} → FullTerm D R × Option (Rel × FullTerm D R) → Option (PlainOf D R)
compared sides = compared_by sides.0 (term_atom sides.0) sides.1

abbrev pub condition_of : {D R : Type 0} → Either (Unit {0} × AtomOf D) (PlainOf D R) → ConditionOf D R
condition_of (one behind_not) = holds false behind_not.1
condition_of (other (one a)) = holds true a
condition_of (other (other sides)) = compares sides.0 sides.1.0 sides.1.1

-- ---- over the readers of a level
module _ {D R : Type 0} (here : Level D R) where
  abbrev pub full_with : Reader (FullTerm D R)
  full_with = term_with (unary_with here)

  abbrev pub atom_with : Reader (AtomOf D)
  atom_with words = (if starts_next is_name words then kept_with unary_atom (unary_with here) words else expected words)

  abbrev pub compared_with : Reader (Rel × FullTerm D R)
  compared_with = signed_with relation full_with

  -- a term, with what it is compared with
  abbrev pub sides_with : Reader (FullTerm D R × Option (Rel × FullTerm D R))
  sides_with = pair_with full_with (maybe_with is_relation compared_with)

  abbrev pub plain_with : Reader (PlainOf D R)
  plain_with = kept_with compared sides_with

  abbrev pub denied_with : Reader (Unit {0} × AtomOf D)
  denied_with = signed_with negation atom_with

  abbrev pub condition_with : Reader (ConditionOf D R)
  condition_with = mapped_with condition_of (either_with is_negation denied_with plain_with)

  abbrev pub conditions_with : Reader (Row (ConditionOf D R) (Unit {0}))
  conditions_with = row_with condition_with comma

  abbrev pub given_with : Reader (GivenOf D R)
  given_with = maybe_with (is_word m.Colon) (marked_with m.Colon (maybe_with begins conditions_with))

  abbrev pub duration_with : Reader (Option (FullTerm D R))
  duration_with = maybe_with (is_word m.At) (marked_with m.At full_with)

  abbrev pub places_with : Reader (Option (PlacesOf D R))
  places_with = maybe_with (is_word m.Comma) (marked_with m.Comma (row_with full_with comma))

  -- an element, part by part
  abbrev pub element_parts : Reader (FullTerm D R × (Option (FullTerm D R) × (Option (PlacesOf D R) × GivenOf D R)))
  element_parts = pair_with full_with (pair_with duration_with (pair_with places_with given_with))

  abbrev pub element_of : FullTerm D R × (Option (FullTerm D R) × (Option (PlacesOf D R) × GivenOf D R)) → ElementOf D R
  element_of parts = record { first = parts.0; duration = parts.1.0; rest = parts.1.1.0; condition = parts.1.1.1 }

  abbrev pub element_with : Reader (ElementOf D R)
  element_with = mapped_with element_of element_parts

  abbrev pub elements_with : Reader (Option (Row (ElementOf D R) (Unit {0})))
  elements_with = maybe_with begins_term (row_with element_with semicolon)

  abbrev pub braces_with : Reader (Option (Row (ElementOf D R) (Unit {0})))
  braces_with = marked_with m.OpenBrace (closed_with m.CloseBrace elements_with)

  abbrev pub guard_with : Reader (Option (Rel × FullTerm D R))
  guard_with = maybe_with is_relation compared_with

  abbrev pub theory_of : List ℕ × (Option (Row (ElementOf D R) (Unit {0})) × Option (Rel × FullTerm D R)) → TheoryOf D R
  theory_of parts = record { name = parts.0; elements = parts.1.0; guard = parts.1.1 }

  abbrev pub theory_with : Reader (TheoryOf D R)
  theory_with = mapped_with theory_of (marked_with m.And (pair_with name_with (pair_with braces_with guard_with)))

abbrev pub theory_at : (n : ℕ) → Reader (TheoryAt n)
theory_at n = theory_with (level n)
