-- Reading statements from the left, as a function of the words. Only the readers' own code and the laws cite this file.
use Rattle.std.specs.Prelude.{ℕ, Bool, true, false, ◌||◌, Option, Some, None, List, [], ◌∷◌, Ok}
use Rattle.symbols.specs.declared.rel.Rel.{Rel}
use Rattle.grammar.specs.declared.mark.Mark.{Mark}
use Rattle.grammar.specs.declared.mark.Mark.TheVariants as m
use Rattle.grammar.specs.Word.{Word, is_word}
use Rattle.grammar.specs.Word as word
use Rattle.grammar.specs.Row.{Row}
use Rattle.grammar.specs.Term.{AtomOf}
use Rattle.grammar.specs.Theory.{FullTerm, holds, compares, GivenOf, TheoryOf, relation, semicolon}
use Rattle.grammar.specs.Statement.{LiteralOf, simple, theory, separating, BodyOf, ChosenOf, ChoiceOf, HeadOf, atom_head, choice_head, theory_head, ArrowOf, no_arrow, arrow, StatementOf, headed, constraint, constant, show_nothing, show, StatementAt}
use Rattle.grammar.specs.Reading.{Reader, Level, Either, one, other, expected, before, pair_with, marked_with, closed_with, mapped_with, maybe_with, signed_with, either_with, kept_with, row_with, level}
use Rattle.grammar.specs.TheoryReading.{begins, begins_term, is_name, is_relation, is_negation, negation_by, negation, name_with, term_atom, PlainOf, full_with, atom_with, compared_with, plain_with, given_with, theory_with}

abbrev pub is_const : Word → Bool
is_const word.const_word = true
is_const _ = false

abbrev pub is_show : Word → Bool
is_show word.show_word = true
is_show _ = false

-- `#const` and `#show` as signs
abbrev pub const_sign : Word → Option (Unit {0})
const_sign next = negation_by (is_const next)

abbrev pub show_sign : Word → Option (Unit {0})
show_sign next = negation_by (is_show next)

-- the words with which a literal begins
abbrev pub begins_literal : Word → Bool
begins_literal next = is_word m.And next || begins next

-- the words with which a right bound begins
abbrev pub begins_right : Word → Bool
begins_right next = is_relation next || begins_term next

-- the words with which what stands behind a left bound begins
abbrev pub is_bounding : Word → Bool
is_bounding next = is_relation next || is_word m.OpenBrace next

-- the number that comes next
abbrev pub numeral_with : Reader ℕ
numeral_with [] = expected []
numeral_with (word.numeral n ∷ words) = Ok (n, words)
numeral_with (next ∷ words) = expected (next ∷ words)

-- a mark alone
abbrev pub mark_with : Mark → Reader (Unit {0})
mark_with mark = before mark tt

-- the elements of a choice, and its right bound
abbrev pub FreeOf : Type 0 → Type 0 → Type 0
FreeOf D R = Option (Row (ChosenOf D R) (Unit {0})) × Option (Option Rel × FullTerm D R)

-- an atom, or a choice with a left bound
abbrev pub LedOf : Type 0 → Type 0 → Type 0
LedOf D R = Either (AtomOf D) (FullTerm D R × Either (Rel × FreeOf D R) (FreeOf D R))

-- ---- what is read, as the forms of the grammar
module _ {D R : Type 0} where
  abbrev pub literal_of : Either (Unit {0} × Either (TheoryOf D R) (AtomOf D)) (Either (TheoryOf D R) (PlainOf D R)) → LiteralOf D R
  literal_of (one (sign, one t)) = theory false t
  literal_of (one (sign, other a)) = simple (holds false a)
  literal_of (other (one t)) = theory true t
  literal_of (other (other (one a))) = simple (holds true a)
  literal_of (other (other (other sides))) = simple (compares sides.0 sides.1.0 sides.1.1)

  abbrev pub chosen_of : AtomOf D × GivenOf D R → ChosenOf D R
  chosen_of parts = record { atom = parts.0; condition = parts.1 }

  abbrev pub right_of : Either (Rel × FullTerm D R) (FullTerm D R) → Option Rel × FullTerm D R
  right_of (one guard) = (Some guard.0, guard.1)
  right_of (other term) = (None, term)

  abbrev pub choice_of : Option (FullTerm D R × Option Rel) → FreeOf D R → ChoiceOf D R
  choice_of left free = record { left = left; elements = free.0; right = free.1 }

  -- what stands behind a left bound
  abbrev pub bounded_of : FullTerm D R → Either (Rel × FreeOf D R) (FreeOf D R) → ChoiceOf D R
  bounded_of left (one behind) = choice_of (Some (left, Some behind.0)) behind.1
  bounded_of left (other behind) = choice_of (Some (left, None)) behind

  -- a term with what stands behind it: a choice with this left bound, or an atom
  abbrev pub led_by : FullTerm D R → Option (AtomOf D) → Option (Either (Rel × FreeOf D R) (FreeOf D R)) → Option (LedOf D R)
  led_by left found (Some behind) = Some (other (left, behind))
  led_by left (Some a) None = Some (one a)
  led_by left None None = None

  abbrev pub led : FullTerm D R × Option (Either (Rel × FreeOf D R) (FreeOf D R)) → Option (LedOf D R)
  led parts = led_by parts.0 (term_atom parts.0) parts.1

  abbrev pub head_of : Either (TheoryOf D R) (Either (LedOf D R) (FreeOf D R)) → HeadOf D R
  head_of (one t) = theory_head t
  head_of (other (one (one a))) = atom_head a
  head_of (other (one (other bounded))) = choice_head (bounded_of bounded.0 bounded.1)
  head_of (other (other free)) = choice_head (choice_of None free)

  abbrev pub arrow_of : Option (Option (BodyOf D R)) → ArrowOf D R
  arrow_of None = no_arrow
  arrow_of (Some body) = arrow body

  abbrev pub rule_of : HeadOf D R × ArrowOf D R → StatementOf D R
  rule_of parts = headed parts.0 parts.1

  abbrev pub constant_of : Unit {0} × (List ℕ × FullTerm D R) → StatementOf D R
  constant_of parts = constant parts.1.0 parts.1.1

  abbrev pub show_of : Unit {0} × Either (List ℕ × ℕ) (Unit {0}) → StatementOf D R
  show_of (sign, one predicate) = show predicate.0 predicate.1
  show_of (sign, other dot) = show_nothing

  abbrev pub statement_of : Either (Option (BodyOf D R)) (Either (StatementOf D R) (Either (StatementOf D R) (StatementOf D R))) → StatementOf D R
  statement_of (one body) = constraint body
  statement_of (other (one s)) = s
  statement_of (other (other (one s))) = s
  statement_of (other (other (other s))) = s

-- ---- over the readers of a level
module _ {D R : Type 0} (here : Level D R) where
  -- behind `not`
  abbrev pub behind_not_with : Reader (Unit {0} × Either (TheoryOf D R) (AtomOf D))
  behind_not_with = signed_with negation (either_with (is_word m.And) (theory_with here) (atom_with here))

  abbrev pub literal_with : Reader (LiteralOf D R)
  literal_with = mapped_with literal_of (either_with is_negation behind_not_with (either_with (is_word m.And) (theory_with here) (plain_with here)))

  abbrev pub body_with : Reader (Option (BodyOf D R))
  body_with = maybe_with begins_literal (row_with literal_with separating)

  abbrev pub chosen_with : Reader (ChosenOf D R)
  chosen_with = mapped_with chosen_of (pair_with (atom_with here) (given_with here))

  abbrev pub chosens_with : Reader (Option (Row (ChosenOf D R) (Unit {0})))
  chosens_with = maybe_with is_name (row_with chosen_with semicolon)

  abbrev pub right_with : Reader (Option (Option Rel × FullTerm D R))
  right_with = maybe_with begins_right (mapped_with right_of (either_with is_relation (compared_with here) (full_with here)))

  -- a choice from its opening brace on
  abbrev pub free_with : Reader (FreeOf D R)
  free_with = pair_with (marked_with m.OpenBrace (closed_with m.CloseBrace chosens_with)) right_with

  abbrev pub bounded_with : Reader (Either (Rel × FreeOf D R) (FreeOf D R))
  bounded_with = either_with is_relation (signed_with relation free_with) free_with

  -- a head that begins with a term
  abbrev pub led_with : Reader (LedOf D R)
  led_with = kept_with led (pair_with (full_with here) (maybe_with is_bounding bounded_with))

  abbrev pub head_with : Reader (HeadOf D R)
  head_with = mapped_with head_of (either_with (is_word m.And) (theory_with here) (either_with begins_term led_with free_with))

  abbrev pub arrow_with : Reader (ArrowOf D R)
  arrow_with = mapped_with arrow_of (maybe_with (is_word m.Arrow) (marked_with m.Arrow body_with))

  abbrev pub rule_with : Reader (StatementOf D R)
  rule_with = mapped_with rule_of (closed_with m.Dot (pair_with head_with arrow_with))

  abbrev pub constraint_with : Reader (Option (BodyOf D R))
  constraint_with = marked_with m.Arrow (closed_with m.Dot body_with)

  abbrev pub constant_with : Reader (StatementOf D R)
  constant_with = mapped_with constant_of (signed_with const_sign (pair_with name_with (marked_with m.Equal (closed_with m.Dot (full_with here)))))

  abbrev pub show_with : Reader (StatementOf D R)
  show_with = mapped_with show_of (signed_with show_sign (either_with is_name (pair_with name_with (marked_with m.Divide (closed_with m.Dot numeral_with))) (mark_with m.Dot)))

  abbrev pub statement_with : Reader (StatementOf D R)
  statement_with = mapped_with statement_of (either_with (is_word m.Arrow) constraint_with (either_with is_const constant_with (either_with is_show show_with rule_with)))

abbrev pub statement_at : (n : ℕ) → Reader (StatementAt n)
statement_at n = statement_with (level n)
