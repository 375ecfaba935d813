-- The words of a statement as they are printed, with the blanks between some of them, and the rest of the pieces behind them.
use Rattle.std.specs.Prelude.{ℕ, true, false, Option, Some, None, List, [], ◌∷◌}
use Rattle.symbols.specs.declared.rel.Rel.{Rel}
use Rattle.grammar.specs.declared.mark.Mark.TheVariants as m
use Rattle.grammar.specs.Word.{Word}
use Rattle.grammar.specs.Word as word
use Rattle.grammar.specs.Row.{Row}
use Rattle.grammar.specs.Term.{AtomOf, atom_words, operand_words}
use Rattle.grammar.specs.Theory.{FullTerm, ConditionOf, holds, compares, PlacesOf, GivenOf, ElementOf, TheoryOf, full_words, rel_word}
use Rattle.grammar.specs.Statement.{LiteralOf, simple, theory, Separating, separating_word, BodyOf, ChosenOf, ChoiceOf, HeadOf, atom_head, choice_head, theory_head, ArrowOf, no_arrow, arrow, StatementOf, headed, constraint, constant, show_nothing, show, StatementAt}
use Rattle.grammar.specs.Standing.{Piece, solid, gap}

-- the words among pieces
abbrev pub words_in : List Piece → List Word
words_in [] = []
words_in (solid w ∷ pieces) = w ∷ words_in pieces
words_in (gap ∷ pieces) = words_in pieces

-- words with no blank between them
abbrev pub solids : List Word → List Piece → List Piece
solids [] rest = rest
solids (w ∷ words) rest = solid w ∷ solids words rest

-- a sign, with the blanks around it, and an item behind it; any number of times
module _ {I S : Type 0} (item : I → List Piece → List Piece) (sign : S → List Piece → List Piece) where
  abbrev pub tail_pieces : List (S × I) → List Piece → List Piece
  tail_pieces [] rest = rest
  tail_pieces (part ∷ parts) rest = sign part.0 (item part.1 (tail_pieces parts rest))

  abbrev pub row_pieces : Row I S → List Piece → List Piece
  row_pieces row rest = item row.first (tail_pieces row.rest rest)

abbrev pub maybe_pieces : {A : Type 0} → (A → List Piece → List Piece) → Option A → List Piece → List Piece
maybe_pieces pieces None rest = rest
maybe_pieces pieces (Some a) rest = pieces a rest

abbrev pub comma_tight : Unit {0} → List Piece → List Piece
comma_tight sign rest = solid (word.mark m.Comma) ∷ rest

abbrev pub comma_loose : Unit {0} → List Piece → List Piece
comma_loose sign rest = solid (word.mark m.Comma) ∷ gap ∷ rest

abbrev pub semicolon_tight : Unit {0} → List Piece → List Piece
semicolon_tight sign rest = solid (word.mark m.Semicolon) ∷ rest

abbrev pub semicolon_loose : Unit {0} → List Piece → List Piece
semicolon_loose sign rest = solid (word.mark m.Semicolon) ∷ gap ∷ rest

abbrev pub separating_pieces : Separating → List Piece → List Piece
separating_pieces sign rest = solid (separating_word sign) ∷ gap ∷ rest

-- a relation with a blank on each side
abbrev pub rel_pieces : Rel → List Piece → List Piece
rel_pieces r rest = gap ∷ solid (rel_word r) ∷ gap ∷ rest

abbrev pub maybe_rel_pieces : Option Rel → List Piece → List Piece
maybe_rel_pieces None rest = rest
maybe_rel_pieces (Some r) rest = rel_pieces r rest

abbrev pub atom_pieces : {D : Type 0} → (D → List Word → List Word) → AtomOf D → List Piece → List Piece
atom_pieces inner a rest = solids (atom_words inner a []) rest

module _ {D R : Type 0} (inner : D → List Word → List Word) where
  abbrev pub full_pieces : FullTerm D R → List Piece → List Piece
  full_pieces term rest = solids (full_words inner term []) rest

  abbrev pub condition_pieces : ConditionOf D R → List Piece → List Piece
  condition_pieces (holds true a) rest = atom_pieces inner a rest
  condition_pieces (holds false a) rest = solid word.negation ∷ gap ∷ atom_pieces inner a rest
  condition_pieces (compares left r right) rest = full_pieces left (rel_pieces r (full_pieces right rest))

  abbrev pub colon_pieces : Option (Row (ConditionOf D R) (Unit {0})) → List Piece → List Piece
  colon_pieces conditions rest = gap ∷ solid (word.mark m.Colon) ∷ gap ∷ maybe_pieces (row_pieces condition_pieces comma_loose) conditions rest

  abbrev pub given_pieces : GivenOf D R → List Piece → List Piece
  given_pieces = maybe_pieces colon_pieces

  abbrev pub duration_pieces : Option (FullTerm D R) → List Piece → List Piece
  duration_pieces = maybe_pieces (λ term rest. solid (word.mark m.At) ∷ full_pieces term rest)

  abbrev pub places_pieces : Option (PlacesOf D R) → List Piece → List Piece
  places_pieces = maybe_pieces (λ row rest. solid (word.mark m.Comma) ∷ row_pieces full_pieces comma_tight row rest)

  abbrev pub element_pieces : ElementOf D R → List Piece → List Piece
  element_pieces element rest = full_pieces element.first (duration_pieces element.duration (places_pieces element.rest (given_pieces element.condition rest)))

  abbrev pub elements_pieces : Option (Row (ElementOf D R) (Unit {0})) → List Piece → List Piece
  elements_pieces = maybe_pieces (row_pieces element_pieces semicolon_tight)

  abbrev pub guard_pieces : Option (Rel × FullTerm D R) → List Piece → List Piece
  guard_pieces = maybe_pieces (λ guard rest. rel_pieces guard.0 (full_pieces guard.1 rest))

  abbrev pub theory_pieces : TheoryOf D R → List Piece → List Piece
  theory_pieces a rest =
      solid (word.mark m.And) ∷ solid (word.name a.name) ∷ solid (word.mark m.OpenBrace) ∷ elements_pieces a.elements (solid (word.mark m.CloseBrace) ∷ guard_pieces a.guard rest)

  abbrev pub literal_pieces : LiteralOf D R → List Piece → List Piece
  literal_pieces (simple condition) rest = condition_pieces condition rest
  literal_pieces (theory true a) rest = theory_pieces a rest
  literal_pieces (theory false a) rest = solid word.negation ∷ gap ∷ theory_pieces a rest

  abbrev pub body_pieces : Option (BodyOf D R) → List Piece → List Piece
  body_pieces = maybe_pieces (row_pieces literal_pieces separating_pieces)

  abbrev pub left_pieces : Option (FullTerm D R × Option Rel) → List Piece → List Piece
  left_pieces = maybe_pieces (λ bound rest. full_pieces bound.0 (maybe_rel_pieces bound.1 rest))

  abbrev pub right_pieces : Option (Option Rel × FullTerm D R) → List Piece → List Piece
  right_pieces = maybe_pieces (λ bound rest. maybe_rel_pieces bound.0 (full_pieces bound.1 rest))

  abbrev pub chosen_pieces : ChosenOf D R → List Piece → List Piece
  chosen_pieces element rest = atom_pieces inner element.atom (given_pieces element.condition rest)

  abbrev pub chosens_pieces : Option (Row (ChosenOf D R) (Unit {0})) → List Piece → List Piece
  chosens_pieces = maybe_pieces (row_pieces chosen_pieces semicolon_loose)

  abbrev pub choice_pieces : ChoiceOf D R → List Piece → List Piece
  choice_pieces choice rest =
      left_pieces choice.left (solid (word.mark m.OpenBrace) ∷ chosens_pieces choice.elements (solid (word.mark m.CloseBrace) ∷ right_pieces choice.right rest))

  abbrev pub head_pieces : HeadOf D R → List Piece → List Piece
  head_pieces (atom_head a) rest = atom_pieces inner a rest
  head_pieces (choice_head choice) rest = choice_pieces choice rest
  head_pieces (theory_head a) rest = theory_pieces a rest

  abbrev pub arrow_pieces : ArrowOf D R → List Piece → List Piece
  arrow_pieces no_arrow rest = rest
  arrow_pieces (arrow body) rest = gap ∷ solid (word.mark m.Arrow) ∷ gap ∷ body_pieces body rest

  abbrev pub pieces_by : StatementOf D R → List Piece → List Piece
  pieces_by (headed head behind) rest = head_pieces head (arrow_pieces behind (solid (word.mark m.Dot) ∷ rest))
  pieces_by (constraint body) rest = solid (word.mark m.Arrow) ∷ gap ∷ body_pieces body (solid (word.mark m.Dot) ∷ rest)
  pieces_by (constant name term) rest =
      solid word.const_word ∷ gap ∷ solid (word.name name) ∷ gap ∷ solid (word.mark m.Equal) ∷ gap ∷ full_pieces term (solid (word.mark m.Dot) ∷ rest)
  pieces_by show_nothing rest = solid word.show_word ∷ solid (word.mark m.Dot) ∷ rest
  pieces_by (show name arity) rest =
      solid word.show_word ∷ gap ∷ solid (word.name name) ∷ solid (word.mark m.Divide) ∷ solid (word.numeral arity) ∷ solid (word.mark m.Dot) ∷ rest

abbrev pub statement_pieces : (n : ℕ) → StatementAt n → List Piece → List Piece
statement_pieces n = pieces_by (operand_words n)
